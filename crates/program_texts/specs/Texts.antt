-- What the small program prints (document 01, "At the edges"): the count and a line for each finding, or a refusal; and text in a lent room.
-- Assumes nothing.
use Rattle.std.specs.Prelude.{ℕ, zero, suc, ◌+◌, ◌-◌, ◌≡◌, List, [], ◌++◌, leb, length, take, drop}
use Rattle.text_scan.specs.Bytes.{text}
use Rattle.text_scan.specs.Choice.{pick}
use Rattle.table_join.specs.Written.{decimal}
use Rattle.list_findings.specs.declared.Finding.{Finding}
use Rattle.list_findings.specs.Findings.{width, record_at}

-- behind the first bytes of a room stands a text, which ends at r; the rest is as it was
pub record Put (old : List ℕ) (at : ℕ) (t : List ℕ) (r : ℕ) (new : List ℕ) : Type 0 where
  pub ends : r ≡ at + length t
  pub stands : take r new ≡ take at old ++ t
  pub rest : drop r new ≡ drop r old
  pub long : length new ≡ length old

-- PROCEDURE FIRST AFTER
unfoldable pub finding_line : Finding → List ℕ
finding_line f = decimal f.procedure ++ text " " ++ (decimal f.first ++ text " ") ++ (decimal f.after ++ text "\n")

-- the lines of the first n records from number k of a run on, or of those that there are
unfoldable pub finding_lines : List ℕ → ℕ → ℕ → List ℕ
finding_lines list k zero = []
finding_lines list k (suc n) = pick (leb width (length list - k)) (finding_line (record_at list k) ++ finding_lines list (k + width) n) []

unfoldable pub count_text : ℕ → List ℕ
count_text n = text "findings " ++ (decimal n ++ text "\n")

unfoldable pub refusal_text : ℕ → ℕ → List ℕ
refusal_text number value = text "refused " ++ (decimal number ++ text " at ") ++ (decimal value ++ text "\n")
