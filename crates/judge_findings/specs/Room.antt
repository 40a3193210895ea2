-- The answer to a list of findings, and the list that is then lent: 11 where there is less room than findings.
-- Assumes nothing.
use Rattle.std.specs.Prelude.{ℕ, ◌/◌, Bool, ◌≡◌, List, leb, length, Result, Ok}
use Rattle.refusals.specs.declared.Reason.TheVariants.{ShortList}
use Rattle.refusals.specs.declared.Refusal.{Refusal}
use Rattle.refusals.specs.Numbers.{refuses}
use Rattle.text_scan.specs.Choice.{pick}
use Rattle.list_findings.specs.declared.Finding.{Finding}
use Rattle.list_findings.specs.Findings.{width, filled}

abbrev pub has_list_room : List Finding → List ℕ → Bool
has_list_room found list = leb (length found) (length list / width)

-- 11: findings needed; otherwise the findings, from the front of the list
unfoldable pub answer_in : List Finding → List ℕ → Result ℕ Refusal
answer_in found list = pick (has_list_room found list) (Ok (length found)) (refuses ShortList (length found))

unfoldable pub list_in : List Finding → List ℕ → List ℕ
list_in found list = pick (has_list_room found list) (filled found list) list

-- what is answered, and what the list then holds
pub record FindingsLeft (found : List Finding) (list : List ℕ) (answer : Result ℕ Refusal) (after : List ℕ) : Type 0 where
  pub answers : answer ≡ answer_in found list
  pub lists : after ≡ list_in found list
