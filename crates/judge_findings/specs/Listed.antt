-- The list of findings: for each element in document order, for each procedure by its number, the record where it is broken.
-- Assumes nothing.
use Rattle.std.specs.Prelude.{ℕ, zero, suc, ◌+◌, Bool, List, [], ◌∷◌, ◌++◌}
use Rattle.text_scan.specs.Choice.{pick}
use Rattle.list_findings.specs.declared.Finding.{Finding}
use Rattle.list_findings.specs.Findings.{last_procedure}
use Rattle.table_file.specs.Accepted.{Tables}
use Rattle.judge_draft.specs.Drafts.{Draft, element_count, first, after}
use Rattle.judge_header.specs.declared.Header.{Header}
use Rattle.judge_header.specs.Header.{header_of}
use Rattle.judge_procedures.specs.Procedures.{demand_of}
use Rattle.judge_answers.specs.Answers.{is_broken}

-- the record of procedure p and element n
abbrev pub finding : Draft → ℕ → ℕ → Finding
finding d n p = record { procedure = p; first = first d n; after = after d n }

-- of element n: the procedures p, p + 1, .., m of them, that are broken there
unfoldable pub listed_at : Draft → (ℕ → ℕ → Bool) → ℕ → ℕ → ℕ → List Finding
listed_at d b n p zero = []
listed_at d b n p (suc m) = pick (b n p) (finding d n p ∷ listed_at d b n (p + 1) m) (listed_at d b n (p + 1) m)

-- of the elements n, n + 1, .., m of them
unfoldable pub listed_from : Draft → (ℕ → ℕ → Bool) → ℕ → ℕ → List Finding
listed_from d b n zero = []
listed_from d b n (suc m) = listed_at d b n 1 last_procedure ++ listed_from d b (n + 1) m

-- of all elements
unfoldable pub listed : Draft → (ℕ → ℕ → Bool) → List Finding
listed d b = listed_from d b 0 (element_count d)

-- procedure p is broken at element n
unfoldable pub broken : Draft → Header → Tables → ℕ → ℕ → Bool
broken d h t n p = is_broken d t (demand_of d h p n)

-- the findings of a draft under the tables
unfoldable pub findings_of : Draft → Tables → List Finding
findings_of d t = listed d (broken d (header_of d) t)
