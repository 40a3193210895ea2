-- One step of the walk over two lists, as the code takes it: what is met first, with the places after it. No definition of document 01: the contract of
-- the merge names none of these, only those of the functions under it.
-- Assumes nothing.
use Rattle.std.specs.Prelude.{ℕ, ◌+◌, List, [], ◌∷◌, length, Result, Ok, Err, Option, None, Some}
use Rattle.text_scan.specs.Choice.{pick}
use Rattle.list_findings.specs.declared.Finding.{Finding}
use Rattle.list_findings.specs.Findings.{width, class_of, precedes}
use Rattle.list_findings.specs.Merge.{alone, twice, Verdict, keep, leave, fault, verdict, merged, first_fault}
use Rattle.list_steps.specs.declared.Stepped.{Stepped}
use Rattle.list_steps.specs.declared.Stepped.TheVariants.{Over, Fault, Leave, Keep}
use Rattle.list_steps.specs.declared.Differ.{Differ}

-- a verdict, with the places after what was met
abbrev pub verdict_step : Verdict → ℕ → ℕ → Stepped
verdict_step (keep r) i j = Keep r i j
verdict_step leave i j = Leave i j
verdict_step (fault at) i j = Fault at

abbrev pub alone_of : Finding → ℕ → ℕ → Stepped
alone_of r i j = verdict_step (verdict class_of (alone r)) i j

-- two records at i and j
abbrev pub pair_of : Finding → Finding → ℕ → ℕ → Stepped
pair_of x y i j =
    pick (precedes x y) (alone_of x (i + width) j)
    (pick (precedes y x) (alone_of y i (j + width)) (verdict_step (verdict class_of (twice x y)) (i + width) (j + width)))

-- what is left of the two lists at i and j
unfoldable pub merge_step : List Finding → ℕ → List Finding → ℕ → Stepped
merge_step [] i [] j = Over
merge_step [] i (y ∷ ys) j = alone_of y i (j + width)
merge_step (x ∷ xs) i [] j = alone_of x (i + width) j
merge_step (x ∷ xs) i (y ∷ ys) j = pair_of x y i j

-- the first fault, or n with the findings that are kept
abbrev pub counted : ℕ → Option ℕ → List Finding → Result ℕ Differ
counted n (Some at) rs = Err (record { first = at })
counted n None rs = Ok (n + length rs)

abbrev pub survey_of : ℕ → List Finding → List Finding → Result ℕ Differ
survey_of n a b = counted n (first_fault a b) (merged a b)
