-- The elements below an element that a procedure counts: of a role, so many levels below it, that pass a test.
-- Assumes nothing.
use Rattle.std.specs.Prelude.{ℕ, Bool, true, false, List, [], ◌∷◌, eqb, Option, None, Some}
use Rattle.text_scan.specs.Choice.{◌and◌}
use Rattle.judge_tests.specs.declared.Test.{Test}
use Rattle.judge_tests.specs.declared.Test.TheVariants.{Any}
use Rattle.judge_tests.specs.Passing.{passes}
use Rattle.judge_below.specs.declared.Wanted.{Wanted}
use Rattle.judge_draft.specs.Below.{ancestor_in}
use Rattle.judge_draft.specs.Drafts.{Draft, is}

-- ---- the elements
abbrev pub ancestor : Draft → ℕ → ℕ → ℕ
ancestor d levels k = ancestor_in d.notes levels k

-- element k has the role that is looked for, and passes the test
abbrev pub meets : Draft → Wanted → ℕ → Bool
meets d w k = is d w.role k and passes d w.test k

-- those below n, in document order
unfoldable pub chosen : Draft → Wanted → ℕ → List ℕ
chosen d w n = d.below w.levels (meets d w) n

-- ---- what is asked of them
abbrev pub wanted : ℕ → ℕ → Test → Wanted
wanted role levels test = record { role = role; levels = levels; test = test }

abbrev pub kids : Draft → ℕ → ℕ → List ℕ
kids d n r = chosen d (wanted r 1 Any) n

-- the first, and the only one
abbrev pub first_one : List ℕ → Option ℕ
first_one [] = None
first_one (k ∷ ks) = Some k

abbrev pub only_one : List ℕ → Option ℕ
only_one [] = None
only_one (k ∷ []) = Some k
only_one (k ∷ j ∷ ks) = None

-- "one" means exactly one; and it has the property
abbrev pub one : Option ℕ → Bool
one None = false
one (Some k) = true

abbrev pub one_has : Option ℕ → (ℕ → Bool) → Bool
one_has None p = false
one_has (Some k) p = p k

abbrev pub the : Option ℕ → ℕ
the None = 0
the (Some k) = k

-- it is this element
abbrev pub is_the : Option ℕ → ℕ → Bool
is_the None n = false
is_the (Some k) n = eqb k n

-- the one child of the role
abbrev pub only_kid : Draft → ℕ → ℕ → Option ℕ
only_kid d n r = only_one (kids d n r)
