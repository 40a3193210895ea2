-- How many positions have a property: in two runs one after the other, and that some has it where they are not none.
-- Assumes nothing.
use mathlib.Core.Path.{◌≡◌, refl, ◌∙◌, ap}
use mathlib.Core.Bool.{Bool, true, false}
use mathlib.Core.List.{List, [], ◌∷◌, ◌++◌}
use Prim.Native.Nat.{ℕ, ◌+◌, ◌<◌}
use native.Mathlib.Omega.{arith}
use borrow.Author.Tests.{lt-ltb}
use lib.Dec.{ltb}
use Rattle.text_scan.specs.Choice.{pick, ◌or◌}
use Rattle.text_scan.specs.Lists.{some}
use Rattle.sort_places.specs.Sorting.{count}

pub count_append : (p : ℕ → Bool) (bs cs : List ℕ) → count p (bs ++ cs) ≡ count p bs + count p cs
unfolding count
count_append p [] cs = omega arith
count_append p (b ∷ bs) cs = omega (arith, count_append p bs cs)

some_more : (t : Bool) (n : ℕ) → t or ltb 0 n ≡ ltb 0 (pick t 1 0 + n)
some_more true n = let h : 0 < 1 + n = omega arith in rw (lt-ltb 0 (1 + n) h)
some_more false n = let e : 0 + n ≡ n = omega arith in rw e

pub some_count : (p : ℕ → Bool) (bs : List ℕ) → some p bs ≡ ltb 0 (count p bs)
unfolding some count
some_count p [] = refl
some_count p (b ∷ bs) = ap (λ t. p b or t) (some_count p bs) ∙ some_more (p b) (count p bs)
