-- What two lists meet, step by step: the shape of the walk, by which each law of the merge is shown once for each kind of step.
-- Assumes nothing.
use mathlib.Core.Path.{◌≡◌, refl}
use mathlib.Core.Bool.{Bool, true, false}
use mathlib.Core.List.{List, [], ◌∷◌, map}
use Rattle.text_scan.specs.Choice.{pick}
use Rattle.list_findings.specs.declared.Finding.{Finding}
use Rattle.list_findings.specs.Findings.{precedes}
use Rattle.list_findings.specs.Lists.{Before, Keyed}
use Rattle.list_findings.specs.Merge.{Met, alone, twice, among, met}
use Rattle.list_findings.proofs.Order.{keyed}

pub data Meets : List Finding → List Finding → List Met → Type 0 where
  over : Meets [] [] []
  first : {x : Finding} {xs b : List Finding} {ms : List Met} → Before x b → Meets xs b ms → Meets (x ∷ xs) b (alone x ∷ ms)
  second : {y : Finding} {a ys : List Finding} {ms : List Met} → Before y a → Meets a ys ms → Meets a (y ∷ ys) (alone y ∷ ms)
  both : {x y : Finding} {xs ys : List Finding} {ms : List Met} → Keyed x y → Meets xs ys ms → Meets (x ∷ xs) (y ∷ ys) (twice x y ∷ ms)

of_second : (b : List Finding) → Meets [] b (map alone b)
of_second [] = over
of_second (y ∷ ys) = second tt (of_second ys)

module _ (x : Finding) (xs : List Finding) (rest : List Finding → List Met) (k : (b : List Finding) → Meets xs b (rest b)) where
  of_both : (b : List Finding) → Meets (x ∷ xs) b (among x rest b)
  unfolding among
  of_both [] = first tt (k [])
  of_both (y ∷ ys) = go (precedes x y) refl (precedes y x) refl (of_both ys)
    where
      go : (t : Bool) → precedes x y ≡ t → (u : Bool) → precedes y x ≡ u → Meets (x ∷ xs) ys (among x rest ys) → Meets (x ∷ xs) (y ∷ ys) (pick t (alone x ∷ rest (y ∷ ys)) (pick u (alone y ∷ among x rest ys) (twice x y ∷ rest ys)))
      go true p u q m = first p (k (y ∷ ys))
      go false p true q m = second q m
      go false p false q m = both (keyed x y p q) (k ys)

pub meets : (a b : List Finding) → Meets a b (met a b)
unfolding met
meets [] b = of_second b
meets (x ∷ xs) b = of_both x xs (met xs) (meets xs) b
