-- Rows in the front of a run of numbers: what a store there makes of them.
-- Assumes nothing.
use mathlib.Core.Path.{◌≡◌, refl, ◌∙◌}
use mathlib.Core.List.{List, [], ◌∷◌, ◌++◌, append_assoc}
use Prim.Native.Nat.{ℕ, ◌+◌, ◌<◌, ◌≤◌}
use native.Mathlib.Numerals.{add-one}
use native.Mathlib.Omega.{arith}
use lib.ListN.{length, take, set, length-set}
use lib.Seq.{take-suc-set}
use Rattle.xml_steps.specs.Reading.{element_row}

-- a store behind the front makes the front longer by one
longer : (l p : List ℕ) (i j v : ℕ) → i < length l → j ≡ i + 1 → take i l ≡ p → take j (set l i v) ≡ p ++ (v ∷ [])
longer l p i j v h e q = rw (e, add-one, take-suc-set l i v h, q)

pub four_stored : (l : List ℕ) (k a b c d : ℕ) → k + 4 ≤ length l → take (k + 4) (set (set (set (set l k a) (k + 1) b) (k + 2) c) (k + 3) d) ≡ take k l ++ element_row a b c d
four_stored l k a b c d h =
    longer l3 (((take k l ++ (a ∷ [])) ++ (b ∷ [])) ++ (c ∷ [])) (k + 3) (k + 4) d (simp length-set (omega arith)) (omega arith)
    (longer l2 ((take k l ++ (a ∷ [])) ++ (b ∷ [])) (k + 2) (k + 3) c (simp length-set (omega arith)) (omega arith)
    (longer l1 (take k l ++ (a ∷ [])) (k + 1) (k + 2) b (simp length-set (omega arith)) (omega arith)
    (longer l (take k l) k (k + 1) a (omega arith) (omega arith) refl)))
    ∙ simp append_assoc
  where
    l1 : List ℕ
    l1 = set l k a

    l2 : List ℕ
    l2 = set l1 (k + 1) b

    l3 : List ℕ
    l3 = set l2 (k + 2) c

pub four_length : (l : List ℕ) (k a b c d : ℕ) → length (set (set (set (set l k a) (k + 1) b) (k + 2) c) (k + 3) d) ≡ length l
four_length l k a b c d = simp length-set
