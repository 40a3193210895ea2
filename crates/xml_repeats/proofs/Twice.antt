-- Two attributes of the same name, asked of the names one by one and asked of all positions together: the same answer.
-- Assumes nothing.
use mathlib.Core.Path.{◌≡◌, refl, sym, ◌∙◌, ap₂}
use mathlib.Core.List.{List, [], ◌∷◌}
use Prim.Native.Nat.{ℕ, zero, suc, ◌-◌, ◌≤◌}
use native.Mathlib.Omega.{arith}
use lib.Dec.{eqb, eqb-zero-suc, eqb-suc-zero, eqb-suc-suc}
use lib.ListN.{length, take, drop, length-drop}
use Rattle.text_scan.specs.Choice.{◌or◌, ◌and◌}
use Rattle.text_scan.specs.Lists.{some as someOf, pairs, begins}
use Rattle.text_scan.proofs.Tests.{and_false, and_join}
use Rattle.text_scan.proofs.Within.{inside}
use Rattle.xml_names.specs.Names.{name_end, name_at, name_is}
use Rattle.xml_names.proofs.Names.{name_past, name_most}
use Rattle.xml_distinct.specs.Repeats.{is_called, twice}
use Rattle.xml_attributes.specs.Parts.{some_attribute, some_named, repeated}

-- ---- the first m elements are the text t: it stands there, and is as long
eqb_turned : (m n : ℕ) → eqb m n ≡ eqb n m
eqb_turned zero zero = refl
eqb_turned zero (suc n) = eqb-zero-suc n ∙ sym (eqb-suc-zero n)
eqb_turned (suc m) zero = eqb-suc-zero m ∙ sym (eqb-zero-suc m)
eqb_turned (suc m) (suc n) = eqb-suc-suc m n ∙ eqb_turned m n ∙ sym (eqb-suc-suc n m)

front_is : (t xs : List ℕ) (m : ℕ) → m ≤ length xs → begins t xs and eqb m (length t) ≡ pairs eqb t (take m xs)
unfolding begins pairs
front_is [] xs zero h = refl
front_is [] [] (suc m) h = absurd (omega arith)
front_is [] (x ∷ xs) (suc m) h = eqb-suc-zero m
front_is (y ∷ t) [] zero h = refl
front_is (y ∷ t) [] (suc m) h = absurd (omega arith)
front_is (y ∷ t) (x ∷ xs) zero h = rw (eqb-zero-suc (length t)) (and_false (eqb x y and begins t xs))
front_is (y ∷ t) (x ∷ xs) (suc m) h =
    rw (eqb-suc-suc m (length t))
    (and_join (eqb x y) (begins t xs) (eqb m (length t)) ∙ ap₂ ◌and◌ (eqb_turned x y) (front_is t xs m (omega arith)))

-- ---- the name at a position is the text t
name_fits : (s : List ℕ) (b : ℕ) → name_end s b - b ≤ length (drop b s)
name_fits s b =
    inside (length s) b (λ h. omega (arith, name_most s b (omega arith), length-drop b s)) (λ h. omega (arith, name_past s b h))

called : (s t : List ℕ) (b : ℕ) → name_is t s b ≡ is_called s t b
unfolding name_is
called s t b = front_is t (drop b s) (name_end s b - b) (name_fits s b)

some_called : (s t bs : List ℕ) → some_named t s bs ≡ someOf (is_called s t) bs
unfolding some_attribute someOf
some_called s t [] = refl
some_called s t (b ∷ bs) = ap₂ ◌or◌ (called s t b) (some_called s t bs)

pub repeated_twice : (s bs : List ℕ) → repeated s bs ≡ twice s bs
unfolding some_attribute twice
repeated_twice s [] = refl
repeated_twice s (b ∷ bs) = ap₂ ◌or◌ (some_called s (name_at s b) bs) (repeated_twice s bs)
