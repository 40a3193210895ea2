-- The class of a procedure, by the lists that name it.
-- Assumes nothing.
use mathlib.Core.Path.{◌≡◌, refl, sym}
use mathlib.Core.Bool.{Bool, true, false, ◌||◌}
use mathlib.Core.List.{List, [], ◌∷◌}
use Prim.Native.Nat.{ℕ}
use borrow.Author.Tests.{eq-eqb, ne_eqb, eqb-true, eqb-false}
use lib.Dec.{eqb}
use Rattle.std.specs.List.{list_any}
use Rattle.text_scan.specs.Choice.{◌or◌}
use Rattle.list_findings.specs.declared.Class.TheVariants.{DocumentOnly, Both, Either}
use Rattle.list_findings.specs.Findings.{kept_by_both, kept_by_either, is_among, class_of}

-- ---- what `contains` answers: it has the list's number first, and the definition the one that is sought
swapped : (p q : ℕ) → eqb q p ≡ eqb p q
swapped p q = go (eqb p q) refl
  where
    go : (t : Bool) → eqb p q ≡ t → eqb q p ≡ t
    go true e = eq-eqb q p (sym (eqb-true p q e))
    go false e = ne_eqb q p (λ h. eqb-false p q e (sym h))

either_way : (t u : Bool) → (t || u) ≡ (t or u)
either_way true u = refl
either_way false u = refl

is_in : (qs : List ℕ) (p : ℕ) → list_any (λ q. eqb q p) qs ≡ is_among qs p
is_in [] p = refl
is_in (q ∷ qs) p = rw (swapped p q, is_in qs p) (either_way (eqb p q) (is_among qs p))

-- ---- the class
module _ (p : ℕ) (t : Bool) (e : t ≡ list_any (λ q. eqb q p) kept_by_both) where
  pub both : t ≡ true → Both ≡ class_of p
  unfolding class_of
  both f = rw (← is_in kept_by_both p, ← e, f)

  module _ (f : t ≡ false) (u : Bool) (g : u ≡ list_any (λ q. eqb q p) kept_by_either) where
    pub either : u ≡ true → Either ≡ class_of p
    unfolding class_of
    either h = rw (← is_in kept_by_both p, ← e, f, ← is_in kept_by_either p, ← g, h)

    pub document_only : u ≡ false → DocumentOnly ≡ class_of p
    unfolding class_of
    document_only h = rw (← is_in kept_by_both p, ← e, f, ← is_in kept_by_either p, ← g, h)
