-- The order of findings: a strict one, in which two findings that do not precede each other have one procedure and first byte.
-- Assumes nothing.
use mathlib.Core.Path.{◌≡◌, refl, sym}
use mathlib.Core.Bool.{Bool, true, false}
use Prim.Native.Nat.{◌<◌, ◌≤◌}
use native.Mathlib.Omega.{arith}
use borrow.Author.Tests.{ltb-true, ltb-false, eqb-true, eqb-false, lt-ltb, le-ltb, eq-eqb, ne_eqb}
use lib.Dec.{ltb, eqb}
use Rattle.text_scan.specs.Choice.{◌or◌, ◌and◌}
use Rattle.text_scan.proofs.Tests.{never}
use Rattle.text_scan.proofs.Within.{inside}
use Rattle.list_findings.specs.declared.Finding.{Finding}
use Rattle.list_findings.specs.Lists.{Keyed}
use Rattle.list_findings.specs.Findings.{precedes}

-- what the test says, and what it says where it fails
pub record Below (x y : Finding) : Type 0 where
  pub starts : x.first ≤ y.first
  pub further : y.first ≤ x.first → x.procedure < y.procedure

pub record NotBelow (x y : Finding) : Type 0 where
  pub behind : y.first ≤ x.first
  pub nearer : x.first ≤ y.first → y.procedure ≤ x.procedure

module _ (x y : Finding) where
  told : (t : Bool) → ltb x.first y.first ≡ t → (u : Bool) → eqb x.first y.first ≡ u → t or (u and ltb x.procedure y.procedure) ≡ true → Below x y
  told true p u q e = record { starts = omega (arith, ltb-true x.first y.first p); further = λ h. absurd (omega (arith, ltb-true x.first y.first p)) }
  told false p true q e = record { starts = omega (arith, eqb-true x.first y.first q); further = λ h. ltb-true _ _ e }
  told false p false q e = never (sym e)

  pub below : precedes x y ≡ true → Below x y
  below e = told (ltb x.first y.first) refl (eqb x.first y.first) refl e

  told_not : (t : Bool) → ltb x.first y.first ≡ t → (u : Bool) → eqb x.first y.first ≡ u → t or (u and ltb x.procedure y.procedure) ≡ false → NotBelow x y
  told_not true p u q e = never e
  told_not false p true q e = record { behind = ltb-false _ _ p; nearer = λ h. ltb-false _ _ e }
  told_not false p false q e = record { behind = ltb-false _ _ p; nearer = λ h. absurd (eqb-false x.first y.first q (omega (arith, ltb-false x.first y.first p))) }

  pub not_below : precedes x y ≡ false → NotBelow x y
  not_below e = told_not (ltb x.first y.first) refl (eqb x.first y.first) refl e

  pub is_below : Below x y → precedes x y ≡ true
  is_below b =
      inside y.first x.first
      (λ h. rw (lt-ltb x.first y.first h))
      (λ h. let e : x.first ≡ y.first = omega (arith, b.starts) in rw (le-ltb x.first y.first h, eq-eqb x.first y.first e, lt-ltb x.procedure y.procedure (b.further h)))

  pub is_not_below : NotBelow x y → precedes x y ≡ false
  is_not_below b =
      inside x.first y.first
      (λ h. let e : x.first ≡ y.first → ⊥ = λ q. omega arith in rw (le-ltb x.first y.first b.behind, ne_eqb x.first y.first e))
      (λ h. let e : x.first ≡ y.first = omega (arith, b.behind) in rw (le-ltb x.first y.first b.behind, eq-eqb x.first y.first e, le-ltb x.procedure y.procedure (b.nearer h)))

-- by the first bytes, or by the procedures
pub first_below : (x y : Finding) → x.first < y.first → true ≡ precedes x y
first_below x y h = sym (is_below x y (record { starts = omega arith; further = λ g. absurd (omega arith) }))

pub first_same : (x y : Finding) → y.first ≤ x.first → x.first ≤ y.first → ltb x.procedure y.procedure ≡ precedes x y
first_same x y h g =
    let e : x.first ≡ y.first = omega arith in
    rw (le-ltb x.first y.first h, eq-eqb x.first y.first e)

-- a strict order
pub irreflexive : (x : Finding) → precedes x x ≡ false
irreflexive x = is_not_below x x (record { behind = omega arith; nearer = λ h. omega arith })

pub transitive : (x y z : Finding) → precedes x y ≡ true → precedes y z ≡ true → precedes x z ≡ true
transitive x y z p q =
    let a = below x y p in
    let b = below y z q in
    is_below x z (record { starts = omega arith; further = λ h. omega (arith, a.further (omega arith), b.further (omega arith)) })

pub asymmetric : (x y : Finding) → precedes x y ≡ true → precedes y x ≡ false
asymmetric x y p =
    let a = below x y p in
    is_not_below y x (record { behind = omega arith; nearer = λ h. omega (arith, a.further h) })

-- two of which neither precedes the other
pub keyed : (x y : Finding) → precedes x y ≡ false → precedes y x ≡ false → Keyed x y
keyed x y p q =
    let a = not_below x y p in
    let b = not_below y x q in
    record { firsts = omega arith; procedures = omega (arith, a.nearer b.behind, b.nearer a.behind) }

-- what precedes a finding has not its procedure and first byte, and precedes all that have
pub not_keyed : (x y : Finding) → precedes x y ≡ true → Keyed x y → ⊥
not_keyed x y p k = let a = below x y p in omega (arith, a.further (omega (arith, k.firsts)), k.procedures)

pub precedes_keyed : (x y z : Finding) → Keyed x y → precedes y z ≡ true → precedes x z ≡ true
precedes_keyed x y z k p =
    let a = below y z p in
    is_below x z (record { starts = omega (arith, k.firsts); further = λ h. omega (arith, a.further (omega (arith, k.firsts)), k.procedures) })
