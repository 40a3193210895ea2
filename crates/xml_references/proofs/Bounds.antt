-- Where a value and where text end: behind the start, within, and at the byte that ends it.
-- Assumes nothing.
use Rattle.std.specs.Prelude.{Option, None, Some, ℕ}
use mathlib.Core.Path.{◌≡◌, subst}
use mathlib.Core.List.{List}
use Prim.Native.Nat.{ℕ, ◌<◌, ◌≤◌}
use Prim.Native.Char.{code}
use native.Mathlib.Omega.{arith}
use borrow.Author.Tests.{eqb-true}
use lib.Dec.{eqb}
use lib.ListN.{length, get_or}
use Rattle.text_scan.specs.Choice.{pick}
use Rattle.text_scan.specs.Bytes.{text}
use Rattle.text_scan.specs.Lists.{stands}
use Rattle.text_scan.specs.Walk.{Next, skip, done}
use Rattle.text_scan.proofs.Tests.{pick_case}
use Rattle.text_scan.proofs.Walk as walks
use Rattle.xml_references.specs.declared.Reference.{Reference}
use Rattle.xml_references.specs.References.{reference_at}
use Rattle.xml_references.specs.Runs.{behind, value_step, value_end, text_step, text_end}

-- what holds of each place holds of a place that was found, and of a step that is done there
abbrev Holds : (ℕ → Type 0) → Option ℕ → Type 0
Holds P (Some j) = P j
Holds P None = Unit {0}

abbrev Done : (ℕ → Type 0) → Next (Option ℕ) → Type 0
Done P (skip w) = Unit {0}
Done P (done r) = Holds P r

at_reference : (P : ℕ → Type 0) (x : Option Reference) → Done P (behind x)
at_reference P (Some p) = tt
at_reference P None = tt

-- ---- a value
module _ (s : List ℕ) (q at : ℕ) where
  abbrev Closed : ℕ → Type 0
  Closed j = (at ≤ j) × (j < length s)

  value_step_lem : (i : ℕ) → at ≤ i → i < length s → Done Closed (value_step s q i)
  unfolding value_step
  value_step_lem i h g =
      pick_case (Done Closed) (eqb (get_or s i 0) q) (done (Some i)) (pick (eqb (get_or s i 0) (code "<")) (done None) (pick (eqb (get_or s i 0) (code "&")) (behind (reference_at s i)) (skip 0)))
      (λ e. (h, g))
      (λ _. pick_case (Done Closed) (eqb (get_or s i 0) (code "<")) (done None) (pick (eqb (get_or s i 0) (code "&")) (behind (reference_at s i)) (skip 0)) (λ _. tt)
      (λ _. pick_case (Done Closed) (eqb (get_or s i 0) (code "&")) (behind (reference_at s i)) (skip 0) (λ _. at_reference Closed (reference_at s i)) (λ _. tt)))

  value_holds : Holds Closed (value_end s q at)
  unfolding value_end
  value_holds =
      walks.keeps (value_step s q) None (Holds Closed) at (length s) (λ i r h g e. subst (Done Closed) e (value_step_lem i h g)) tt at (omega arith)

  module _ (j : ℕ) (e : value_end s q at ≡ Some j) where
    pub value_ahead : at ≤ j
    value_ahead = (subst (Holds Closed) e value_holds).0

    pub value_inside : j < length s
    value_inside = (subst (Holds Closed) e value_holds).1

-- ---- text
module _ (s : List ℕ) (at : ℕ) (within : at ≤ length s) where
  abbrev Ended : ℕ → Type 0
  Ended j = (at ≤ j) × (j ≤ length s) × (j < length s → get_or s j 0 ≡ code "<")

  text_step_lem : (i : ℕ) → at ≤ i → i < length s → Done Ended (text_step s i)
  unfolding text_step
  text_step_lem i h g =
      pick_case (Done Ended) (eqb (get_or s i 0) (code "<")) (done (Some i)) (pick (stands (text "]]>") s i) (done None) (pick (eqb (get_or s i 0) (code "&")) (behind (reference_at s i)) (skip 0)))
      (λ e. (h, omega arith, λ _. eqb-true (get_or s i 0) (code "<") e))
      (λ _. pick_case (Done Ended) (stands (text "]]>") s i) (done None) (pick (eqb (get_or s i 0) (code "&")) (behind (reference_at s i)) (skip 0)) (λ _. tt)
      (λ _. pick_case (Done Ended) (eqb (get_or s i 0) (code "&")) (behind (reference_at s i)) (skip 0) (λ _. at_reference Ended (reference_at s i)) (λ _. tt)))

  text_holds : Holds Ended (text_end s at)
  unfolding text_end
  text_holds =
      walks.keeps (text_step s) (Some (length s)) (Holds Ended) at (length s) (λ i r h g e. subst (Done Ended) e (text_step_lem i h g))
      (within, omega arith, λ h. absurd (omega arith)) at (omega arith)

  module _ (j : ℕ) (e : text_end s at ≡ Some j) where
    pub text_ahead : at ≤ j
    text_ahead = (subst (Holds Ended) e text_holds).0

    pub text_inside : j ≤ length s
    text_inside = (subst (Holds Ended) e text_holds).1

    -- it ends at '<', or where the bytes end
    pub text_ended : j < length s → get_or s j 0 ≡ code "<"
    text_ended = (subst (Holds Ended) e text_holds).2
