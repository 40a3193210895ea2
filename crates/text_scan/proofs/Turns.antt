-- The laws of a walk with a state: where the measure falls at each turn, one turn more or less changes nothing, so the walk
-- from a state is the walk from the next.
-- Assumes nothing.
use mathlib.Core.Path.{◌≡◌, refl}
use Prim.Native.Nat.{ℕ, zero, suc, ◌<◌}
use native.Mathlib.Omega.{arith}
use Rattle.text_scan.specs.Turns.{Turn, on, out, turns, run}

module _ {S R : Type 0} (f : S → Turn S R) (e : R) (m : S → ℕ) (falls : (s t : S) → f s ≡ on t → m t < m s) where
  enough : (n k : ℕ) (s : S) → m s < n → m s < k → turns f e n s ≡ turns f e k s
  unfolding turns
  enough zero k s h g = absurd (omega arith)
  enough (suc n) zero s h g = absurd (omega arith)
  enough (suc n) (suc k) s h g = go (f s) refl (λ t q. enough n k t (omega (arith, falls s t q)) (omega (arith, falls s t q)))
    where
      go : (x : Turn S R) → f s ≡ x → ((t : S) → f s ≡ on t → turns f e n t ≡ turns f e k t) → ◌≡◌ {A = R} (elim x [ on t ↦ turns f e n t | out r ↦ r ]) (elim x [ on t ↦ turns f e k t | out r ↦ r ])
      go (on t) q k = k t q
      go (out r) q k = refl

  pub run_on : (s t : S) → f s ≡ on t → run f e m s ≡ run f e m t
  unfolding run turns
  run_on s t q = rw (q, turns) (enough (m s) (suc (m t)) t (falls s t q) (omega arith))

  pub run_out : (s : S) (r : R) → f s ≡ out r → run f e m s ≡ r
  unfolding run turns
  run_out s r q = rw (q, turns)

-- what holds of a state and is kept by each turn gives what holds of the answer
module _ {S R : Type 0} (f : S → Turn S R) (e : R) (m : S → ℕ) (falls : (s t : S) → f s ≡ on t → m t < m s) (P : S → Type 0) (Q : R → Type 0)
    (keeps : (s t : S) → P s → f s ≡ on t → P t) (ends : (s : S) (r : R) → P s → f s ≡ out r → Q r) where
  kept : (n : ℕ) (s : S) → m s < n → P s → Q (turns f e n s)
  unfolding turns
  kept zero s h p = absurd (omega arith)
  kept (suc n) s h p = go (f s) refl (λ t q. kept n t (omega (arith, falls s t q)) (keeps s t p q))
    where
      go : (x : Turn S R) → f s ≡ x → ((t : S) → f s ≡ on t → Q (turns f e n t)) → Q (elim x [ on t ↦ turns f e n t | out r ↦ r ])
      go (on t) q k = k t q
      go (out r) q k = ends s r p q

  pub run_keeps : (s : S) → P s → Q (run f e m s)
  unfolding run
  run_keeps s p = kept (suc (m s)) s (omega arith) p
