-- The laws of a walk: where it goes on, where it is done, and at the end.
-- Assumes nothing.
use mathlib.Core.Path.{◌≡◌, refl, ◌∙◌, ap}
use Prim.Native.Nat.{ℕ, zero, suc, ◌+◌, ◌-◌, ◌<◌, ◌≤◌}
use native.Mathlib.Omega.{arith}
use Rattle.text_scan.specs.Walk.{Next, skip, done, walk, from}

module _ {R : Type 0} (f : ℕ → Next R) (e : R) where
  -- to pass over k positions is to be k further
  passed : (k i n m : ℕ) → n ≡ m + k → walk f e k i n ≡ walk f e 0 (i + k) m
  unfolding walk
  passed zero i n m h =
      let a : n ≡ m = omega arith in
      let b : i + 0 ≡ i = omega arith in
      rw (a, b)
  passed (suc k) i zero m h = absurd (let z : ◌≡◌ {A = ℕ} 0 1 = omega arith in omega arith)
  passed (suc k) i (suc n) m h =
      let b : i + 1 + k ≡ i + suc k = omega arith in
      passed k (i + 1) n m (omega arith) ∙ ap (λ (j : ℕ). walk f e 0 j m) b

  pub goes : (n i w : ℕ) → i + w < n → f i ≡ skip w → from f e n i ≡ from f e n (i + 1 + w)
  unfolding walk from
  goes n i w h q =
      let a : n - i ≡ suc (n - (i + 1)) = omega arith in
      rw (a, q, walk) (passed w (i + 1) (n - (i + 1)) (n - (i + 1 + w)) (omega arith))

  -- by one position
  pub further : (n i : ℕ) → i < n → f i ≡ skip 0 → from f e n i ≡ from f e n (i + 1)
  further n i h q =
      let a : i + 1 + 0 ≡ i + 1 = omega arith in
      rw a at (goes n i 0 (omega arith) q)

  pub stops : (n i : ℕ) (r : R) → i < n → f i ≡ done r → from f e n i ≡ r
  unfolding walk from
  stops n i r h q =
      let a : n - i ≡ suc (n - (i + 1)) = omega arith in
      rw (a, q, walk)

  pub ends : (n i : ℕ) → n ≤ i → from f e n i ≡ e
  unfolding walk from
  ends n i h =
      let a : n - i ≡ 0 = omega arith in
      rw a

-- what holds of each answer where the walk can be done, and of the answer at the end, holds of the walk's answer
module _ {R : Type 0} (f : ℕ → Next R) (e : R) (P : R → Type 0) (lo n : ℕ) (each : (i : ℕ) (r : R) → lo ≤ i → i < n → f i ≡ done r → P r) (last : P e) where
  kept : (m k i : ℕ) → lo ≤ i → m ≤ n - i → P (walk f e k i m)
  unfolding walk
  kept zero k i h g = last
  kept (suc m) zero i h g = go (f i) refl (λ w. kept m w (i + 1) (omega arith) (omega arith))
    where
      go : (x : Next R) → f i ≡ x → ((w : ℕ) → P (walk f e w (i + 1) m)) → P (elim x [ skip w ↦ walk f e w (i + 1) m | done r ↦ r ])
      go (skip w) q k = k w
      go (done r) q k = each i r h (omega arith) q
  kept (suc m) (suc k) i h g = kept m k (i + 1) (omega arith) (omega arith)

  pub keeps : (i : ℕ) → lo ≤ i → P (from f e n i)
  unfolding from
  keeps i h = kept (n - i) 0 i h (omega arith)
