-- The laws of a chain: where it goes on, where it ends, and what its ending has.
-- Assumes nothing.
use mathlib.Core.Path.{◌≡◌, refl, ◌∙◌, ap}
use Prim.Native.Nat.{ℕ, zero, suc, ◌+◌, ◌-◌, ◌<◌, ◌≤◌}
use native.Mathlib.Omega.{arith}
use Rattle.xml_attributes.specs.Chains.{Piece, holds, ends, item, last, ending, chain, chain_from}

module _ {R : Type 0} (f : ℕ → Piece R) (e : R) where
  -- to pass over k positions is to be k further
  passed : (k i n m : ℕ) → n ≡ m + k → chain f e k i n ≡ chain f e 0 (i + k) m
  unfolding chain
  passed zero i n m h =
      let a : n ≡ m = omega arith in
      let b : i + 0 ≡ i = omega arith in
      rw (a, b)
  passed (suc k) i zero m h = absurd (let z : ◌≡◌ {A = ℕ} 0 1 = omega arith in omega arith)
  passed (suc k) i (suc n) m h =
      let b : i + 1 + k ≡ i + suc k = omega arith in
      passed k (i + 1) n m (omega arith) ∙ ap (λ (j : ℕ). chain f e 0 j m) b

  pub chain_goes : (n i b w : ℕ) → i + w < n → f i ≡ holds b w → chain_from f e n i ≡ item b (chain_from f e n (i + 1 + w))
  unfolding chain chain_from
  chain_goes n i b w h q =
      let a : n - i ≡ suc (n - (i + 1)) = omega arith in
      rw (a, q, chain) (ap (item b) (passed w (i + 1) (n - (i + 1)) (n - (i + 1 + w)) (omega arith)))

  pub chain_stops : (n i : ℕ) (r : R) → i < n → f i ≡ ends r → chain_from f e n i ≡ last r
  unfolding chain chain_from
  chain_stops n i r h q =
      let a : n - i ≡ suc (n - (i + 1)) = omega arith in
      rw (a, q, chain)

  pub chain_out : (n i : ℕ) → n ≤ i → chain_from f e n i ≡ last e
  unfolding chain chain_from
  chain_out n i h =
      let a : n - i ≡ 0 = omega arith in
      rw a

-- what holds of each way to end, holds of the chain's
module _ {R : Type 0} (f : ℕ → Piece R) (e : R) (P : R → Type 0) (lo n : ℕ) (each : (i : ℕ) (r : R) → lo ≤ i → i < n → f i ≡ ends r → P r) (out : P e) where
  kept : (m k i : ℕ) → lo ≤ i → m ≤ n - i → P (ending (chain f e k i m))
  unfolding chain ending
  kept zero k i h g = out
  kept (suc m) zero i h g = go (f i) refl (λ w. kept m w (i + 1) (omega arith) (omega arith))
    where
      go : (x : Piece R) → f i ≡ x → ((w : ℕ) → P (ending (chain f e w (i + 1) m))) → P (ending (elim x [ holds b w ↦ item b (chain f e w (i + 1) m) | ends r ↦ last r ]))
      go (holds b w) q k = k w
      go (ends r) q k = each i r h (omega arith) q
  kept (suc m) (suc k) i h g = kept m k (i + 1) (omega arith) (omega arith)

  pub chain_keeps : (i : ℕ) → lo ≤ i → P (ending (chain_from f e n i))
  unfolding chain_from
  chain_keeps i h = kept (n - i) 0 i h (omega arith)
