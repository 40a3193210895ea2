-- A chain of items along positions: at each one `f` says what stands there, either an item and where the next piece begins, or how the chain ends.
-- Assumes nothing.
use Rattle.std.specs.Prelude.{ℕ, zero, suc, ◌+◌, ◌-◌, List, [], ◌∷◌}

-- `holds b w`: an item at position b, and the next piece stands w + 1 further. `ends r`: the chain ends with r
pub data Piece (R : Type 0) : Type 0 where
  holds : ℕ → ℕ → Piece R
  ends : R → Piece R

-- the items' positions in order, and how the chain ends
pub data Chain (R : Type 0) : Type 0 where
  item : ℕ → Chain R → Chain R
  last : R → Chain R

unfoldable pub items : {R : Type 0} → Chain R → List ℕ
items (item b r) = b ∷ items r
items (last e) = []

unfoldable pub ending : {R : Type 0} → Chain R → R
ending (item b r) = ending r
ending (last e) = e

-- The chain from position i, with n positions left, of which the first k are passed over. Where they run out it ends with e
unfoldable pub chain : {R : Type 0} → (ℕ → Piece R) → R → ℕ → ℕ → ℕ → Chain R
chain f e k i zero = last e
chain f e zero i (suc n) = elim (f i) [ holds b w ↦ item b (chain f e w (i + 1) n) | ends r ↦ last r ]
chain f e (suc k) i (suc n) = chain f e k (i + 1) n

-- The chain from position i to the end, which is position n
unfoldable pub chain_from : {R : Type 0} → (ℕ → Piece R) → R → ℕ → ℕ → Chain R
chain_from f e n i = chain f e 0 i (n - i)
