-- The first numbers of one list in the front of another.
-- Assumes nothing.
use mathlib.Core.Path.{◌≡◌}
use mathlib.Core.List.{List, ◌++◌}
use Prim.Native.Nat.{ℕ, ◌+◌, ◌*◌, ◌<◌, ◌≤◌}
use native.Mathlib.Numerals.{add-one}
use native.Mathlib.Nat.{zero-add}
use native.Mathlib.Omega.{arith}
use lib.ListN.{length, take, drop, get_or, set}
use lib.Seq.{paste-suc}

abbrev pub Copied : List ℕ → List ℕ → List ℕ → ℕ → Type 0
Copied from old new i = new ≡ take i from ++ drop i old

one_more : (from old new : List ℕ) (i : ℕ) → Copied from old new i → i < length from → i < length old → Copied from old (set new i (get_or from i 0)) (i + 1)
one_more from old new i e h g = rw (e, add-one) (simp zero-add at (paste-suc old 0 from i 0 (omega arith) h))

-- the four numbers of a row more
module _ (from old new : List ℕ) (k : ℕ) (e : Copied from old new (4 * k)) where
  pub row_more : (n : ℕ) → k < n → 4 * n ≤ length from → 4 * n ≤ length old → (next : List ℕ) → next ≡ set (set (set (set new (4 * k) (get_or from (4 * k) 0)) (4 * k + 1) (get_or from (4 * k + 1) 0)) (4 * k + 2) (get_or from (4 * k + 2) 0)) (4 * k + 3) (get_or from (4 * k + 3) 0) → Copied from old next (4 * (k + 1))
  row_more n h f g next q =
      let y : 4 * k + 1 + 1 ≡ 4 * k + 2 = omega arith in
      let w : 4 * k + 2 + 1 ≡ 4 * k + 3 = omega arith in
      let z : 4 * (k + 1) ≡ 4 * k + 3 + 1 = omega arith in
      let a = one_more from old new (4 * k) e (omega arith) (omega arith) in
      let b = rw y at (one_more from old _ (4 * k + 1) a (omega arith) (omega arith)) in
      let c = rw w at (one_more from old _ (4 * k + 2) b (omega arith) (omega arith)) in
      rw (q, z) (one_more from old _ (4 * k + 3) c (omega arith) (omega arith))

  pub rows_all : (n : ℕ) → k ≤ n → n ≤ k → new ≡ take (4 * n) from ++ drop (4 * n) old
  rows_all n h g =
      let q : k ≡ n = omega arith in
      rw q at e
