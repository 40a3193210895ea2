-- The blocks of a value that are passed over whole.
-- Assumes nothing.
use Rattle.std.specs.Prelude.{None}
use mathlib.Core.Path.{◌≡◌, refl, sym, ◌∙◌}
use mathlib.Core.Bool.{Bool, true, false, ◌&&◌}
use mathlib.Core.List.{List}
use Prim.Native.Nat.{ℕ, zero, suc, ◌+◌, ◌-◌, ◌<◌, ◌≤◌}
use Prim.Native.Char.{code}
use native.Mathlib.Omega.{arith}
use borrow.Author.Tests.{ne_eqb, ltb-true, not-true}
use lib.Dec.{ltb, eqb}
use lib.ListN.{length, get_or}
use Rattle.text_scan.specs.Choice.{◌and◌, not}
use Rattle.text_scan.proofs.Tests.{and_left, and_right}
use Rattle.text_scan.proofs.Walk as walks
use Rattle.xml_references.specs.Runs.{value_step, value_end}
use Rattle.xml_references.specs.Quiet.{quiet, quiet_for}

-- ---- the loop of `quiet_block`
joined : (t u v : Bool) → (t && u && v) ≡ t and u and v
joined true true v = refl
joined true false v = refl
joined false u v = refl

module _ (s : List ℕ) (i k : ℕ) (t : Bool) where
  pub more : t ≡ quiet_for s i k → (t && ltb (code "'") (get_or s (i + k) 0) && not (eqb (get_or s (i + k) 0) (code "<"))) ≡ quiet_for s i (k + 1)
  unfolding quiet quiet_for
  more e =
      let f : k + 1 ≡ suc k = omega arith in
      rw (f, ← e) (joined t (ltb (code "'") (get_or s (i + k) 0)) (not (eqb (get_or s (i + k) 0) (code "<"))))

  pub whole : (n : ℕ) → t ≡ quiet_for s i k → k ≤ n → n ≤ k → t ≡ quiet_for s i n
  whole n e h g =
      let f : k ≡ n = omega arith in
      rw f at e

-- ---- a quiet byte is passed over in a value, and so is a block
module _ (s : List ℕ) (q : ℕ) (l : q ≤ 39) where
  over_quiet : (i : ℕ) → i < length s → quiet (get_or s i 0) ≡ true → value_end s q i ≡ value_end s q (i + 1)
  unfolding quiet value_end value_step
  over_quiet i h e =
      let a : 39 < get_or s i 0 = ltb-true 39 (get_or s i 0) (and_left (ltb (code "'") (get_or s i 0)) _ e) in
      walks.further (value_step s q) None (length s) i h
      (rw (ne_eqb (get_or s i 0) q (λ z. omega arith), not-true (eqb (get_or s i 0) (code "<")) (and_right (ltb (code "'") (get_or s i 0)) _ e), ne_eqb (get_or s i 0) (code "&") (λ z. omega arith)))

  over_block : (i k : ℕ) → i + k ≤ length s → quiet_for s i k ≡ true → value_end s q i ≡ value_end s q (i + k)
  unfolding quiet_for
  over_block i zero h e =
      let f : i + 0 ≡ i = omega arith in
      rw f refl
  over_block i (suc k) h e =
      let f : i + k + 1 ≡ i + suc k = omega arith in
      over_block i k (omega arith) (and_left (quiet_for s i k) _ e)
      ∙ (rw f at (over_quiet (i + k) (omega arith) (and_right (quiet_for s i k) _ e)))

-- ---- the loop of `past_quiet`
module _ (s : List ℕ) (q at i : ℕ) (a : value_end s q at ≡ value_end s q i) where
  pub past_block : (k : ℕ) (t : Bool) → t ≡ quiet_for s i k → t ≡ true → q ≤ 39 → k ≤ length s → i ≤ length s - k → value_end s q at ≡ value_end s q (i + k)
  past_block k t e f l h g = a ∙ over_block s q l i k (omega arith) (sym e ∙ f)
