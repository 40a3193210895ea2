-- Bytes that are passed by blocks, or up to the end of a run of them: what the functions that do so know, for any property of bytes.
-- Assumes nothing.
use mathlib.Core.Path.{◌≡◌, refl, sym, ◌∙◌, subst}
use mathlib.Core.Bool.{Bool, true, false, ◌&&◌}
use mathlib.Core.List.{List}
use Prim.Native.Nat.{ℕ, zero, suc, ◌+◌, ◌-◌, ◌<◌, ◌≤◌}
use native.Mathlib.Omega.{arith}
use lib.ListN.{length, get_or}
use Rattle.text_scan.specs.Choice.{◌and◌}
use Rattle.text_scan.specs.Lists.{run_end, run_from}
use Rattle.text_scan.proofs.Lists.{Run, run_goes, run_ends}
use Rattle.text_scan.proofs.Tests.{pick_case, and_left, and_right}
use Rattle.text_scan.proofs.Within.{inside, drop_here}
use Rattle.table_lines.specs.Blocks.{throughout}

joined : (t u : Bool) → (t && u) ≡ t and u
joined true u = refl
joined false u = refl

module _ (p : ℕ → Bool) (s : List ℕ) (i k : ℕ) (t : Bool) (e : t ≡ throughout p s i k) where
  pub more : (u : Bool) → u ≡ p (get_or s (i + k) 0) → (t && u) ≡ throughout p s i (k + 1)
  unfolding throughout
  more u q =
      let f : k + 1 ≡ suc k = omega arith in
      rw (f, ← e, ← q) (joined t u)

  pub whole : (n : ℕ) → k ≤ n → n ≤ k → t ≡ throughout p s i n
  whole n h g =
      let f : k ≡ n = omega arith in
      rw f at e

-- a run goes on behind a block of bytes that have its property
module _ (p : ℕ → Bool) (s : List ℕ) (at i : ℕ) (l : Run p s at i) where
  run_over : (k : ℕ) → i + k ≤ length s → throughout p s i k ≡ true → Run p s at (i + k)
  unfolding throughout
  run_over zero h e =
      let f : i + 0 ≡ i = omega arith in
      rw f l
  run_over (suc k) h e =
      let f : i + k + 1 ≡ i + suc k = omega arith in
      rw f at (run_goes p s at (i + k) (run_over k (omega arith) (and_left (throughout p s i k) _ e)) true (omega arith) (sym (and_right (throughout p s i k) _ e)) refl)

  pub run_block : (k last : ℕ) → last ≡ length s - k → k ≤ length s → i ≤ last → (t : Bool) → t ≡ throughout p s i k → t ≡ true → Run p s at (i + k)
  run_block k last d g h t e f = run_over k (omega arith) (sym e ∙ f)

-- what holds at a place, and is handed on over each byte with the property, holds where a run of them ends
module _ (p : ℕ → Bool) (s : List ℕ) (P : ℕ → Type 0) (f : (k : ℕ) → k < length s → p (get_or s k 0) ≡ true → P k → P (k + 1)) where
  along_by : (m i : ℕ) → length s ≤ i + m → P i → P (run_from p s i)
  unfolding run_end
  along_by zero i h q = subst P (run_ends p s i i refl (omega arith)) q
  along_by (suc m) i h q =
      inside (length s) i
      (λ g. rw (drop_here s i g) (pick_case P (p (get_or s i 0)) (run_from p s (i + 1)) i (λ e. along_by m (i + 1) (omega arith) (f i g e q)) (λ _. q)))
      (λ g. subst P (run_ends p s i i refl g) q)

  pub along : (i : ℕ) → P i → P (run_from p s i)
  along i q = along_by (length s) i (omega arith) q
