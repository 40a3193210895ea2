-- Zeros over the scratch area, one law for each branch of the loop.
-- Assumes nothing.
use mathlib.Core.Path.{◌≡◌, refl, sym, ◌∙◌, ap}
use mathlib.Core.List.{List, [], ◌∷◌, ◌++◌}
use Prim.Native.Nat.{ℕ, zero, suc, ◌+◌, ◌-◌, ◌<◌, ◌≤◌}
use native.Mathlib.Omega.{arith}
use lib.ListN.{length, drop, set, length-set}
use lib.Seq.{sets, sets-eq}
use Rattle.xml_reader.specs.Limits.{scratch_limit}
use Rattle.judge_input.specs.Scratch.{zeros, cleared}

-- those from k on are still to be stored
pub record ToClear (before scratch : List ℕ) (k : ℕ) : Type 0 where
  pub rest : sets before 0 (zeros scratch_limit) ≡ sets scratch k (zeros (scratch_limit - k))
  pub long : length scratch ≡ length before

pub clear_start : (before : List ℕ) → ToClear before before 0
clear_start before =
    let e : scratch_limit - 0 ≡ scratch_limit = omega arith in
    record { rest = rw e; long = refl }

zeros_here : (m : ℕ) → 0 < m → zeros m ≡ 0 ∷ zeros (m - 1)
unfolding zeros
zeros_here zero h = absurd (omega arith)
zeros_here (suc m) h =
    let e : suc m - 1 ≡ m = omega arith in
    rw e

zeros_over : (m : ℕ) → m ≤ 0 → zeros m ≡ []
unfolding zeros
zeros_over zero h = refl
zeros_over (suc m) h = absurd (omega arith)

zeros_long : (m : ℕ) → length (zeros m) ≡ m
unfolding zeros
zeros_long zero = refl
zeros_long (suc m) = ap suc (zeros_long m)

module _ (before scratch : List ℕ) (k : ℕ) (l : ToClear before scratch k) where
  pub clear_room : k < scratch_limit → scratch_limit ≤ length before → k < length scratch
  clear_room h g = omega (arith, l.long)

  pub clear_next : k < scratch_limit → ToClear before (set scratch k 0) (k + 1)
  clear_next h =
      let m : scratch_limit - k - 1 ≡ scratch_limit - (k + 1) = omega arith in
      let i : k + 1 ≡ suc k = omega arith in
      record { rest = l.rest ∙ (ap (sets scratch k) (zeros_here (scratch_limit - k) (omega arith)) ∙ rw (m, i)); long = length-set scratch k 0 ∙ l.long }

  pub clear_over : scratch_limit ≤ k → scratch_limit ≤ length before → scratch ≡ cleared before
  unfolding cleared
  clear_over h g =
      let z : 0 + length (zeros scratch_limit) ≡ scratch_limit = omega (arith, zeros_long scratch_limit) in
      sym (sym (sets-eq (zeros scratch_limit) before 0 (omega (arith, zeros_long scratch_limit)) ∙ ap (λ n. zeros scratch_limit ++ drop n before) z) ∙ (l.rest ∙ ap (sets scratch k) (zeros_over (scratch_limit - k) (omega arith))))
