-- Where what was found ends: behind its start, and within.
-- Assumes nothing.
use Rattle.std.specs.Prelude.{Option, None, Some, ℕ}
use Prim.Native.Nat.{ℕ, ◌<◌, ◌≤◌}
use Rattle.text_scan.specs.Walk.{Next, skip, done}

abbrev pub Within : ℕ → ℕ → Option ℕ → Type 0
Within at n (Some j) = (at < j) × (j ≤ n)
Within at n None = Unit {0}

-- the same of a step that is done
abbrev pub DoneWithin : ℕ → ℕ → Next (Option ℕ) → Type 0
DoneWithin at n (skip w) = Unit {0}
DoneWithin at n (done r) = Within at n r
