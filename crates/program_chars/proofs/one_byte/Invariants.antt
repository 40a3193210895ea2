-- `program_chars::one_byte` is safe: a turn adds at most 1, and there are 256 turns.
use Prim.Native.Nat.{◌-◌, ◌≤◌}
use Rattle.program_chars.proofs.one_byte.Given as goal

abbrev pub invariant-loop-b : goal.invariant-loop-b
invariant-loop-b l = (l.right ≤ l.b) × (l.b ≤ 256)

abbrev pub decreases-loop-b : goal.decreases-loop-b
decreases-loop-b l = 256 - l.b
