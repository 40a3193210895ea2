-- `program_chars::code_points` is safe: a turn adds at most 1, and there are 0x110000 turns.
use Prim.Native.Nat.{◌-◌, ◌≤◌}
use Rattle.program_chars.proofs.code_points.Given as goal

abbrev pub invariant-loop-c : goal.invariant-loop-c
invariant-loop-c l = (l.right ≤ l.c) × (l.c ≤ 0x110000)

abbrev pub decreases-loop-c : goal.decreases-loop-c
decreases-loop-c l = 0x110000 - l.c
