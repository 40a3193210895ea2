-- `program_chars::each_place` is safe: a turn adds at most 1, and there are 25,600 turns.
use Prim.Native.Nat.{◌-◌, ◌≤◌}
use Rattle.program_chars.proofs.each_place.Given as goal

abbrev pub invariant-loop-n : goal.invariant-loop-n
invariant-loop-n l = (l.right ≤ l.n) × (l.n ≤ 25600)

abbrev pub decreases-loop-n : goal.decreases-loop-n
decreases-loop-n l = 25600 - l.n
