-- The digits still to put, and then those that are there, are the last digits of n.
use mathlib.Core.Path.{◌≡◌}
use mathlib.Core.List.{◌++◌}
use Prim.Native.Nat.{◌≤◌}
use lib.ListN.{length}
use lib.Seq.{slice}
use Rattle.program_texts.specs.Digits.{last_digits}
use Rattle.program_texts.proofs.number.put_last.Given as goal

abbrev pub invariant-loop-i : goal.invariant-loop-i
invariant-loop-i l = (length l.out ≡ length l.initial.out) × (l.i ≤ l.k) × (last_digits l.i l.rest ++ slice l.i l.k l.out ≡ last_digits l.k l.n)
