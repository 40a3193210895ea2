-- `text_telephones::groups_end` meets its contract. The invariant: the groups' end, told from `at`, is their end told from i.
use Prim.Native.Nat.{◌-◌}
use lib.ListN.{length}
use Rattle.text_telephones.proofs.TelephoneLaws.{Groups}
use Rattle.text_telephones.proofs.groups_end.Given as goal

abbrev pub invariant-loop-i : goal.invariant-loop-i
invariant-loop-i l = Groups l.s l.at l.i

abbrev pub decreases-loop-i : goal.decreases-loop-i
decreases-loop-i l = length l.s - l.i
