-- `table_lines::throughout` meets its contract. The invariant: whether the k bytes from i on are of the class.
use mathlib.Core.Path.{◌≡◌}
use Prim.Native.Nat.{◌≤◌}
use Rattle.table_lines.specs.Blocks.{throughout}
use Rattle.table_lines.proofs.throughout.Given as goal

abbrev pub invariant-loop-k : goal.invariant-loop-k
invariant-loop-k g l = (l.k ≤ g.row.N) × (l.all ≡ throughout g.C.ByteClass.members l.s l.i l.k)
