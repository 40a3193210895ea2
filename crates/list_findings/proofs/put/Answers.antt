use native.Mathlib.Omega.{arith}
use lib.ListN.{length-set}
use Rattle.list_findings.proofs.put.Goals as goal

pub bounds-list-k-2 : goal.bounds-list-k-2
bounds-list-k-2 c = simp length-set (omega arith)

pub bounds-list-k-3 : goal.bounds-list-k-3
bounds-list-k-3 c = simp length-set (omega arith)
