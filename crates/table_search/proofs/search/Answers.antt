use Prim.Native.Nat.{◌+◌, ◌-◌, ◌/◌}
use native.Mathlib.Omega.{arith}
use Rattle.table_search.proofs.Searching.{search_starts, search_less, search_more, search_same, search_ends}
use borrow.Author.Rules.{rules}
use Rattle.table_search.proofs.search.Goals as goal

pub loop-low-init : goal.loop-low-init
loop-low-init c = (search rules, search search_starts)

pub overflow_cast-run : goal.overflow_cast-run
overflow_cast-run c = omega (arith, c.type_inv.run (c.loop-low.low + (c.loop-low.high - c.loop-low.low) / 2))

pub loop-low-preserved-in-Less : goal.loop-low-preserved-in-Less
loop-low-preserved-in-Less c = (search rules, search search_less)

pub loop-low-preserved : goal.loop-low-preserved
loop-low-preserved c = (omega arith, search search_more)

pub returns-in-Equal : goal.returns-in-Equal
returns-in-Equal c = search search_same

pub returns : goal.returns
returns c = search search_ends
