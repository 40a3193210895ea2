use mathlib.Core.Path.{refl}
use lib.ListN.{length-set}
use Rattle.sort_places.proofs.Copying.{copied_none, copied_more, copied_all}
use Rattle.sort_places.proofs.copy.Goals as goal

pub loop-i-init : goal.loop-i-init
loop-i-init c = (refl, copied_none _ _)

pub loop-i-preserved : goal.loop-i-preserved
loop-i-preserved c = (simp length-set c.loop-i.invariant.0, search copied_more)

pub returns : goal.returns
returns c = search copied_all
