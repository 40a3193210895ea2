use native.Mathlib.Omega.{arith}
use Rattle.sort_compare.proofs.Parts.{value_near, value_alike, value_told, value_same, value_inside, value_goes, value_over}
use Rattle.sort_compare.proofs.fields.compare_value.Goals.{then-u-v-via-then-u-v, then-u-v-via-else-u-v+then-u-eq0}
use Rattle.sort_compare.proofs.fields.compare_value.Goals as goal

pub loop-k-init : goal.loop-k-init
loop-k-init c = (search value_near, search value_alike)

pub returns-then-u-v : goal.returns-then-u-v
returns-then-u-v c = elim c.then-u-v.branch [ then-u-v-via-then-u-v w ↦ search value_told | then-u-v-via-else-u-v+then-u-eq0 w ↦ search value_same ]

pub returns-else-u-eq0 : goal.returns-else-u-eq0
returns-else-u-eq0 c = absurd (omega (arith, value_inside _ _ _ _ c.loop-k.invariant.1 _ c.unit-u.ensures _ c.unit-v.ensures c.if-u-v.false c.if-u-eq0.false))

pub loop-k-preserved : goal.loop-k-preserved
loop-k-preserved c = (search value_inside, search value_goes)

pub returns : goal.returns
returns c = search value_over
