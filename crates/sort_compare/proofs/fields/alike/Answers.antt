use native.Mathlib.Omega.{arith}
use lib.ListN.{length}
use Prim.Native.Nat.{◌<◌}
use Rattle.sort_compare.proofs.Parts.{alike_ends, alike_other, alike_low, alike_goes}
use Rattle.sort_compare.proofs.fields.alike.Goals.{then-b-y-via-then-b-y, then-b-y-via-else-b-y+then-b-le13}
use Rattle.sort_compare.proofs.fields.alike.Goals as goal

pub returns-then-b-y : goal.returns-then-b-y
returns-then-b-y c =
    let h : c.loop-k.k < length c.args.x.now = omega arith in
    let g : c.loop-k.k < length c.args.y.now = omega arith in
    elim c.then-b-y.branch [ then-b-y-via-then-b-y w ↦ search alike_other | then-b-y-via-else-b-y+then-b-le13 w ↦ search alike_low ]

pub loop-k-preserved : goal.loop-k-preserved
loop-k-preserved c =
    let h : c.loop-k.k < length c.args.x.now = omega arith in
    let g : c.loop-k.k < length c.args.y.now = omega arith in
    search alike_goes

pub returns : goal.returns
returns c = search alike_ends
