use mathlib.Core.Path.{refl, ap}
use native.Mathlib.Omega.{arith}
use Rattle.xml_attributes.specs.Listed.{left}
use Rattle.xml_repeats.proofs.Collecting.{collected_all, collected_within, collected_fits, collected_more}
use Rattle.xml_repeats.proofs.collect.Goals as goal

pub loop-a-init : goal.loop-a-init
loop-a-init c = (tt, tt, (c.args.at, ap left c.into_iter-a-iterator.ensures.into_iter_gives, omega arith, refl, refl, omega arith))

pub keep_place-requires : goal.keep_place-requires
keep_place-requires c = collected_within _ _ _ _ _ _ c.loop-a.invariant.2 _ _ c.in-Some.ensures.steps c.requires

pub overflow_add-count : goal.overflow_add-count
overflow_add-count c = collected_fits _ _ _ _ _ _ c.loop-a.invariant.2 _ _ c.in-Some.ensures.steps c.requires

pub loop-a-preserved : goal.loop-a-preserved
loop-a-preserved c = (tt, tt, collected_more _ _ _ _ _ _ c.loop-a.invariant.2 _ _ c.in-Some.ensures.steps _ c.keep_place.ensures)

pub returns : goal.returns
returns c = collected_all _ _ _ _ _ _ c.loop-a.invariant.2 c.in-None.ensures.steps.0
