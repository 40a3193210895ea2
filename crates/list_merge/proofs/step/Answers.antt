use Rattle.list_merge.proofs.Places.{place_fits, step_is}
use Rattle.list_merge.proofs.step.Goals as goal

pub decide-requires : goal.decide-requires
decide-requires c = (search place_fits, search place_fits)

pub returns : goal.returns
returns c = search step_is
