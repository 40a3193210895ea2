use mathlib.Core.Path.{refl}
use Rattle.text_encode.proofs.Stores.{storing_starts, place_fits, storing_goes, stored_all}
use Rattle.text_encode.proofs.store.Goals as goal

pub loop-k-init : goal.loop-k-init
loop-k-init c = search storing_starts

pub overflow_add-start : goal.overflow_add-start
overflow_add-start c = search place_fits

pub loop-k-preserved : goal.loop-k-preserved
loop-k-preserved c = search storing_goes

pub returns : goal.returns
returns c = (refl, search stored_all)
