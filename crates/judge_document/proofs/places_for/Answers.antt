use mathlib.Core.Path.{refl}
use Rattle.judge_document.specs.Typed.{places_for}
use Rattle.judge_document.proofs.places_for.Goals as goal

pub returns : goal.returns
unfolding places_for
returns c = refl
