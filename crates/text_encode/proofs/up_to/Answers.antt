use mathlib.Core.Path.{◌∙◌}
use Rattle.text_encode.proofs.Stores.{the_less}
use Rattle.text_encode.proofs.up_to.Goals as goal

pub returns : goal.returns
returns c = c.min.ensures ∙ the_less _ _
