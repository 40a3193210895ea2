use Rattle.text_encode.proofs.Stores.{no_place}
use Rattle.text_encode.proofs.put.Goals as goal

pub returns-else-at-out : goal.returns-else-at-out
returns-else-at-out c = search no_place
