use Rattle.sort_places.proofs.Placing.{told_in_order}
use Rattle.sort_places.proofs.is_in_order.Goals as goal

pub returns : goal.returns
returns c = search told_in_order
