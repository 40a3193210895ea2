use Rattle.text_scan.proofs.Lists.{map_same}
use Rattle.text_scan.proofs.text_at.Goals as goal

pub returns : goal.returns
returns c = rw map_same at c.text_read_at.ensures
