use Rattle.xml_distinct.proofs.Deciding.{sorted_decides}
use Rattle.xml_distinct.proofs.repeats_sorted.Goals as goal

pub returns : goal.returns
returns c = (search sorted_decides, c.sort.ensures)
