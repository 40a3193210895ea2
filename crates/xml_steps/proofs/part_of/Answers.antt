use Rattle.xml_steps.proofs.Steps.{part_inside, part_after, part_before}
use Rattle.xml_steps.proofs.part_of.Goals as goal

pub returns-then-depth-gt0 : goal.returns-then-depth-gt0
returns-then-depth-gt0 c = search part_inside

pub returns-then-count-gt0 : goal.returns-then-count-gt0
returns-then-count-gt0 c = search part_after

pub returns : goal.returns
returns c = search part_before
