use Rattle.xml_elements.proofs.Outcomes.{stopped_step, no_stopped_step}
use Rattle.xml_elements.proofs.stop.Goals as goal

pub returns-in-Ok : goal.returns-in-Ok
returns-in-Ok c = search no_stopped_step

pub returns-in-Err : goal.returns-in-Err
returns-in-Err c = search stopped_step
