use Rattle.xml_value_reader.proofs.Shown.{start_inside, empty_inside, opens_start, opens_empty, opens_nothing}
use Rattle.xml_value_reader.proofs.is_opened.Goals as goal

pub is_sound-requires : goal.is_sound-requires
is_sound-requires c = search start_inside

pub is_sound-requires-in-Empty : goal.is_sound-requires-in-Empty
is_sound-requires-in-Empty c = search empty_inside

pub returns-in-Start : goal.returns-in-Start
returns-in-Start c = search opens_start

pub returns-in-Empty : goal.returns-in-Empty
returns-in-Empty c = search opens_empty

pub returns-in_default : goal.returns-in_default
returns-in_default c = search opens_nothing
