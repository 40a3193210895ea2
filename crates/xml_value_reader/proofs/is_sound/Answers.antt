use Rattle.xml_attributes.proofs.Keeping.{part_length}
use Rattle.xml_value_reader.proofs.Shown.{sound_part}
use Rattle.xml_value_reader.proofs.is_sound.Goals as goal

pub slice_bounds-first_bad-end : goal.slice_bounds-first_bad-end
slice_bounds-first_bad-end c = search part_length

pub returns : goal.returns
returns c = search sound_part
