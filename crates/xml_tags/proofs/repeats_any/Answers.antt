use Rattle.xml_attributes.proofs.Keeping.{part_length}
use Rattle.xml_tags.proofs.Judged.{by_places, by_reading}
use Rattle.xml_tags.proofs.repeats_any.Goals as goal

pub slice_bounds-repeats_few-end : goal.slice_bounds-repeats_few-end
slice_bounds-repeats_few-end c = search part_length

pub returns-then-count-starts : goal.returns-then-count-starts
returns-then-count-starts c = search by_places

pub returns : goal.returns
returns c = search by_reading
