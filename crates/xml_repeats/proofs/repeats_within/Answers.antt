use Rattle.xml_attributes.proofs.Keeping.{part_length}
use Rattle.xml_repeats.proofs.Collecting.{places_room, by_all_places}
use Rattle.xml_repeats.proofs.repeats_within.Goals as goal

pub slice_bounds-repeats-end-2 : goal.slice_bounds-repeats-end-2
slice_bounds-repeats-end-2 c = search part_length

pub repeats-requires : goal.repeats-requires
repeats-requires c = search places_room

pub returns : goal.returns
returns c = search by_all_places
