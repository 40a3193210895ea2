use Rattle.xml_references.proofs.Writes.{part_ahead, part_inside, decoded_count, decoded_stored}
use Rattle.xml_references.proofs.decode.Goals as goal

pub slice_bounds-decode_at-count : goal.slice_bounds-decode_at-count
slice_bounds-decode_at-count c = search part_ahead

pub returns : goal.returns
returns c = (search decoded_count, search decoded_stored)

pub slice_bounds-decode_at-start : goal.slice_bounds-decode_at-start
slice_bounds-decode_at-start c = search part_ahead

pub slice_bounds-decode_at-end : goal.slice_bounds-decode_at-end
slice_bounds-decode_at-end c = search part_inside
