use Rattle.xml_values.proofs.Views.{part_ahead, part_inside, part_seen, part_stands, front_length, front_seen, front_stands}
use Rattle.xml_values.proofs.either.Goals as goal

pub slice_bounds-result-count : goal.slice_bounds-result-count
slice_bounds-result-count c = search part_ahead

pub slice_bounds-result-start : goal.slice_bounds-result-start
slice_bounds-result-start c = search part_ahead

pub slice_bounds-result-end : goal.slice_bounds-result-end
slice_bounds-result-end c = search part_inside

pub slice_bounds-result-end-in-Scratch : goal.slice_bounds-result-end-in-Scratch
slice_bounds-result-end-in-Scratch c = search front_length

pub returns-in-Document : goal.returns-in-Document
returns-in-Document c = search (part_seen, part_stands)

pub returns-in-Scratch : goal.returns-in-Scratch
returns-in-Scratch c = search (front_seen, front_stands)
