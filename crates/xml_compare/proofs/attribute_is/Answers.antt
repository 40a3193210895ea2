use Rattle.xml_values.proofs.Attributes.{place_ahead, place_inside}
use Rattle.xml_compare.proofs.Compared.{absent_is, value_is}
use Rattle.xml_compare.proofs.attribute_is.Goals as goal

pub returns-in_default : goal.returns-in_default
returns-in_default c = search absent_is

pub slice_bounds-is_value-count : goal.slice_bounds-is_value-count
slice_bounds-is_value-count c = search place_ahead

pub slice_bounds-is_value-start : goal.slice_bounds-is_value-start
slice_bounds-is_value-start c = search place_ahead

pub slice_bounds-is_value-end-2 : goal.slice_bounds-is_value-end-2
slice_bounds-is_value-end-2 c = search place_inside

pub returns : goal.returns
returns c = search value_is
