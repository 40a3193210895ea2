use Rattle.xml_values.proofs.Views.{shows_small, shows_nothing, shows_part}
use Rattle.xml_texts.proofs.Texts.{text_ends, text_ahead, text_inside, text_room, text_front}
use Rattle.xml_texts.proofs.text_value.Goals as goal

pub returns-then-out-lt-VALUE : goal.returns-then-out-lt-VALUE
returns-then-out-lt-VALUE c = search shows_small

pub returns-in_default : goal.returns-in_default
returns-in_default c = search shows_nothing

pub slice_bounds-all_shown-count : goal.slice_bounds-all_shown-count
slice_bounds-all_shown-count c = search text_ahead

pub slice_bounds-all_shown-start : goal.slice_bounds-all_shown-start
slice_bounds-all_shown-start c = search text_ahead

pub slice_bounds-all_shown-end : goal.slice_bounds-all_shown-end
slice_bounds-all_shown-end c = search text_inside

pub returns-then-all_shown : goal.returns-then-all_shown
returns-then-all_shown c = search shows_part

pub say-requires : goal.say-requires
say-requires c = search (text_ends, text_room)

pub returns : goal.returns
returns c = search text_front
