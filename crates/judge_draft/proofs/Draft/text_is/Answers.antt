use Rattle.xml_values.proofs.Views.{room_says}
use Rattle.xml_texts.proofs.Texts.{plain_text_ahead, plain_text_inside, plain_text_says}
use Rattle.judge_draft.proofs.Values.{text_equals}
use borrow.Author.Rules.{rules}
use Rattle.judge_draft.proofs.Draft.text_is.Goals as goal

pub returns-in_default : goal.returns-in_default
returns-in_default c = search (text_equals, room_says, rules)

pub slice_bounds-same-count : goal.slice_bounds-same-count
slice_bounds-same-count c = search plain_text_ahead

pub slice_bounds-same-start : goal.slice_bounds-same-start
slice_bounds-same-start c = search plain_text_ahead

pub slice_bounds-same-end : goal.slice_bounds-same-end
slice_bounds-same-end c = search plain_text_inside

pub returns : goal.returns
returns c = search (text_equals, plain_text_says)
