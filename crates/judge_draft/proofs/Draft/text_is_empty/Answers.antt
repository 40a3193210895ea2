use mathlib.Core.Path.{ap}
use Rattle.xml_values.proofs.Views.{room_says}
use Rattle.judge_draft.specs.Drafts.{is_empty}
use Rattle.xml_texts.proofs.Texts.{plain_text_ahead, plain_text_inside, plain_text_says}
use Rattle.judge_draft.proofs.Values.{text_read, text_missing}
use borrow.Author.Rules.{rules}
use Rattle.judge_draft.proofs.Draft.text_is_empty.Goals as goal

pub returns-in_default : goal.returns-in_default
returns-in_default c = ap is_empty (text_read _ _ _ _ (search rules) _ (room_says _ _ _ c.text.ensures.says (search rules)))

pub slice_bounds-same-count : goal.slice_bounds-same-count
slice_bounds-same-count c = search plain_text_ahead

pub slice_bounds-same-start : goal.slice_bounds-same-start
slice_bounds-same-start c = search plain_text_ahead

pub slice_bounds-same-end : goal.slice_bounds-same-end
slice_bounds-same-end c = search plain_text_inside

pub returns : goal.returns
returns c = search (text_missing, plain_text_says)
