use Rattle.xml_values.proofs.Views.{room_says}
use Rattle.xml_texts.proofs.Texts.{plain_text_ahead, plain_text_inside, plain_text_says}
use Rattle.judge_rows.proofs.Asked.{name_asked}
use Rattle.table_index.proofs.Runs.{any_name}
use borrow.Author.Rules.{rules}
use Rattle.judge_rows.proofs.has_name_of.Goals as goal

pub some_row-requires : goal.some_row-requires
some_row-requires c = search any_name

pub returns-in_default : goal.returns-in_default
returns-in_default c = search (name_asked, room_says, rules)

pub slice_bounds-some_row-count : goal.slice_bounds-some_row-count
slice_bounds-some_row-count c = search plain_text_ahead

pub slice_bounds-some_row-start : goal.slice_bounds-some_row-start
slice_bounds-some_row-start c = search plain_text_ahead

pub slice_bounds-some_row-end-2 : goal.slice_bounds-some_row-end-2
slice_bounds-some_row-end-2 c = search plain_text_inside

pub some_row-requires-2 : goal.some_row-requires-2
some_row-requires-2 c = search any_name

pub returns : goal.returns
returns c = search (name_asked, plain_text_says)
