use Rattle.xml_steps.proofs.Steps.{row_room, row_open, deeper_fits, place_low, top_number_low, after_low, at_end_lem, is_passed, by_start, by_empty, by_end, by_text, by_comment, by_instruction, by_declaration}
use borrow.Author.Rules.{rules}
use Rattle.xml_steps.proofs.step.Goals as goal

pub overflow_add-reader : goal.overflow_add-reader
overflow_add-reader c = search deeper_fits

pub add-requires : goal.add-requires
add-requires c = (search row_room, search place_low, search top_number_low, search after_low)

pub add-requires-in-Empty : goal.add-requires-in-Empty
add-requires-in-Empty c = (search row_room, search place_low, search top_number_low, search after_low)

pub close-requires : goal.close-requires
close-requires c = (search at_end_lem, search row_open)

pub returns-in-Start : goal.returns-in-Start
returns-in-Start c = (search by_start, search rules)

pub returns-in-Empty : goal.returns-in-Empty
returns-in-Empty c = (search by_empty, search rules)

pub returns-in-End : goal.returns-in-End
returns-in-End c = (search by_end, search rules)

pub returns-in-Text : goal.returns-in-Text
returns-in-Text c = (search (by_text, is_passed), search rules)

pub returns-in-Comment : goal.returns-in-Comment
returns-in-Comment c = (search (by_comment, is_passed), search rules)

pub returns-in-Instruction : goal.returns-in-Instruction
returns-in-Instruction c = (search (by_instruction, is_passed), search rules)

pub returns-in-Declaration : goal.returns-in-Declaration
returns-in-Declaration c = (search (by_declaration, is_passed), search rules)
