use Rattle.xml_markup.proofs.Instructions.{no_instruction, opened_fits, target_room, no_target, no_end, name_over, instruction_whole}
use borrow.Author.Rules.{rules}
use Rattle.xml_markup.proofs.instruction_end.Goals as goal

pub overflow_add-at : goal.overflow_add-at
overflow_add-at c = search (opened_fits, rules)

pub overflow_add-at-then-text_at : goal.overflow_add-at-then-text_at
overflow_add-at-then-text_at c = search (opened_fits, rules)

pub returns-in_default : goal.returns-in_default
returns-in_default c = search no_end

pub overflow_add-at-then-is_target : goal.overflow_add-at-then-is_target
overflow_add-at-then-is_target c = search (opened_fits, rules)

pub overflow_sub-n : goal.overflow_sub-n
overflow_sub-n c = search target_room

pub returns-then-n-at-gt-NAME : goal.returns-then-n-at-gt-NAME
returns-then-n-at-gt-NAME c = search name_over

pub returns-then-is_target : goal.returns-then-is_target
returns-then-is_target c = search instruction_whole

pub returns-then-text_at : goal.returns-then-text_at
returns-then-text_at c = search no_target

pub returns : goal.returns
returns c = search no_instruction
