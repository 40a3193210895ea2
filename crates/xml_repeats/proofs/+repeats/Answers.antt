use borrow.Author.Rules.{rules}
use Rattle.xml_attributes.proofs.Parts.{read_name, read_within, read_name_within, read_name_ahead, read_fits}
use Rattle.xml_attributes.proofs.Some.{first_ended, behind_found, first_again}
use Rattle.xml_repeats.proofs.+repeats.Goals as goal

pub returns-in_default : goal.returns-in_default
returns-in_default t c = search first_ended

pub overflow_add-a : goal.overflow_add-a
overflow_add-a t c = search (read_fits, rules)

pub returns-then-repeats : goal.returns-then-repeats
returns-then-repeats t c = search behind_found

pub named_behind-requires : goal.named_behind-requires
named_behind-requires t c = (search read_name, search read_name_ahead, search read_name_within, search read_within)

pub returns : goal.returns
returns t c = search first_again
