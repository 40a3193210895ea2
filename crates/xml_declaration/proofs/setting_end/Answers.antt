use Rattle.xml_declaration.proofs.Declaration.{name_fits, value_behind, value_fits, quote_fits, no_space, other_name, no_value, other_value, other_quote, setting_whole}
use borrow.Author.Rules.{rules}
use Rattle.xml_declaration.proofs.setting_end.Goals as goal

pub returns-then-n-at : goal.returns-then-n-at
returns-then-n-at c = search no_space

pub overflow_add-n : goal.overflow_add-n
overflow_add-n c = search (name_fits, rules)

pub returns-in_default : goal.returns-in_default
returns-in_default c = search no_value

pub overflow_add-e : goal.overflow_add-e
overflow_add-e c = search (value_fits, rules)

pub overflow_sub-v : goal.overflow_sub-v
overflow_sub-v c = search value_behind

pub overflow_add-result : goal.overflow_add-result
overflow_add-result c = search (quote_fits, rules)

pub returns-then-byte : goal.returns-then-byte
returns-then-byte c = search setting_whole

pub returns-then-text_in_at : goal.returns-then-text_in_at
returns-then-text_in_at c = search other_quote

pub returns-then-text_at : goal.returns-then-text_at
returns-then-text_at c = search other_value

pub returns : goal.returns
returns c = search other_name
