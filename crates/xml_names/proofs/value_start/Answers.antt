use Rattle.text_scan.proofs.Within.{next_fits}
use Rattle.xml_names.proofs.Values.{straight, second_fits, no_equals, quote_double, quote_single, no_quote}
use borrow.Author.Rules.{rules}
use Rattle.xml_names.proofs.value_start.Goals as goal

pub overflow_add-n : goal.overflow_add-n
overflow_add-n c = search (next_fits, rules)

pub overflow_add-result : goal.overflow_add-result
overflow_add-result c = search (second_fits, rules)

pub returns-then-byte-eq34 : goal.returns-then-byte-eq34
returns-then-byte-eq34 c = search straight

pub returns-then-byte-ne61 : goal.returns-then-byte-ne61
returns-then-byte-ne61 c = search no_equals

pub overflow_add-e : goal.overflow_add-e
overflow_add-e c = search (next_fits, rules)

pub overflow_add-result-then-c-eq34 : goal.overflow_add-result-then-c-eq34
overflow_add-result-then-c-eq34 c = search (next_fits, rules)

pub returns-then-c-eq34 : goal.returns-then-c-eq34
returns-then-c-eq34 c = search quote_double

pub overflow_add-result-then-c-eq39 : goal.overflow_add-result-then-c-eq39
overflow_add-result-then-c-eq39 c = search (next_fits, rules)

pub returns-then-c-eq39 : goal.returns-then-c-eq39
returns-then-c-eq39 c = search quote_single

pub returns : goal.returns
returns c = search no_quote
