use Rattle.text_scan.proofs.Within.{next_fits}
use Rattle.xml_values.proofs.Attributes.{no_tag, no_name, named}
use borrow.Author.Rules.{rules}
use Rattle.xml_values.proofs.name_after.Goals as goal

pub returns-then-byte-ne60 : goal.returns-then-byte-ne60
returns-then-byte-ne60 c = search no_tag

pub overflow_add-first : goal.overflow_add-first
overflow_add-first c = search (next_fits, rules)

pub overflow_add-first-2 : goal.overflow_add-first-2
overflow_add-first-2 c = search (next_fits, rules)

pub returns-then-n-first : goal.returns-then-n-first
returns-then-n-first c = search no_name

pub returns : goal.returns
returns c = search named
