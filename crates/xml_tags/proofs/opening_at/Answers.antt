use Rattle.text_scan.proofs.Within.{next_fits}
use Rattle.xml_tags.proofs.Opening.{opens_nothing, opens_no_name, opens_crowded, opens_whole}
use borrow.Author.Rules.{rules}
use Rattle.xml_tags.proofs.opening_at.Goals as goal

pub returns-then-byte-ne60 : goal.returns-then-byte-ne60
returns-then-byte-ne60 c = search opens_nothing

pub overflow_add-at : goal.overflow_add-at
overflow_add-at c = search (next_fits, rules)

pub overflow_add-at-2 : goal.overflow_add-at-2
overflow_add-at-2 c = search (next_fits, rules)

pub returns-then-n-at : goal.returns-then-n-at
returns-then-n-at c = search opens_no_name

pub returns-then-is_crowded : goal.returns-then-is_crowded
returns-then-is_crowded c = search opens_crowded

pub returns : goal.returns
returns c = search opens_whole
