use Rattle.text_scan.proofs.Within.{next_fits}
use Rattle.xml_tags.proofs.Judged.{no_tag, no_element, closes_fits, tag_bare, tag_malformed, tag_repeats, tag_many, tag_over, tag_whole}
use borrow.Author.Rules.{rules}
use Rattle.xml_tags.proofs.tag_at.Goals as goal

pub returns-then-byte-ne60 : goal.returns-then-byte-ne60
returns-then-byte-ne60 c = search no_tag

pub overflow_add-at : goal.overflow_add-at
overflow_add-at c = search (next_fits, rules)

pub overflow_add-at-2 : goal.overflow_add-at-2
overflow_add-at-2 c = search (next_fits, rules)

pub returns-then-n-at : goal.returns-then-n-at
returns-then-n-at c = search no_element

pub overflow_add-after : goal.overflow_add-after
overflow_add-after c = search closes_fits

pub returns-then-closes : goal.returns-then-closes
returns-then-closes c = search tag_bare

pub returns-then-is_err : goal.returns-then-is_err
returns-then-is_err c = search tag_malformed

pub returns-then-repeats_any : goal.returns-then-repeats_any
returns-then-repeats_any c = search tag_repeats

pub returns-then-count-gt-ATTRIBUTES : goal.returns-then-count-gt-ATTRIBUTES
returns-then-count-gt-ATTRIBUTES c = search tag_many

pub returns-then-passes : goal.returns-then-passes
returns-then-passes c = search tag_over

pub returns : goal.returns
returns c = search tag_whole
