use borrow.Author.Rules.{rules}
use Rattle.xml_names.specs.Names.{is_name_start, is_name_char}
use Rattle.sort_compare.proofs.Bytes.{byte_least, byte_next, byte_next_too, byte_falls, compare_starts, compare_same, compare_goes, compare_told}
use Rattle.sort_compare.proofs.compare_names.Goals as goal

pub loop-x-init : goal.loop-x-init
loop-x-init c = search (byte_least is_name_start, compare_starts)

pub returns-then-x-eq0 : goal.returns-then-x-eq0
returns-then-x-eq0 c = search compare_same

pub overflow_add-i : goal.overflow_add-i
overflow_add-i c = search (byte_next, rules)

pub overflow_add-j : goal.overflow_add-j
overflow_add-j c = search (byte_next_too, rules)

pub loop-x-smaller : goal.loop-x-smaller
loop-x-smaller c = search byte_falls

pub loop-x-preserved : goal.loop-x-preserved
loop-x-preserved c = search (byte_least is_name_char, compare_goes)

pub returns : goal.returns
returns c = search compare_told
