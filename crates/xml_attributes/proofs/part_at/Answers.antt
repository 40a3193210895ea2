use Rattle.xml_attributes.proofs.Parts.{empty_fits, part_start, part_empty, part_no_space, part_malformed, part_read}
use Rattle.xml_attributes.proofs.part_at.Goals as goal

pub returns-then-byte-eq62 : goal.returns-then-byte-eq62
returns-then-byte-eq62 c = search part_start

pub overflow_add-result-then-text_at : goal.overflow_add-result-then-text_at
overflow_add-result-then-text_at c = search empty_fits

pub returns-then-text_at : goal.returns-then-text_at
returns-then-text_at c = search part_empty

pub returns-then-j-i : goal.returns-then-j-i
returns-then-j-i c = search part_no_space

pub returns-in_default : goal.returns-in_default
returns-in_default c = search part_malformed

pub returns : goal.returns
returns c = search part_read
