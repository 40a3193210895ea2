use Rattle.text_telephones.proofs.TelephoneLaws.{ends_here, ends_other, extension_fits, extension, extension_empty}
use Rattle.text_telephones.proofs.ends_at.Goals as goal

pub returns-then-i-s : goal.returns-then-i-s
returns-then-i-s c = search ends_here

pub overflow_add-i : goal.overflow_add-i
overflow_add-i c = search extension_fits

pub overflow_add-i-then-text_at : goal.overflow_add-i-then-text_at
overflow_add-i-then-text_at c = search extension_fits

pub returns-then-i-e : goal.returns-then-i-e
returns-then-i-e c = search extension

pub returns-then-text_at : goal.returns-then-text_at
returns-then-text_at c = search extension_empty

pub returns : goal.returns
returns c = search ends_other
