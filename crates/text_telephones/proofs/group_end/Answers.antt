use Rattle.text_telephones.proofs.TelephoneLaws.{no_hyphen, hyphen_fits, hyphen_digits, hyphen_alone}
use Rattle.text_telephones.proofs.group_end.Goals as goal

pub overflow_add-i : goal.overflow_add-i
overflow_add-i c = search hyphen_fits

pub overflow_add-i-then-byte-eq45 : goal.overflow_add-i-then-byte-eq45
overflow_add-i-then-byte-eq45 c = search hyphen_fits

pub returns-then-i-e : goal.returns-then-i-e
returns-then-i-e c = search hyphen_digits

pub returns-then-byte-eq45 : goal.returns-then-byte-eq45
returns-then-byte-eq45 c = search hyphen_alone

pub returns : goal.returns
returns c = search no_hyphen
