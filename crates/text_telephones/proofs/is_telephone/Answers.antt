use Rattle.text_telephones.proofs.TelephoneLaws.{no_tel, no_number, no_first, no_second, groups}
use Rattle.text_telephones.proofs.is_telephone.Goals as goal

pub returns-then-first-second : goal.returns-then-first-second
returns-then-first-second c = search groups

pub returns-then-number-first : goal.returns-then-number-first
returns-then-number-first c = search no_second

pub returns-then-number-gt5 : goal.returns-then-number-gt5
returns-then-number-gt5 c = search no_first

pub returns-then-text_at : goal.returns-then-text_at
returns-then-text_at c = search no_number

pub returns : goal.returns
returns c = search no_tel
