use Rattle.text_facts.proofs.StringLaws.{code_four, code_five, code_length, code_other}
use Rattle.text_facts.proofs.is_labeler_code.Goals as goal

pub returns-in-4 : goal.returns-in-4
returns-in-4 c = search code_four

pub returns-in-5 : goal.returns-in-5
returns-in-5 c = search code_five

pub returns-in_default : goal.returns-in_default
returns-in_default c = search code_length

pub returns-else-all_digits : goal.returns-else-all_digits
returns-else-all_digits c = search code_other
