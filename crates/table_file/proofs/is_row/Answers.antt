use Rattle.table_file.proofs.Lines.{too_long, wrong_fields, of_three, of_two, not_five, of_five}
use Rattle.table_file.proofs.is_row.Goals as goal

pub returns-then-line-gt-ROW : goal.returns-then-line-gt-ROW
returns-then-line-gt-ROW c = search too_long

pub returns-in_default : goal.returns-in_default
returns-in_default c = search wrong_fields

pub returns-in-CodeList : goal.returns-in-CodeList
returns-in-CodeList c = search of_three

pub returns-in-Register : goal.returns-in-Register
returns-in-Register c = search of_two

pub returns-then-n-eq5 : goal.returns-then-n-eq5
returns-then-n-eq5 c = search of_five

pub returns-else-n-eq5 : goal.returns-else-n-eq5
returns-else-n-eq5 c = search not_five
