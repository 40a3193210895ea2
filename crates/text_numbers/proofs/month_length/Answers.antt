use Rattle.text_numbers.proofs.DayLaws.{leap_february, february, month}
use Rattle.text_numbers.proofs.month_length.Goals as goal

pub returns-then-is_leap : goal.returns-then-is_leap
returns-then-is_leap c = search leap_february

pub returns-then-month-eq2 : goal.returns-then-month-eq2
returns-then-month-eq2 c = search february

pub returns : goal.returns
returns c = search month
