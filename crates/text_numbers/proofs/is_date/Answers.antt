use Rattle.text_numbers.proofs.DayLaws.{no_year, before_january, after_december, before_first, in_month}
use Rattle.text_numbers.proofs.is_date.Goals as goal

pub returns-then-year-lt1 : goal.returns-then-year-lt1
returns-then-year-lt1 c = search no_year

pub returns-then-month-lt1 : goal.returns-then-month-lt1
returns-then-month-lt1 c = search before_january

pub returns-then-month-gt12 : goal.returns-then-month-gt12
returns-then-month-gt12 c = search after_december

pub returns-then-day-lt1 : goal.returns-then-day-lt1
returns-then-day-lt1 c = search before_first

pub returns : goal.returns
returns c = search in_month
