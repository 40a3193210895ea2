use native.Mathlib.Omega.{arith}
use Rattle.text_numbers.proofs.DayLaws.{not_eight, not_digits, part_digits, part_short, date}
use Rattle.text_numbers.proofs.is_day.Goals as goal

pub returns-then-s-ne8 : goal.returns-then-s-ne8
returns-then-s-ne8 c = search not_eight

pub value-year-requires : goal.value-year-requires
value-year-requires c = search (part_short, part_digits, arith)

pub value-month-requires : goal.value-month-requires
value-month-requires c = search (part_short, part_digits, arith)

pub value-day-requires : goal.value-day-requires
value-day-requires c = search (part_short, part_digits, arith)

pub returns-then-all_digits : goal.returns-then-all_digits
returns-then-all_digits c = search date

pub returns : goal.returns
returns c = search not_digits
