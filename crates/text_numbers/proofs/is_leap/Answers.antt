use Rattle.text_numbers.proofs.DayLaws.{common_year, fourth_year, century}
use Rattle.text_numbers.proofs.is_leap.Goals as goal

pub returns-then-year-ne0 : goal.returns-then-year-ne0
returns-then-year-ne0 c = search fourth_year

pub returns-else-year-ne0 : goal.returns-else-year-ne0
returns-else-year-ne0 c = search century

pub returns-else-year-eq0 : goal.returns-else-year-eq0
returns-else-year-eq0 c = search common_year
