use native.Mathlib.Omega.{arith}
use lib.ListN.{get_or}
use borrow.Author.Rules.{rules}
use Rattle.table_file.proofs.Counts.{digit_least, no_count, leading_zero, starts, starts_alone, no_digit, digit_on, too_many, counted}
use Rattle.table_file.proofs.read_count.Goals as goal
use Rattle.table_file.proofs.read_count.Goals.{else-line-eq48-via-then-line-eq48+else-line-ne1, else-line-eq48-via-else-line-eq48}

pub returns-then-is_empty : goal.returns-then-is_empty
returns-then-is_empty c = search no_count

pub returns-then-line-ne1 : goal.returns-then-line-ne1
returns-then-line-ne1 c = search leading_zero

pub loop-b-init : goal.loop-b-init
loop-b-init c =
    elim c.else-line-eq48.branch [
      | else-line-eq48-via-then-line-eq48+else-line-ne1 w ↦ (search starts_alone, search rules)
      | else-line-eq48-via-else-line-eq48 w ↦ (search starts, search rules)
    ]

pub returns-then-v-gt-ROWS : goal.returns-then-v-gt-ROWS
returns-then-v-gt-ROWS c = search too_many

pub loop-b-preserved : goal.loop-b-preserved
loop-b-preserved c = (search digit_on, search rules)

pub returns-in-loop-b : goal.returns-in-loop-b
returns-in-loop-b c = search no_digit

pub returns : goal.returns
returns c = search counted
