use borrow.Author.Rules.{rules}
use mathlib.Core.Path.{refl}
use Rattle.text_scan.proofs.Lists.{run_ends}
use Rattle.table_lines.proofs.Runs.{until_here, until_on, line_plain, line_same, plain_least, plain_less}
use Rattle.table_lines.proofs.Counting.{starts, at_return, at_tab_empty, at_tab, at_other, at_plain, end_empty, end_field, feed_empty, feed_field}
use Rattle.table_lines.proofs.line_at.Goals as goal
use Rattle.table_lines.proofs.line_at.Goals.{else-loop-i-test, then-loop-i-test+else-b-gt13+then-b-eq10}

pub loop-i-init : goal.loop-i-init
loop-i-init c = (refl, search starts, search rules, search rules, search rules)

pub loop-i-smaller-then-b-gt13 : goal.loop-i-smaller-then-b-gt13
loop-i-smaller-then-b-gt13 c = search plain_less

pub loop-i-preserved-then-b-gt13 : goal.loop-i-preserved-then-b-gt13
loop-i-preserved-then-b-gt13 c = (search line_plain, search at_plain, search plain_least, search plain_least, search rules)

pub returns-then-b-eq13 : goal.returns-then-b-eq13
returns-then-b-eq13 c = (search line_same, search at_return)

pub returns-then-i-start : goal.returns-then-i-start
returns-then-i-start c = (search line_same, search at_tab_empty)

pub loop-i-preserved-then-b-eq9 : goal.loop-i-preserved-then-b-eq9
loop-i-preserved-then-b-eq9 c = (search until_on, search at_tab, search rules, search rules, search rules)

pub loop-i-preserved : goal.loop-i-preserved
loop-i-preserved c = (search until_on, search at_other, search rules, search rules, search rules)

pub returns-then-i-start-2 : goal.returns-then-i-start-2
returns-then-i-start-2 c =
    elim c.loop-i-test.branch [
      | else-loop-i-test w ↦ (search run_ends, search end_empty)
      | then-loop-i-test+else-b-gt13+then-b-eq10 w ↦ (search until_here, search feed_empty)
    ]

pub returns : goal.returns
returns c =
    elim c.loop-i-test.branch [
      | else-loop-i-test w ↦ (search run_ends, search end_field)
      | then-loop-i-test+else-b-gt13+then-b-eq10 w ↦ (search until_here, search feed_field)
    ]
