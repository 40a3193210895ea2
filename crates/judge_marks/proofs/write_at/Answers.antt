use Rattle.judge_marks.proofs.Appended.{left_start, left_none_count, left_none_list, left_over_count, left_over_list, left_no, left_one}
use borrow.Author.Rules.{rules}
use Rattle.judge_marks.proofs.write_at.Goals as goal

pub loop-i-init : goal.loop-i-init
loop-i-init c = search left_start

pub returns-then-m-eq0 : goal.returns-then-m-eq0
returns-then-m-eq0 c = (search left_none_count, search left_none_list)

pub loop-i-preserved-then-digit-ne1 : goal.loop-i-preserved-then-digit-ne1
loop-i-preserved-then-digit-ne1 c = search left_no

pub loop-i-preserved : goal.loop-i-preserved
loop-i-preserved c =
    let a = c.append_at-k.ensures in
    left_one _ _ _ _ _ _ _ _ _ c.loop-i.invariant (search rules) (search rules) _ c.role_at-own.ensures _ c.asked.ensures _ _ _ c.finding-record.ensures a.0 a.1

pub returns : goal.returns
returns c = (search left_over_count, search left_over_list)
