-- `judge_marks::how_many` meets its contract.
use Rattle.judge_marks.proofs.Appended.{Counted}
use Rattle.judge_marks.proofs.how_many.Given as goal

abbrev pub invariant-loop : goal.invariant-loop
invariant-loop l = Counted l.mark l.m l.counter l.found
