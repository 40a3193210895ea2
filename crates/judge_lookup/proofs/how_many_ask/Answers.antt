use Rattle.judge_lookup.proofs.Asking.{from_start, found_all, found_one, found_other}
use borrow.Author.Rules.{rules}
use Rattle.judge_lookup.proofs.how_many_ask.Goals as goal
use Rattle.judge_lookup.proofs.how_many_ask.Goals.{then-is_asking, else-is_asking}

pub loop-n-init : goal.loop-n-init
loop-n-init c = (search from_start, search rules)

pub loop-n-preserved : goal.loop-n-preserved
loop-n-preserved c =
    elim c.if-is_asking.branch [
      | then-is_asking w ↦ rw w.found-is (search found_one, search rules)
      | else-is_asking w ↦ rw w.found-is (search found_other, search rules)
    ]

pub returns : goal.returns
returns c = search found_all
