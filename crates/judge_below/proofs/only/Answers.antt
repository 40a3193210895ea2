use Rattle.judge_below.proofs.Looking.{only_past, only_none, only_fits, only_is, only_more}
use borrow.Author.Rules.{rules}
use Rattle.judge_below.proofs.only.Goals as goal

pub returns-then-draft-n : goal.returns-then-draft-n
returns-then-draft-n c = search only_past

pub returns-in_default : goal.returns-in_default
returns-in_default c = search only_none

pub overflow_add-k : goal.overflow_add-k
overflow_add-k c = search (only_fits, rules)

pub returns-in-None : goal.returns-in-None
returns-in-None c = search only_is

pub returns-in-Some-next : goal.returns-in-Some-next
returns-in-Some-next c = search only_more
