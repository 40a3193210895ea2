use Rattle.judge_asked.proofs.Table.{asked_none, asked_of}
use Rattle.judge_asked.proofs.asked.Goals as goal

pub returns-then-i-ge-MOST : goal.returns-then-i-ge-MOST
returns-then-i-ge-MOST c = search asked_none

pub returns : goal.returns
returns c = search asked_of
