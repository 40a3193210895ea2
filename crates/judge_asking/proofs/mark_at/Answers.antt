use Rattle.judge_asking.proofs.Plainly.{plain_mark}
use Rattle.judge_asking.proofs.mark_at.Goals as goal

pub returns-then-is_plain : goal.returns-then-is_plain
returns-then-is_plain c = search plain_mark
