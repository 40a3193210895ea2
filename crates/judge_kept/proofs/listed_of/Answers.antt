use Rattle.judge_kept.proofs.Names.{nothing_kept, kept_known}
use Rattle.judge_kept.proofs.listed_of.Goals as goal

pub returns-then-role-le-UNLISTED : goal.returns-then-role-le-UNLISTED
returns-then-role-le-UNLISTED c = search nothing_kept

pub returns : goal.returns
returns c = search kept_known
