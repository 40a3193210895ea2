use Rattle.list_merge.proofs.Answers.{refusal, faultless, roomy, written}
use Rattle.list_merge.proofs.merge.Goals as goal

pub returns-in_default : goal.returns-in_default
returns-in_default c = search refusal

pub write-requires : goal.write-requires
write-requires c = (search faultless, search roomy)

pub returns : goal.returns
returns c = search written
