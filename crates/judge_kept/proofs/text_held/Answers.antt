use Rattle.judge_kept.proofs.Run.{held_text}
use Rattle.judge_kept.proofs.text_held.Goals as goal

pub returns : goal.returns
returns c = search held_text
