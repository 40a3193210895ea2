use Rattle.program_texts.proofs.Puts.{refusal_put}
use Rattle.program_texts.proofs.put_refusal.Goals as goal

pub returns : goal.returns
returns c = search refusal_put
