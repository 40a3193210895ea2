use Rattle.program_texts.proofs.Puts.{list_put}
use Rattle.program_texts.proofs.put_list.Goals as goal

pub returns : goal.returns
returns c = search list_put
