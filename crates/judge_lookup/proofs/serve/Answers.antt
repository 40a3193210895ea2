use Rattle.judge_lookup.proofs.Laws.{same_tables, all_served}
use Rattle.judge_lookup.proofs.serve.Goals as goal

pub returns : goal.returns
returns c = (search same_tables, search all_served)
