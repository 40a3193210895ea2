use Rattle.judge_lookup.proofs.Parts.{part_served, others_kept}
use Rattle.judge_lookup.proofs.fill_part.Goals as goal

pub returns : goal.returns
returns c = (search part_served, search others_kept)
