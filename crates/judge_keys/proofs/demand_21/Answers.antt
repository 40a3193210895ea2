use Rattle.judge_keys.proofs.Demanded.{key_of_labeler, key_of_registrant, no_key}
use Rattle.judge_keys.proofs.demand_21.Goals as goal

pub returns-then-is_labeler_id : goal.returns-then-is_labeler_id
returns-then-is_labeler_id c = search key_of_labeler

pub returns-then-is_registrant_id : goal.returns-then-is_registrant_id
returns-then-is_registrant_id c = search key_of_registrant

pub returns : goal.returns
returns c = search no_key
