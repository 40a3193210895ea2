use Rattle.judge_keys.proofs.Codes.{registrant_id_there, registrant_id_not}
use Rattle.judge_keys.proofs.is_registrant_id.Goals as goal

pub returns-then-is_id_of : goal.returns-then-is_id_of
returns-then-is_id_of c = search registrant_id_there

pub returns : goal.returns
returns c = search registrant_id_not
