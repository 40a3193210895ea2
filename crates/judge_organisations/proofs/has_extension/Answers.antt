use Rattle.judge_organisations.proofs.Numbers.{extension_there}
use Rattle.judge_organisations.proofs.has_extension.Goals as goal

pub returns : goal.returns
returns c = search extension_there
