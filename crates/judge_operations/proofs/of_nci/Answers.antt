use Rattle.judge_operations.proofs.Codes.{nci_is}
use Rattle.judge_operations.proofs.of_nci.Goals as goal

pub returns : goal.returns
returns c = search nci_is
