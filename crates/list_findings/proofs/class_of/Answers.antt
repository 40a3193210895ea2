use Rattle.list_findings.proofs.Classes.{both, either, document_only}
use Rattle.list_findings.proofs.class_of.Goals as goal

pub returns-then-contains : goal.returns-then-contains
returns-then-contains c = search both

pub returns-then-contains-2 : goal.returns-then-contains-2
returns-then-contains-2 c = search either

pub returns-else-contains-2 : goal.returns-else-contains-2
returns-else-contains-2 c = search document_only
