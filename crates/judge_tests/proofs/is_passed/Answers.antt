use Rattle.judge_tests.proofs.Passes.{passes_any, passes_duns, passes_labeler, passes_telephone, passes_mail, passes_agent, passes_import, passes_empty}
use Rattle.judge_tests.proofs.is_passed.Goals as goal

pub returns-in-Any : goal.returns-in-Any
returns-in-Any c = search passes_any

pub returns-in-DunsRoot : goal.returns-in-DunsRoot
returns-in-DunsRoot c = search passes_duns

pub returns-in-LabelerRoot : goal.returns-in-LabelerRoot
returns-in-LabelerRoot c = search passes_labeler

pub returns-in-Telephone : goal.returns-in-Telephone
returns-in-Telephone c = search passes_telephone

pub returns-in-Mail : goal.returns-in-Mail
returns-in-Mail c = search passes_mail

pub returns-in-Agent : goal.returns-in-Agent
returns-in-Agent c = search passes_agent

pub returns-in-Import : goal.returns-in-Import
returns-in-Import c = search passes_import

pub returns-in-Empty : goal.returns-in-Empty
returns-in-Empty c = search passes_empty
