use Rattle.judge_operations.proofs.Codes.{agency_other, agency_agent, agency_import}
use borrow.Author.Tests.{not-true, not-false}
use Rattle.judge_operations.proofs.is_agency.Goals as goal

pub returns-then-not-of_nci : goal.returns-then-not-of_nci
returns-then-not-of_nci c = search (agency_other, not-true)

pub returns-then-attribute_is : goal.returns-then-attribute_is
returns-then-attribute_is c = search (agency_agent, not-false)

pub returns : goal.returns
returns c = search (agency_import, not-false)
