use Rattle.judge_lookup.proofs.Asking.{asks_code, asks_operation, asks_id, asks_name}
use Rattle.judge_lookup.proofs.is_asking.Goals as goal

pub returns-then-number-eq-CODE : goal.returns-then-number-eq-CODE
returns-then-number-eq-CODE c = search asks_code

pub returns-then-number-eq-OPERATION_CODE : goal.returns-then-number-eq-OPERATION_CODE
returns-then-number-eq-OPERATION_CODE c = search asks_operation

pub returns-then-number-eq-ORGANISATION_ID : goal.returns-then-number-eq-ORGANISATION_ID
returns-then-number-eq-ORGANISATION_ID c = search asks_id

pub returns : goal.returns
returns c = search asks_name
