use Rattle.judge_organisations.proofs.Numbers.{labeler_ids, establishment_ids, establishment_none, other_ids}
use Rattle.judge_organisations.proofs.right_ids.Goals as goal

pub returns-then-is-eq-REQUEST_LABELER : goal.returns-then-is-eq-REQUEST_LABELER
returns-then-is-eq-REQUEST_LABELER c = search labeler_ids

pub returns-then-ids-ge1 : goal.returns-then-ids-ge1
returns-then-ids-ge1 c = search establishment_ids

pub returns-then-is-eq-ESTABLISHMENT : goal.returns-then-is-eq-ESTABLISHMENT
returns-then-is-eq-ESTABLISHMENT c = search establishment_none

pub returns : goal.returns
returns c = search other_ids
