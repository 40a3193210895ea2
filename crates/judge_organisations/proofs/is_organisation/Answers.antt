use Rattle.judge_organisations.proofs.Numbers.{judged_labeler, judged_registrant, judged_establishment, judged_agent}
use Rattle.judge_organisations.proofs.is_organisation.Goals as goal

pub returns-then-is-eq-REQUEST_LABELER : goal.returns-then-is-eq-REQUEST_LABELER
returns-then-is-eq-REQUEST_LABELER c = search judged_labeler

pub returns-then-is-eq-REGISTRANT : goal.returns-then-is-eq-REGISTRANT
returns-then-is-eq-REGISTRANT c = search judged_registrant

pub returns-then-is-eq-ESTABLISHMENT : goal.returns-then-is-eq-ESTABLISHMENT
returns-then-is-eq-ESTABLISHMENT c = search judged_establishment

pub returns : goal.returns
returns c = search judged_agent
