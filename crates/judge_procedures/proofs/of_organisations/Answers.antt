use mathlib.Core.Path.{refl}
use Rattle.judge_organisations.specs.Organisations.{breaks14, breaks15, breaks16, breaks17, demand18}
use Rattle.judge_keys.specs.Keys.{breaks19, breaks20, demand21, demand22}
use Rattle.judge_procedures.specs.Procedures.{organisation_procedures, with_number, demand_in}
use Rattle.judge_procedures.proofs.Told.{by_test, by_row, no_organisation}
use Rattle.judge_procedures.proofs.of_organisations.Goals as goal

pub returns-in-14 : goal.returns-in-14
unfolding demand_in with_number
returns-in-14 c = search (by_test organisation_procedures 14 (λ d h n. breaks14 d n) (λ d h n. refl))

pub returns-in-15 : goal.returns-in-15
unfolding demand_in with_number
returns-in-15 c = search (by_test organisation_procedures 15 (λ d h n. breaks15 d n) (λ d h n. refl))

pub returns-in-16 : goal.returns-in-16
unfolding demand_in with_number
returns-in-16 c = search (by_test organisation_procedures 16 (λ d h n. breaks16 d n) (λ d h n. refl))

pub returns-in-17 : goal.returns-in-17
unfolding demand_in with_number
returns-in-17 c = search (by_test organisation_procedures 17 (λ d h n. breaks17 d n) (λ d h n. refl))

pub returns-in-18 : goal.returns-in-18
unfolding demand_in with_number
returns-in-18 c = search (by_row organisation_procedures 18 (λ d h n. demand18 d n) (λ d h n. refl))

pub returns-in-19 : goal.returns-in-19
unfolding demand_in with_number
returns-in-19 c = search (by_test organisation_procedures 19 (λ d h n. breaks19 d n) (λ d h n. refl))

pub returns-in-20 : goal.returns-in-20
unfolding demand_in with_number
returns-in-20 c = search (by_test organisation_procedures 20 (λ d h n. breaks20 d n) (λ d h n. refl))

pub returns-in-21 : goal.returns-in-21
unfolding demand_in with_number
returns-in-21 c = search (by_row organisation_procedures 21 demand21 (λ d h n. refl))

pub returns-in-22 : goal.returns-in-22
unfolding demand_in with_number
returns-in-22 c = search (by_row organisation_procedures 22 demand22 (λ d h n. refl))

pub returns-in_default : goal.returns-in_default
returns-in_default c = search no_organisation
