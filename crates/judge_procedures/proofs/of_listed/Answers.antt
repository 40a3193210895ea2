use mathlib.Core.Path.{refl}
use Rattle.judge_listed.specs.Listed.{breaks1, breaks2, breaks3, breaks4}
use Rattle.judge_procedures.specs.Procedures.{listed_procedures, with_number, demand_in}
use Rattle.judge_procedures.proofs.Told.{by_test, no_listed}
use Rattle.judge_procedures.proofs.of_listed.Goals as goal

pub returns-in-1 : goal.returns-in-1
unfolding demand_in with_number
returns-in-1 c = search (by_test listed_procedures 1 (λ d h n. breaks1 d n) (λ d h n. refl))

pub returns-in-2 : goal.returns-in-2
unfolding demand_in with_number
returns-in-2 c = search (by_test listed_procedures 2 (λ d h n. breaks2 d n) (λ d h n. refl))

pub returns-in-3 : goal.returns-in-3
unfolding demand_in with_number
returns-in-3 c = search (by_test listed_procedures 3 (λ d h n. breaks3 d n) (λ d h n. refl))

pub returns-in-4 : goal.returns-in-4
unfolding demand_in with_number
returns-in-4 c = search (by_test listed_procedures 4 (λ d h n. breaks4 d n) (λ d h n. refl))

pub returns-in_default : goal.returns-in_default
returns-in_default c = search no_listed
