use mathlib.Core.Path.{refl}
use Rattle.judge_operations.specs.Operations.{breaks33, demand34, breaks37, breaks38}
use Rattle.judge_registrations.specs.Registrations.{breaks31, breaks32, breaks35, breaks36}
use Rattle.judge_procedures.specs.Procedures.{registration_procedures, with_number, demand_in}
use Rattle.judge_procedures.proofs.Told.{by_test, by_row, no_registration}
use Rattle.judge_procedures.proofs.of_registrations.Goals as goal

pub returns-in-31 : goal.returns-in-31
unfolding demand_in with_number
returns-in-31 c = search (by_test registration_procedures 31 (λ d h n. breaks31 d n) (λ d h n. refl))

pub returns-in-32 : goal.returns-in-32
unfolding demand_in with_number
returns-in-32 c = search (by_test registration_procedures 32 (λ d h n. breaks32 d n) (λ d h n. refl))

pub returns-in-33 : goal.returns-in-33
unfolding demand_in with_number
returns-in-33 c = search (by_test registration_procedures 33 (λ d h n. breaks33 d n) (λ d h n. refl))

pub returns-in-34 : goal.returns-in-34
unfolding demand_in with_number
returns-in-34 c = search (by_row registration_procedures 34 (λ d h n. demand34 d n) (λ d h n. refl))

pub returns-in-35 : goal.returns-in-35
unfolding demand_in with_number
returns-in-35 c = search (by_test registration_procedures 35 (λ d h n. breaks35 d n) (λ d h n. refl))

pub returns-in-36 : goal.returns-in-36
unfolding demand_in with_number
returns-in-36 c = search (by_test registration_procedures 36 (λ d h n. breaks36 d n) (λ d h n. refl))

pub returns-in-37 : goal.returns-in-37
unfolding demand_in with_number
returns-in-37 c = search (by_test registration_procedures 37 (λ d h n. breaks37 d n) (λ d h n. refl))

pub returns-in-38 : goal.returns-in-38
unfolding demand_in with_number
returns-in-38 c = search (by_test registration_procedures 38 (λ d h n. breaks38 d n) (λ d h n. refl))

pub returns-in_default : goal.returns-in_default
returns-in_default c = search no_registration
