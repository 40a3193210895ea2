use mathlib.Core.Path.{refl}
use Rattle.judge_addresses.specs.Addresses.{breaks24, breaks25}
use Rattle.judge_contacts.specs.Contacts.{breaks23, breaks26, breaks27, breaks28, breaks29, breaks30}
use Rattle.judge_procedures.specs.Procedures.{contact_procedures, with_number, demand_in}
use Rattle.judge_procedures.proofs.Told.{by_test, no_contact}
use Rattle.judge_procedures.proofs.of_contacts.Goals as goal

pub returns-in-23 : goal.returns-in-23
unfolding demand_in with_number
returns-in-23 c = search (by_test contact_procedures 23 (λ d h n. breaks23 d n) (λ d h n. refl))

pub returns-in-24 : goal.returns-in-24
unfolding demand_in with_number
returns-in-24 c = search (by_test contact_procedures 24 (λ d h n. breaks24 d n) (λ d h n. refl))

pub returns-in-25 : goal.returns-in-25
unfolding demand_in with_number
returns-in-25 c = search (by_test contact_procedures 25 (λ d h n. breaks25 d n) (λ d h n. refl))

pub returns-in-26 : goal.returns-in-26
unfolding demand_in with_number
returns-in-26 c = search (by_test contact_procedures 26 (λ d h n. breaks26 d n) (λ d h n. refl))

pub returns-in-27 : goal.returns-in-27
unfolding demand_in with_number
returns-in-27 c = search (by_test contact_procedures 27 (λ d h n. breaks27 d n) (λ d h n. refl))

pub returns-in-28 : goal.returns-in-28
unfolding demand_in with_number
returns-in-28 c = search (by_test contact_procedures 28 (λ d h n. breaks28 d n) (λ d h n. refl))

pub returns-in-29 : goal.returns-in-29
unfolding demand_in with_number
returns-in-29 c = search (by_test contact_procedures 29 (λ d h n. breaks29 d n) (λ d h n. refl))

pub returns-in-30 : goal.returns-in-30
unfolding demand_in with_number
returns-in-30 c = search (by_test contact_procedures 30 (λ d h n. breaks30 d n) (λ d h n. refl))

pub returns-in_default : goal.returns-in_default
returns-in_default c = search no_contact
