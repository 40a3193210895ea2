use mathlib.Core.Path.{refl}
use Rattle.judge_root.specs.Root.{breaks5, demand6, breaks7, demand8, breaks9, breaks10, breaks11, demand12, breaks13}
use Rattle.judge_procedures.specs.Procedures.{header_procedures, with_number, demand_in}
use Rattle.judge_procedures.proofs.Told.{by_test, by_row, no_header}
use Rattle.judge_procedures.proofs.of_header.Goals as goal

pub returns-in-5 : goal.returns-in-5
unfolding demand_in with_number
returns-in-5 c = search (by_test header_procedures 5 breaks5 (λ d h n. refl))

pub returns-in-6 : goal.returns-in-6
unfolding demand_in with_number
returns-in-6 c = search (by_row header_procedures 6 demand6 (λ d h n. refl))

pub returns-in-7 : goal.returns-in-7
unfolding demand_in with_number
returns-in-7 c = search (by_test header_procedures 7 breaks7 (λ d h n. refl))

pub returns-in-8 : goal.returns-in-8
unfolding demand_in with_number
returns-in-8 c = search (by_row header_procedures 8 demand8 (λ d h n. refl))

pub returns-in-9 : goal.returns-in-9
unfolding demand_in with_number
returns-in-9 c = search (by_test header_procedures 9 breaks9 (λ d h n. refl))

pub returns-in-10 : goal.returns-in-10
unfolding demand_in with_number
returns-in-10 c = search (by_test header_procedures 10 breaks10 (λ d h n. refl))

pub returns-in-11 : goal.returns-in-11
unfolding demand_in with_number
returns-in-11 c = search (by_test header_procedures 11 breaks11 (λ d h n. refl))

pub returns-in-12 : goal.returns-in-12
unfolding demand_in with_number
returns-in-12 c = search (by_row header_procedures 12 demand12 (λ d h n. refl))

pub returns-in-13 : goal.returns-in-13
unfolding demand_in with_number
returns-in-13 c = search (by_test header_procedures 13 breaks13 (λ d h n. refl))

pub returns-in_default : goal.returns-in_default
returns-in_default c = search no_header
