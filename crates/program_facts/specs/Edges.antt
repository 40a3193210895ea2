-- The edges that document 01 marks to be proved: one table under one statement, which the checker computes.
-- Assumes nothing.
use Rattle.std.specs.Prelude.{ℕ, Bool, true, List, [], ◌∷◌, T}
use Prim.Native.String.{String}
use Rattle.text_scan.specs.Choice.{◌and◌, not}
use Rattle.text_scan.specs.Bytes.{text}
use Rattle.text_scan.specs.Lists.{every, pairs, begins, run_end}
use Rattle.text_scan.specs.Walk.{walk, from}
use Rattle.text_facts.specs.Strings.{equal, is_one_of, is_labeler_code}
use Rattle.text_numbers.specs.Numbers.{value_after}
use Rattle.text_numbers.specs.Days.{is_leap, month_length, is_date, is_day}
use Rattle.text_telephones.specs.Telephones.{group_end, group_step, groups_end, ends_at, is_telephone}

pub data Edge : Type 0 where
  yes' : (List ℕ → Bool) → String → Edge
  no' : (List ℕ → Bool) → String → Edge

pub edges : List Edge
edges =
    yes' is_day "20240229" ∷ no' is_day "20230229" ∷ no' is_day "19000229" ∷ yes' is_day "20000229"
    ∷ yes' is_labeler_code "1234" ∷ no' is_labeler_code "01234" ∷ no' is_labeler_code "0001"
    ∷ yes' is_telephone "tel:+1-800-555-1213;ext=112" ∷ no' is_telephone "tel:+18005551213" ∷ []

pub right : Edge → Bool
right (yes' f t) = f (text t)
right (no' f t) = not (f (text t))

pub all_right : List Edge → Bool
all_right [] = true
all_right (e ∷ es) = right e and all_right es

pub edges_hold : T (all_right edges)
unfolding all_right right edges every pairs begins run_end walk from equal is_one_of is_labeler_code value_after is_leap month_length is_date is_day group_end group_step groups_end ends_at is_telephone
edges_hold = tt
