-- The laws of the merge, over its definition.
-- Assumes nothing.
use Rattle.std.specs.Prelude.{Option, None, Some, ℕ, Ok}
use Rattle.refusals.specs.declared.Reason.TheVariants.{ShortList, BadList, NoMerge}
use Rattle.refusals.specs.declared.Reason.{Reason}
use Rattle.refusals.specs.Numbers.{refuses}
use mathlib.Core.Path.{◌≡◌, refl, sym, ◌∙◌, ap}
use mathlib.Core.Bool.{true}
use mathlib.Core.List.{List, [], ◌∷◌, ◌++◌}
use Prim.Native.Nat.{ℕ, ◌/◌, ◌≤◌}
use native.Mathlib.Omega.{arith}
use borrow.Author.Tests.{eq-eqb, le-leb}
use lib.ListN.{length, drop}
use Rattle.list_findings.specs.declared.Finding.{Finding}
use Rattle.list_findings.specs.declared.Class.{Class}
use Rattle.list_findings.specs.Findings.{width, class_of, is_valid, records, flat, filled}
use Rattle.list_findings.specs.Lists.{Ordered, All, Good, has, stays, FaultAt, Least}
use Rattle.list_findings.specs.Merge.{Met, met, among, verdict, kept, fault_of, merged, first_fault, first_bad_record, Merging, merge_refused, too_many, merge_of}
use Rattle.list_findings.proofs.Order.{irreflexive}
use Rattle.list_findings.proofs.Records.{length_records, flat_records}
use Rattle.list_findings.proofs.Lists.{ordered_same}
use Rattle.list_findings.proofs.Meets.{Meets, over, first, second, both, meets}
use Rattle.list_findings.proofs.Kept.{kept_ordered, kept_all, kept_where}
use Rattle.list_findings.proofs.Faults.{fault_least}
use Rattle.list_findings.proofs.Good.{run_good, good_flat}

-- ---- a merged list can be merged again: it is ordered, none stands twice, and each is valid
pub merged_good : (a b : List Finding) → Good a → Good b → Good (merged a b)
merged_good a b g h =
    record { ordered = kept_ordered class_of a b g.ordered h.ordered; valid = kept_all class_of (λ r. is_valid r ≡ true) a b g.valid h.valid }

pub merged_again : (a b : List Finding) → Good a → Good b → first_bad_record (flat (merged a b)) ≡ None
merged_again a b g h = good_flat (merged a b) (merged_good a b g h)

-- ---- a finding is in the merged list exactly where its class says so
pub merged_where : (a b : List Finding) → Good a → Good b → first_fault a b ≡ None → (r : Finding) → has r (merged a b) ≡ stays (class_of r.procedure) (has r a) (has r b)
merged_where a b g h e = kept_where class_of a b g.ordered h.ordered e

-- and so the merged list is the one ordered list of these findings
pub merged_is : (a b c : List Finding) → Good a → Good b → first_fault a b ≡ None → Ordered c → ((r : Finding) → has r c ≡ stays (class_of r.procedure) (has r a) (has r b)) → merged a b ≡ c
merged_is a b c g h e o k =
    ordered_same (merged a b) c (merged_good a b g h).ordered o (λ r. merged_where a b g h e r ∙ sym (k r))

-- ---- refusal 13 gives the least first byte at which there is a fault, and is given where there is one
pub refused_least : (a b : List Finding) → Good a → Good b → Least class_of a b (first_fault a b)
refused_least a b g h = fault_least class_of a b g.ordered h.ordered

pub faultless : (a b : List Finding) → Good a → Good b → ((t : ℕ) → FaultAt class_of a b t → ⊥) → first_fault a b ≡ None
faultless a b g h n = go (first_fault a b) (refused_least a b g h)
  where
    go : (f : Option ℕ) → Least class_of a b f → f ≡ None
    go (Some at) l = absurd (n at l.0)
    go None l = refl

-- ---- by the procedure's class alone: two ways to give classes that agree on the findings of both lists
module _ (c d : ℕ → Class) where
  abbrev Agree : List Finding → Type 0
  Agree rs = All (λ r. c r.procedure ≡ d r.procedure) rs

  same_verdicts : {a b : List Finding} {ms : List Met} → Meets a b ms → Agree a → Agree b → (kept c ms ≡ kept d ms) × (fault_of c ms ≡ fault_of d ms)
  unfolding kept fault_of verdict
  same_verdicts over h k = (refl, refl)
  same_verdicts (first {x} {xs} {b} {ms} g m) h k = let later = same_verdicts m h.1 k in (rw (h.0, later.0), rw (h.0, later.1))
  same_verdicts (second {y} {a} {ys} {ms} g m) h k = let later = same_verdicts m h k.1 in (rw (k.0, later.0), rw (k.0, later.1))
  same_verdicts (both {x} {y} {xs} {ys} {ms} g m) h k = let later = same_verdicts m h.1 k.1 in (rw later.0, rw later.1)

  pub by_class : (a b : List Finding) → Agree a → Agree b → (kept c (met a b) ≡ kept d (met a b)) × (fault_of c (met a b) ≡ fault_of d (met a b))
  by_class a b = same_verdicts (meets a b)

-- ---- a list merged with itself is the list
pub merged_self : (a : List Finding) → merged a a ≡ a
unfolding met among kept verdict
merged_self [] = refl
merged_self (x ∷ xs) = rw (irreflexive x, eq-eqb x.after x.after refl) (ap (λ (l : List Finding). x ∷ l) (merged_self xs))

pub faultless_self : (a : List Finding) → first_fault a a ≡ None
unfolding met among fault_of verdict
faultless_self [] = refl
faultless_self (x ∷ xs) = rw (irreflexive x, eq-eqb x.after x.after refl) (faultless_self xs)

pub merge_self : (s out : List ℕ) → first_bad_record s ≡ None → length s ≤ length out → merge_of s s out ≡ record { answer = Ok (length s / width); list = s ++ drop (length s) out }
unfolding merge_of
merge_self s out e h =
    let n = length_records s in
    let f = flat_records s (run_good s e).1 in
    let g : length s / width ≤ length out / width = omega arith in
    rw (e, faultless_self (records s), merged_self (records s), n, le-leb (length s / width) (length out / width) g, f)

-- ---- the number answered is the merged list's length, with that list in front; and a refusal leaves the third list as it was
refuse_case : (P : Merging → Type 0) (number : Reason) (f : Option ℕ) (out : List ℕ) (o : Merging) → ((place : ℕ) → P (record { answer = refuses number place; list = out })) → P o → P (merge_refused number f out o)
refuse_case P number (Some place) out o h k = h place
refuse_case P number None out o h k = k

-- what holds of a refusal and of the merged list holds of the outcome
module _ (P : Merging → Type 0) (a b out : List ℕ) (h : (number : Reason) (place : ℕ) → P (record { answer = refuses number place; list = out })) (k : P (record { answer = Ok (length (merged (records a) (records b))); list = filled (merged (records a) (records b)) out })) where
  outcome_case : P (merge_of a b out)
  unfolding merge_of
  outcome_case =
      refuse_case P BadList (first_bad_record a) out _ (h BadList)
      (refuse_case P BadList (first_bad_record b) out _ (h BadList)
      (refuse_case P NoMerge (first_fault (records a) (records b)) out _ (h NoMerge)
      (refuse_case P ShortList (too_many (merged (records a) (records b)) out) out _ (h ShortList) k)))

pub counted : (a b out : List ℕ) (n : ℕ) → (merge_of a b out).answer ≡ Ok n → (n ≡ length (merged (records a) (records b))) × ((merge_of a b out).list ≡ filled (merged (records a) (records b)) out)
counted a b out n =
    outcome_case
    (λ o. o.answer ≡ Ok n → (n ≡ length (merged (records a) (records b))) × (o.list ≡ filled (merged (records a) (records b)) out))
    a b out
    (λ number place e. absurd (let z : ◌≡◌ {A = ℕ} 0 1 = cc in omega arith))
    (λ e. (cc, refl))

pub unchanged : (a b out : List ℕ) (number : Reason) (place : ℕ) → (merge_of a b out).answer ≡ refuses number place → (merge_of a b out).list ≡ out
unchanged a b out number place =
    outcome_case (λ o. o.answer ≡ refuses number place → o.list ≡ out) a b out
    (λ n p e. refl)
    (λ e. absurd (let z : ◌≡◌ {A = ℕ} 0 1 = cc in omega arith))
