-- The records of a list, and the numbers that they make: what stands at a place, and the places after a step.
-- Assumes nothing.
use mathlib.Core.Path.{◌≡◌, refl, ◌∙◌}
use mathlib.Core.List.{List, [], ◌∷◌}
use Prim.Native.Nat.{ℕ, zero, suc, ◌+◌, ◌*◌, ◌/◌, ◌%◌, ◌^◌, ◌<◌}
use native.Mathlib.Numerals.{add-one}
use native.Mathlib.Omega.{arith}
use lib.ListN.{length, drop}
use lib.Seq.{drop-cons}
use Rattle.std.specs.Prelude.{Option, Some, None, slice_get}
use mir.Val.{Fits}
use mir.Syntax.{w64}
use Rattle.text_scan.specs.Choice.{pick}
use Rattle.text_scan.proofs.Tests.{pick_case}
use Rattle.list_findings.specs.declared.Finding.{Finding}
use Rattle.list_findings.specs.Findings.{width, class_of, precedes, records, flat}
use Rattle.list_findings.specs.Merge.{origin, Verdict, keep, leave, fault, alone, twice, verdict}
use Rattle.list_findings.proofs.Records.{records_flat, length_flat}
use Rattle.list_steps.specs.declared.Stepped.{Stepped}
use Rattle.list_steps.specs.declared.Stepped.TheVariants.{Over, Fault, Leave, Keep}
use Rattle.list_steps.specs.Step.{verdict_step, alone_of, pair_of, merge_step}
use Rattle.list_steps.proofs.Walk.{Says, said}
use Rattle.list_steps.proofs.Counts.{Counts}
use Rattle.list_merge.specs.Next.{nth, decide_of, Place}

-- ---- the record with a number, and the rest
pub left_here : (rs : List Finding) (i : ℕ) → i < length rs → drop i rs ≡ nth rs i ∷ drop (i + 1) rs
left_here rs i h = rw (add-one, drop-cons rs i origin)

-- the record with a number is the first of the rest
first_left : (rs : List Finding) (i : ℕ) → slice_get rs i ≡ slice_get (drop i rs) 0
first_left rs zero = refl
first_left [] (suc i) = refl
first_left (r ∷ rs) (suc i) = first_left rs i

-- ---- the records from a place on
from_record : (rs : List Finding) (i : ℕ) → records (drop (i * width) (flat rs)) ≡ drop i rs
unfolding records flat
from_record rs zero = records_flat rs
from_record [] (suc i) = let e : suc i * width ≡ suc (suc (suc (i * width))) = omega arith in rw e
from_record (r ∷ rs) (suc i) = let e : suc i * width ≡ suc (suc (suc (i * width))) = omega arith in rw e (from_record rs i)

pub from_place : (rs : List Finding) (i : ℕ) → Place rs i → records (drop i (flat rs)) ≡ drop (i / width) rs
from_place rs i p =
    let h = p.whole in
    let e : i / width * width ≡ i = omega arith in
    rw e at (from_record rs (i / width))

-- a record has four bytes for each of its numbers, and a slice fewer than 2 ^ 63
pub place_fits : (rs : List Finding) (i : ℕ) → Place rs i → length rs * (4 * width) < 2 ^ 63 → i + width < 2 ^ 64
place_fits rs i p h = let g = p.within in omega (arith, length_flat rs)

-- ---- a step, of the next records
module _ (x : Option Finding) (i : ℕ) (y : Option Finding) (j : ℕ) where
  pub decide_over : x ≡ None → y ≡ None → Over ≡ decide_of x i y j
  unfolding decide_of
  decide_over e f = rw (e, f)

  pub decide_second : (g : Finding) (s : Stepped) → x ≡ None → y ≡ Some g → s ≡ alone_of g i (j + width) → s ≡ decide_of x i y j
  unfolding decide_of
  decide_second g s e f q = q ∙ rw (e, f)

  pub decide_first : (g : Finding) (s : Stepped) → x ≡ Some g → y ≡ None → s ≡ alone_of g (i + width) j → s ≡ decide_of x i y j
  unfolding decide_of
  decide_first g s e f q = q ∙ rw (e, f)

  pub decide_both : (g h : Finding) (s : Stepped) → x ≡ Some g → y ≡ Some h → s ≡ pair_of g h i j → s ≡ decide_of x i y j
  unfolding decide_of
  decide_both g h s e f q = q ∙ rw (e, f)

decided : (xs : List Finding) (i : ℕ) (ys : List Finding) (j : ℕ) → decide_of (slice_get xs 0) i (slice_get ys 0) j ≡ merge_step xs i ys j
unfolding decide_of merge_step
decided [] i [] j = refl
decided [] i (y ∷ ys) j = refl
decided (x ∷ xs) i [] j = refl
decided (x ∷ xs) i (y ∷ ys) j = refl

module _ (a : List Finding) (i : ℕ) (b : List Finding) (j : ℕ) (p : Place a i) (q : Place b j) where
  pub step_is : (x y : Option Finding) (s : Stepped) → x ≡ slice_get a (i / width) → y ≡ slice_get b (j / width) → s ≡ decide_of x i y j → s ≡ merge_step (records (drop i (flat a))) i (records (drop j (flat b))) j
  step_is x y s ex ey e = e ∙ rw (ex, ey, first_left a (i / width), first_left b (j / width), from_place a i p, from_place b j q) (decided (drop (i / width) a) i (drop (j / width) b) j)

-- a walk passes a record for each finding that it keeps
pub count_fits : (a b : List Finding) (i j n : ℕ) → Counts (flat a) (flat b) i j n → length a * (4 * width) < 2 ^ 63 → length b * (4 * width) < 2 ^ 63 → Fits w64 (n + 1)
count_fits a b i j n l h g = omega (arith, length_flat a, length_flat b)

-- ---- the places after a step begin records as well
abbrev Wholes : Stepped → Type 0
Wholes Over = Unit {0}
Wholes (Fault at) = Unit {0}
Wholes (Leave x y) = (x % width ≡ 0) × (y % width ≡ 0)
Wholes (Keep r x y) = (x % width ≡ 0) × (y % width ≡ 0)

by_verdict : (v : Verdict) (x y : ℕ) → x % width ≡ 0 → y % width ≡ 0 → Wholes (verdict_step v x y)
by_verdict (keep r) x y h g = (h, g)
by_verdict leave x y h g = (h, g)
by_verdict (fault at) x y h g = tt

step_wholes : (xs : List Finding) (i : ℕ) (ys : List Finding) (j : ℕ) → i % width ≡ 0 → j % width ≡ 0 → Wholes (merge_step xs i ys j)
unfolding merge_step
step_wholes [] i [] j h g = tt
step_wholes [] i (y ∷ ys) j h g = by_verdict (verdict class_of (alone y)) i (j + width) h (omega arith)
step_wholes (x ∷ xs) i [] j h g = by_verdict (verdict class_of (alone x)) (i + width) j (omega arith) g
step_wholes (x ∷ xs) i (y ∷ ys) j h g =
    pick_case Wholes (precedes x y) (alone_of x (i + width) j)
    (pick (precedes y x) (alone_of y i (j + width)) (verdict_step (verdict class_of (twice x y)) (i + width) (j + width)))
    (λ _. by_verdict (verdict class_of (alone x)) (i + width) j (omega arith) g)
    (λ _. pick_case Wholes (precedes y x) (alone_of y i (j + width)) (verdict_step (verdict class_of (twice x y)) (i + width) (j + width))
    (λ _. by_verdict (verdict class_of (alone y)) i (j + width) h (omega arith))
    (λ _. by_verdict (verdict class_of (twice x y)) (i + width) (j + width) (omega arith) (omega arith)))

pub start : (rs : List Finding) → Place rs 0
start rs = record { whole = refl; within = omega arith }

module _ (a : List Finding) (i : ℕ) (b : List Finding) (j : ℕ) (p : Place a i) (q : Place b j) (s : Stepped) (e : s ≡ merge_step (records (drop i (flat a))) i (records (drop j (flat b))) j) where
  wholes : (t : Stepped) → s ≡ t → Wholes t
  wholes t f = rw (← f, e) (step_wholes (records (drop i (flat a))) i (records (drop j (flat b))) j p.whole q.whole)

  says : (t : Stepped) → s ≡ t → Says (flat a) i (flat b) j t
  says t f = said (flat a) i (flat b) j p.within q.within s e t f

  module _ (x y : ℕ) where
    pub leave_first : s ≡ Leave x y → Place a x
    leave_first f = record { whole = (wholes (Leave x y) f).0; within = (says (Leave x y) f).moves.within }

    pub leave_second : s ≡ Leave x y → Place b y
    leave_second f = record { whole = (wholes (Leave x y) f).1; within = (says (Leave x y) f).moves.within' }

    pub keep_first : (r : Finding) → s ≡ Keep r x y → Place a x
    keep_first r f = record { whole = (wholes (Keep r x y) f).0; within = (says (Keep r x y) f).moves.within }

    pub keep_second : (r : Finding) → s ≡ Keep r x y → Place b y
    keep_second r f = record { whole = (wholes (Keep r x y) f).1; within = (says (Keep r x y) f).moves.within' }
