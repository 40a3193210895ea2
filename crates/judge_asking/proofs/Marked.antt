-- The procedures of a role are asked from the last to the first, each a digit below the others: the digits so far are those of the procedures from
-- here on.
-- Assumes nothing.
use mathlib.Core.Path.{◌≡◌, refl, sym, ◌∙◌, ap}
use mathlib.Core.Bool.{Bool, true, false}
use mathlib.Core.List.{List, [], ◌∷◌}
use Prim.Native.Nat.{ℕ, zero, suc, ◌+◌, ◌-◌, ◌<◌, ◌≤◌}
use native.Mathlib.Omega.{arith}
use borrow.Author.Tests.{eqb-true, ne_eqb}
use lib.Dec.{eqb}
use lib.ListN.{length, drop, get_or, drop_of_length-le}
use Rattle.text_scan.specs.Choice.{◌and◌}
use Rattle.text_scan.proofs.Tests.{and_left, and_right}
use Rattle.table_file.specs.Accepted.{Tables}
use Rattle.judge_draft.specs.declared.Demand.{Demand}
use Rattle.judge_draft.specs.Drafts.{Draft, role}
use Rattle.judge_header.specs.declared.Header.{Header}
use Rattle.judge_procedures.specs.Procedures.{with_number, demand_in, demand_of, asked_at}
use Rattle.judge_answers.specs.Answers.{is_broken}
use Rattle.judge_findings.specs.Listed.{broken}
use Rattle.judge_asked.specs.Asked.{most, padded, asked_row}
use Rattle.judge_marks.specs.Marks.{pushed, mark_by, mark_of}
use Rattle.judge_asked.proofs.Table.{padded_length, asked_few}

-- a place that is behind
pub behind_none : (p m : ℕ) → p ≡ 0 → eqb m 0 ≡ eqb p 0 and eqb m 0
behind_none p m e = rw e

pub behind_some : (p m : ℕ) → (p ≡ 0 → ⊥) → false ≡ eqb p 0 and eqb m 0
behind_some p m f = rw (ne_eqb p 0 f)

-- a list from place i on
drop_here : (xs : List ℕ) (i : ℕ) → i < length xs → drop i xs ≡ get_or xs i 0 ∷ drop (i + 1) xs
drop_here [] i h = absurd (omega arith)
drop_here (x ∷ xs) zero h = refl
drop_here (x ∷ xs) (suc i) h =
    let e : suc i + 1 ≡ suc (i + 1) = omega arith in
    rw e (drop_here xs i (omega arith))

module _ (b : ℕ → ℕ → Bool) (n : ℕ) (none : b n 0 ≡ false) where
  zeros_by : (k : ℕ) → mark_by b n (padded k []) ≡ 0
  unfolding mark_by padded pushed
  zeros_by zero = refl
  zeros_by (suc k) = rw (zeros_by k, none)

  -- zeros behind the procedures change nothing
  padded_by : (k : ℕ) (ps : List ℕ) → length ps ≤ k → mark_by b n (padded k ps) ≡ mark_by b n ps
  unfolding mark_by padded
  padded_by zero [] h = refl
  padded_by zero (p ∷ ps) h = absurd (omega arith)
  padded_by (suc k) [] h = zeros_by (suc k)
  padded_by (suc k) (p ∷ ps) h = rw (padded_by k ps (omega arith))

module _ (d : Draft) (h : Header) (t : Tables) (n : ℕ) (row : List ℕ) where
  -- the digits of the procedures from place i on
  pub record Marking (i m : ℕ) : Type 0 where
    pub digits : m ≡ mark_by (broken d h t) n (drop i row)
    pub few : i ≤ most
    pub its : row ≡ asked_row (role d n)

  no_zero : broken d h t n 0 ≡ false
  unfolding broken is_broken demand_of demand_in with_number
  no_zero = refl

  long : row ≡ asked_row (role d n) → length row ≡ most
  long e = ap length e ∙ padded_length most (asked_at (role d n))

  pub marking_start : (r : ℕ) → r ≡ role d n → row ≡ asked_row r → Marking most 0
  unfolding mark_by
  marking_start r e f =
      let g : row ≡ asked_row (role d n) = f ∙ rw e in
      record { digits = rw (drop_of_length-le row {i = most} (omega (arith, long g))); few = omega arith; its = g }

  module _ (i m : ℕ) (l : Marking i m) where
    pub marking_over : i ≤ 0 → m ≡ mark_of d (broken d h t) n
    unfolding mark_of
    marking_over g =
        let z : i ≡ 0 = omega arith in
        l.digits ∙ rw (z, l.its) (padded_by (broken d h t) n no_zero most (asked_at (role d n)) (asked_few (role d n)))

    module _ (g : 0 < i) where
      pub marking_inside : i - 1 < most
      marking_inside = omega (arith, l.few)

      here : drop (i - 1) row ≡ get_or row (i - 1) 0 ∷ drop i row
      here =
          let k : i - 1 + 1 ≡ i = omega arith in
          drop_here row (i - 1) (omega (arith, long l.its, l.few)) ∙ rw k

      pub marking_skip : (x : Bool) → x ≡ eqb (get_or row (i - 1) 0) 0 and eqb m 0 → x ≡ true → Marking (i - 1) m
      unfolding mark_by pushed
      marking_skip x f u =
          let p = get_or row (i - 1) 0 in
          let a : p ≡ 0 = eqb-true p 0 (and_left (eqb p 0) (eqb m 0) (sym f ∙ u)) in
          let b : m ≡ 0 = eqb-true m 0 (and_right (eqb p 0) (eqb m 0) (sym f ∙ u)) in
          record { digits = b ∙ sym (ap (mark_by (broken d h t) n) here ∙ rw (← l.digits, a, b, no_zero)); few = omega (arith, l.few); its = l.its }

      pub marking_next : (q : Demand) → q ≡ demand_of d h (get_or row (i - 1) 0) n → (y : Bool) → y ≡ is_broken d t q → (m' : ℕ) → m' ≡ pushed m y → Marking (i - 1) m'
      unfolding mark_by broken
      marking_next q f y u m' v =
          record { digits = v ∙ sym (ap (mark_by (broken d h t) n) here ∙ rw (← l.digits, ← f, ← u)); few = omega (arith, l.few); its = l.its }
