-- The marks are stored one after another, and what they tell of is counted: what is left is told of the elements that are left.
-- Assumes nothing.
use mathlib.Core.Path.{◌≡◌, refl, sym, ◌∙◌, ap}
use mathlib.Core.Bool.{false}
use mathlib.Core.List.{List, [], ◌∷◌}
use Prim.Native.Nat.{ℕ, zero, suc, ◌+◌, ◌-◌, ◌*◌, ◌/◌, ◌<◌, ◌≤◌}
use native.Mathlib.Omega.{arith}
use lib.ListN.{length, set, length-set, length-append}
use lib.Seq.{sets}
use mir.Val.{Fits}
use mir.Syntax.{w64}
use Rattle.xml_reader.specs.Limits.{elements_limit}
use Rattle.list_findings.specs.Findings.{last_procedure}
use Rattle.table_file.specs.Accepted.{Tables}
use Rattle.judge_draft.specs.Drafts.{Draft, draft, role}
use Rattle.judge_header.specs.declared.Header.{Header}
use Rattle.judge_procedures.specs.Procedures.{found_at}
use Rattle.judge_procedures.proofs.Elsewhere.{elsewhere}
use Rattle.judge_answers.specs.Answers.{is_broken}
use Rattle.judge_findings.specs.Listed.{broken, listed_at, listed_from, listed}
use Rattle.judge_asked.specs.Asked.{most}
use Rattle.judge_marks.specs.Marks.{mark_of, marks_of, ones}
use Rattle.judge_marks.proofs.Told.{mark_told, ones_marked, ones_few}

-- a procedure is not broken where it cannot be found
pub not_found : (d : Draft) (h : Header) (t : Tables) (n p : ℕ) → found_at p (role d n) ≡ false → broken d h t n p ≡ false
unfolding broken is_broken
not_found d h t n p e = rw (elsewhere d h n p e)

module _ (d : Draft) (h : Header) (t : Tables) where
  listed_here : (n m : ℕ) → 0 < m → length (listed_from d (broken d h t) n m) ≡ length (listed_at d (broken d h t) n 1 last_procedure) + length (listed_from d (broken d h t) (n + 1) (m - 1))
  unfolding listed_from
  listed_here n zero g = absurd (omega arith)
  listed_here n (suc m) g =
      let e : suc m - 1 ≡ m = omega arith in
      rw e (length-append (listed_at d (broken d h t) n 1 last_procedure) (listed_from d (broken d h t) (n + 1) m))

  listed_over : (n m : ℕ) → m ≤ 0 → length (listed_from d (broken d h t) n m) ≡ 0
  unfolding listed_from
  listed_over n zero g = refl
  listed_over n (suc m) g = absurd (omega arith)

  marks_here : (n m : ℕ) → 0 < m → marks_of d (broken d h t) n m ≡ mark_of d (broken d h t) n ∷ marks_of d (broken d h t) (n + 1) (m - 1)
  unfolding marks_of
  marks_here n zero g = absurd (omega arith)
  marks_here n (suc m) g =
      let e : suc m - 1 ≡ m = omega arith in
      rw e

  marks_over : (n m : ℕ) → m ≤ 0 → marks_of d (broken d h t) n m ≡ []
  unfolding marks_of
  marks_over n zero g = refl
  marks_over n (suc m) g = absurd (omega arith)

  ones_listed : (n x : ℕ) → x ≡ mark_of d (broken d h t) n → ones most x ≡ length (listed_at d (broken d h t) n 1 last_procedure)
  ones_listed n x e = ap (ones most) e ∙ (ones_marked d n (mark_of d (broken d h t) n) ∙ ap length (mark_told (broken d h t) n d (not_found d h t n)))

module _ (s notes : List ℕ) (h : Header) (t : Tables) (before : List ℕ) where
  -- the marks of the elements from n on are still to be stored, and what they tell of to be counted
  pub record ToFill (marks : List ℕ) (n total : ℕ) : Type 0 where
    pub rest : sets before 0 (marks_of (draft s notes) (broken (draft s notes) h t) 0 (length notes / 4)) ≡ sets marks n (marks_of (draft s notes) (broken (draft s notes) h t) n (length notes / 4 - n))
    pub sum : length (listed (draft s notes) (broken (draft s notes) h t)) ≡ total + length (listed_from (draft s notes) (broken (draft s notes) h t) n (length notes / 4 - n))
    pub few : total ≤ n * most
    pub long : length marks ≡ length before

  pub tofill_start : ToFill before 0 0
  unfolding listed draft
  tofill_start =
      let e : length notes / 4 - 0 ≡ length notes / 4 = omega arith in
      record { rest = rw e; sum = rw e (omega arith); few = omega arith; long = refl }

  module _ (marks : List ℕ) (n total : ℕ) (l : ToFill marks n total) where
    pub tofill_over_count : length notes / 4 ≤ n → total ≡ length (listed (draft s notes) (broken (draft s notes) h t))
    tofill_over_count g = omega (arith, l.sum, listed_over (draft s notes) h t n (length notes / 4 - n) (omega arith))

    pub tofill_over_marks : length notes / 4 ≤ n → marks ≡ sets before 0 (marks_of (draft s notes) (broken (draft s notes) h t) 0 (length notes / 4))
    tofill_over_marks g = sym (l.rest ∙ ap (sets marks n) (marks_over (draft s notes) h t n (length notes / 4 - n) (omega arith)))

    module _ (g : n < length notes / 4) where
      pub tofill_room : length notes / 4 ≤ length before → n < length marks
      tofill_room i = omega (arith, l.long)

      module _ (x : ℕ) (e : x ≡ mark_of (draft s notes) (broken (draft s notes) h t) n) (y : ℕ) (f : y ≡ ones most x) where
        pub tofill_fits : length notes / 4 ≤ length before → length before ≤ elements_limit → Fits w64 (total + y)
        tofill_fits i j = omega (arith, l.few, f, ones_few most x)

        pub tofill_next : ToFill (set marks n x) (n + 1) (total + y)
        tofill_next =
            let d = draft s notes in
            let m : length notes / 4 - n - 1 ≡ length notes / 4 - (n + 1) = omega arith in
            let i : n + 1 ≡ suc n = omega arith in
            record {
              rest = l.rest ∙ (ap (sets marks n) (marks_here d h t n (length notes / 4 - n) (omega arith)) ∙ rw (m, ← e, i));
              sum = omega (arith, l.sum, rw m at (listed_here d h t n (length notes / 4 - n) (omega arith)), f, ones_listed d h t n x e);
              few = omega (arith, l.few, f, ones_few most x);
              long = length-set marks n x ∙ l.long;
            }
