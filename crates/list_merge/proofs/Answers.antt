-- The merge's answer, of what the walks found: a refusal leaves the third list as it was; else the findings fit, and are written.
-- Assumes nothing.
use mathlib.Core.Path.{◌≡◌, refl, sym, ◌∙◌}
use mathlib.Core.List.{List}
use Prim.Native.Nat.{ℕ, ◌/◌, ◌<◌, ◌≤◌}
use native.Mathlib.Omega.{arith}
use borrow.Author.Tests.{le-leb, lt-leb}
use lib.ListN.{length}
use Rattle.std.specs.Prelude.{Result, Ok, Err, Option, None, Some, ℕ}
use Rattle.refusals.specs.declared.Reason.TheVariants.{ShortList, BadList, NoMerge}
use Rattle.refusals.specs.declared.Reason.{Reason}
use Rattle.refusals.specs.declared.Refusal.{Refusal}
use Rattle.refusals.specs.Numbers.{refuses}
use Rattle.text_scan.proofs.Within.{inside}
use Rattle.list_findings.specs.Findings.{width, records, filled}
use Rattle.list_findings.specs.Merge.{first_bad_record, merged, first_fault, IsMerged}
use Rattle.list_steps.specs.declared.Differ.{Differ}
use Rattle.list_steps.specs.Step.{survey_of}
use Rattle.list_steps.proofs.Answers as answers
use Rattle.list_merge.specs.Judge.{judge_of}

-- ---- what `judge` answers
pub judge_first : (n : ℕ) (first second : Option ℕ) (found : Result ℕ Differ) (room : ℕ) → first ≡ Some n → refuses BadList n ≡ judge_of first second found room
unfolding judge_of
judge_first n first second found room e = rw e

module _ (first second : Option ℕ) (found : Result ℕ Differ) (room : ℕ) (e : first ≡ None) where
  pub judge_second : (n : ℕ) → second ≡ Some n → refuses BadList n ≡ judge_of first second found room
  unfolding judge_of
  judge_second n f = rw (e, f)

  module _ (f : second ≡ None) where
    pub judge_fault : (d : Differ) → found ≡ Err d → refuses NoMerge d.first ≡ judge_of first second found room
    unfolding judge_of
    judge_fault d g = rw (e, f, g)

    pub judge_many : (n : ℕ) → found ≡ Ok n → room < n → refuses ShortList n ≡ judge_of first second found room
    unfolding judge_of
    judge_many n g h = rw (e, f, g, lt-leb n room h)

    -- k is the number that the guard of the arm before looked at
    pub judge_findings : (n k : ℕ) → found ≡ Ok n → found ≡ Ok k → k ≤ room → Ok n ≡ judge_of first second found room
    unfolding judge_of
    judge_findings n k g i h =
        let q : ◌≡◌ {A = Result ℕ Differ} (Ok k) (Ok n) = sym i ∙ g in
        let z : k ≡ n = cc in
        rw (e, f, g, le-leb n room (rw z at h))

-- ---- what the answer says of the lists
-- a refusal is not a number of findings
differ : (number : Reason) (at n : ℕ) {A : Type 0} → refuses number at ≡ Ok n → A
differ number at n e = absurd (let z : ◌≡◌ {A = ℕ} 0 1 = cc in omega arith)

module _ (a b out : List ℕ) where
  -- the findings are counted, there is no fault, and they fit
  record Fit (n : ℕ) : Type 0 where
    bad : first_bad_record a ≡ None
    bad' : first_bad_record b ≡ None
    counts : survey_of 0 (records a) (records b) ≡ Ok n
    fits : n ≤ length out / width

  fit : (fa fb : Option ℕ) (s : Result ℕ Differ) → fa ≡ first_bad_record a → fb ≡ first_bad_record b → s ≡ survey_of 0 (records a) (records b) → (n : ℕ) → judge_of fa fb s (length out / width) ≡ Ok n → Fit n
  unfolding judge_of
  fit (Some k) fb s ea eb es n e = differ BadList k n e
  fit None (Some k) s ea eb es n e = differ BadList k n e
  fit None None (Err d) ea eb es n e = differ NoMerge d.first n e
  fit None None (Ok k) ea eb es n e =
      inside k (length out / width)
      (λ g. differ ShortList k n (rw (lt-leb k (length out / width) g) at e))
      (λ g.
      let q : ◌≡◌ {A = Result ℕ Refusal} (Ok k) (Ok n) = rw (le-leb k (length out / width) g) at e in
      let f : k ≡ n = cc in
      record { bad = sym ea; bad' = sym eb; counts = sym es ∙ rw f; fits = rw f at g })

  refused : (fa fb : Option ℕ) (s : Result ℕ Differ) → fa ≡ first_bad_record a → fb ≡ first_bad_record b → s ≡ survey_of 0 (records a) (records b) → (number : Reason) (at : ℕ) → judge_of fa fb s (length out / width) ≡ refuses number at
      → IsMerged a b out (judge_of fa fb s (length out / width)) out
  unfolding judge_of
  refused (Some k) fb s ea eb es number at e = answers.bad_first a b out (Some k) ea k refl
  refused None (Some k) s ea eb es number at e = answers.bad_second a b out None ea refl (Some k) eb k refl
  refused None None (Err d) ea eb es number at e = answers.conflict a b out None ea refl None eb refl (Err d) es d refl
  refused None None (Ok k) ea eb es number at e =
      inside k (length out / width)
      (λ g. rw (lt-leb k (length out / width) g) (answers.too_many a b out None ea refl None eb refl (Ok k) es k refl g))
      (λ g. differ number at k (sym (rw (le-leb k (length out / width) g) at e)))

  module _ (fa fb : Option ℕ) (s : Result ℕ Differ) (ea : fa ≡ first_bad_record a) (eb : fb ≡ first_bad_record b) (es : s ≡ survey_of 0 (records a) (records b)) (r : Result ℕ Refusal) (er : r ≡ judge_of fa fb s (length out / width)) where
    pub refusal : (told : Refusal) → r ≡ Err told → IsMerged a b out r out
    refusal told e = rw er (refused fa fb s ea eb es told.reason told.value (sym er ∙ e))

    module _ (n : ℕ) (e : r ≡ Ok n) where
      pub faultless : first_fault (records a) (records b) ≡ None
      faultless = let f = fit fa fb s ea eb es n (sym er ∙ e) in answers.no_fault a b (Ok n) (sym f.counts) n refl

      pub roomy : length (merged (records a) (records b)) ≤ length out / width
      roomy = let f = fit fa fb s ea eb es n (sym er ∙ e) in answers.roomy a b (Ok n) (sym f.counts) n refl out f.fits

      pub written : (new : List ℕ) → new ≡ filled (merged (records a) (records b)) out → IsMerged a b out r new
      written new w =
          let f = fit fa fb s ea eb es n (sym er ∙ e) in
          rw e (answers.written a b out None (sym f.bad) refl None (sym f.bad') refl (Ok n) (sym f.counts) n refl f.fits new w)
