-- The merge's answers, in the order of the refusals.
-- Assumes nothing.
use mathlib.Core.Path.{◌≡◌, refl, sym, ◌∙◌, ap}
use mathlib.Core.List.{List}
use Prim.Native.Nat.{ℕ, ◌+◌, ◌/◌, ◌<◌, ◌≤◌}
use native.Mathlib.Omega.{arith}
use borrow.Author.Tests.{le-leb, lt-leb}
use lib.ListN.{length}
use Rattle.std.specs.Prelude.{Result, Ok, Err, Option, None, Some, ℕ}
use Rattle.refusals.specs.declared.Reason.TheVariants.{ShortList, BadList, NoMerge}
use Rattle.refusals.specs.Numbers.{refuses}
use Rattle.list_findings.specs.declared.Finding.{Finding}
use Rattle.list_findings.specs.Findings.{width, records, filled}
use Rattle.list_findings.specs.Merge.{first_bad_record, merged, first_fault, merge_of, IsMerged}
use Rattle.list_steps.specs.declared.Differ.{Differ}
use Rattle.list_steps.specs.Step.{counted, survey_of}

-- what was surveyed
faulted : (f : Option ℕ) (rs : List Finding) (e : Differ) → counted 0 f rs ≡ Err e → f ≡ Some e.first
faulted (Some x) rs d e = let f : ◌≡◌ {A = Differ} (record { first = x }) d = cc in ap (λ (q : Differ). Some q.first) f
faulted None rs d e = absurd (let z : ◌≡◌ {A = ℕ} 0 1 = cc in omega arith)

free : (f : Option ℕ) (rs : List Finding) (n : ℕ) → counted 0 f rs ≡ Ok n → f ≡ None
free (Some x) rs n e = absurd (let z : ◌≡◌ {A = ℕ} 0 1 = cc in omega arith)
free None rs n e = refl

many : (f : Option ℕ) (rs : List Finding) (n : ℕ) → counted 0 f rs ≡ Ok n → length rs ≡ n
many (Some x) rs n e = absurd (let z : ◌≡◌ {A = ℕ} 0 1 = cc in omega arith)
many None rs n e = let z : 0 + length rs ≡ n = cc in omega arith

module _ (a b : List ℕ) (s : Result ℕ Differ) (es : s ≡ survey_of 0 (records a) (records b)) (n : ℕ) (gs : s ≡ Ok n) where
  pub no_fault : first_fault (records a) (records b) ≡ None
  no_fault = free (first_fault (records a) (records b)) (merged (records a) (records b)) n (sym es ∙ gs)

  count : length (merged (records a) (records b)) ≡ n
  count = many (first_fault (records a) (records b)) (merged (records a) (records b)) n (sym es ∙ gs)

  pub roomy : (out : List ℕ) → n ≤ length out / width → length (merged (records a) (records b)) ≤ length out / width
  roomy out h = rw count h

module _ (a b out : List ℕ) (fa : Option ℕ) (ea : fa ≡ first_bad_record a) where
  pub bad_first : (n : ℕ) → fa ≡ Some n → IsMerged a b out (refuses BadList n) out
  unfolding merge_of
  bad_first n ga = record { answers = rw (← ea, ga); leaves = rw (← ea, ga) }

  module _ (ga : fa ≡ None) (fb : Option ℕ) (eb : fb ≡ first_bad_record b) where
    pub bad_second : (n : ℕ) → fb ≡ Some n → IsMerged a b out (refuses BadList n) out
    unfolding merge_of
    bad_second n gb = record { answers = rw (← ea, ga, ← eb, gb); leaves = rw (← ea, ga, ← eb, gb) }

    module _ (gb : fb ≡ None) (s : Result ℕ Differ) (es : s ≡ survey_of 0 (records a) (records b)) where
      pub conflict : (d : Differ) → s ≡ Err d → IsMerged a b out (refuses NoMerge d.first) out
      unfolding merge_of
      conflict d gs =
          let f = faulted (first_fault (records a) (records b)) (merged (records a) (records b)) d (sym es ∙ gs) in
          record { answers = rw (← ea, ga, ← eb, gb, f); leaves = rw (← ea, ga, ← eb, gb, f) }

      module _ (n : ℕ) (gs : s ≡ Ok n) where
        pub too_many : length out / width < n → IsMerged a b out (refuses ShortList n) out
        unfolding merge_of
        too_many h = record { answers = rw (← ea, ga, ← eb, gb, no_fault a b s es n gs, count a b s es n gs, lt-leb n (length out / width) h); leaves = rw (← ea, ga, ← eb, gb, no_fault a b s es n gs, count a b s es n gs, lt-leb n (length out / width) h) }

        pub written : n ≤ length out / width → (new : List ℕ) → new ≡ filled (merged (records a) (records b)) out → IsMerged a b out (Ok n) new
        unfolding merge_of
        written h new e = record { answers = rw (← ea, ga, ← eb, gb, no_fault a b s es n gs, count a b s es n gs, le-leb n (length out / width) h); leaves = e ∙ rw (← ea, ga, ← eb, gb, no_fault a b s es n gs, count a b s es n gs, le-leb n (length out / width) h) }
