-- The walk that counts: what it answers from the start is what it answers from here.
-- Assumes nothing.
use mathlib.Core.Path.{◌≡◌, refl, sym, ◌∙◌, ap}
use mathlib.Core.List.{List, ◌∷◌}
use Prim.Native.Nat.{ℕ, ◌+◌, ◌≤◌}
use native.Mathlib.Nat.{add-zero}
use native.Mathlib.Omega.{arith}
use lib.ListN.{length, drop}
use Rattle.std.specs.Prelude.{Ok, Err, Option, None, Some, ℕ}
use Rattle.list_findings.specs.declared.Finding.{Finding}
use Rattle.list_findings.specs.Findings.{records}
use Rattle.list_findings.specs.Merge.{merged, first_fault}
use Rattle.list_steps.specs.declared.Stepped.{Stepped}
use Rattle.list_steps.specs.declared.Stepped.TheVariants.{Over, Fault, Leave, Keep}
use Rattle.list_steps.specs.Step.{merge_step, counted, survey_of}
use Rattle.list_steps.proofs.Walk.{said}

pub record Counts (a b : List ℕ) (i j n : ℕ) : Type 0 where
  pub counts : survey_of 0 (records a) (records b) ≡ survey_of n (records (drop i a)) (records (drop j b))
  pub within : i ≤ length a
  pub within' : j ≤ length b
  pub few : n ≤ i + j

pub counts_start : (a b : List ℕ) → Counts a b 0 0 0
counts_start a b = record { counts = refl; within = omega arith; within' = omega arith; few = omega arith }

-- one finding more is counted
one_more : (n : ℕ) (f : Option ℕ) (r : Finding) (rs : List Finding) → counted n f (r ∷ rs) ≡ counted (n + 1) f rs
one_more n (Some at) r rs = refl
one_more n None r rs = let e : n + length (r ∷ rs) ≡ n + 1 + length rs = omega arith in ap Ok e

module _ (a b : List ℕ) (i j n : ℕ) (l : Counts a b i j n) (s : Stepped) (e : s ≡ merge_step (records (drop i a)) i (records (drop j b)) j) where
  pub count_over : s ≡ Over → Ok n ≡ survey_of 0 (records a) (records b)
  count_over f =
      let k = said a i b j l.within l.within' s e Over f in
      sym (l.counts ∙ rw (k.0, k.1) (ap Ok (add-zero n)))

  pub count_fault : (at : ℕ) → s ≡ Fault at → Err (record { first = at }) ≡ survey_of 0 (records a) (records b)
  count_fault at f = sym (l.counts ∙ rw (said a i b j l.within l.within' s e (Fault at) f))

  pub count_leave : (x y : ℕ) → s ≡ Leave x y → Counts a b x y n
  count_leave x y f =
      let k = said a i b j l.within l.within' s e (Leave x y) f in
      record { counts = l.counts ∙ rw (k.keeps, k.faults); within = k.moves.within; within' = k.moves.within'; few = omega arith }

  pub count_keep : (r : Finding) (x y : ℕ) → s ≡ Keep r x y → Counts a b x y (n + 1)
  count_keep r x y f =
      let k = said a i b j l.within l.within' s e (Keep r x y) f in
      record { counts = l.counts ∙ rw (k.keeps, k.faults) (one_more n (first_fault (records (drop x a)) (records (drop y b))) r (merged (records (drop x a)) (records (drop y b)))); within = k.moves.within; within' = k.moves.within'; few = omega arith }
