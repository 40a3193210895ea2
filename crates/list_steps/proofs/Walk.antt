-- The walk over two lists: what a step says of what is kept, of the faults, and of the places after it.
-- Assumes nothing.
use Rattle.std.specs.Prelude.{None, Some}
use mathlib.Core.Path.{◌≡◌, refl}
use mathlib.Core.Bool.{Bool, true, false}
use mathlib.Core.List.{List, [], ◌∷◌, ◌++◌}
use Prim.Native.Nat.{ℕ, ◌+◌, ◌-◌, ◌<◌, ◌≤◌}
use native.Mathlib.Omega.{arith}
use lib.ListN.{length, drop}
use Rattle.text_scan.specs.Choice.{pick}
use Rattle.text_scan.proofs.Within.{inside}
use Rattle.list_findings.specs.declared.Finding.{Finding}
use Rattle.list_findings.specs.Findings.{width, class_of, precedes, records, record_at}
use Rattle.list_findings.specs.Merge.{Met, alone, twice, met, among, Verdict, keep, leave, fault, verdict, kept, fault_of, merged, first_fault}
use Rattle.list_findings.proofs.Records.{records_here, records_over}
use Rattle.list_steps.specs.declared.Stepped.{Stepped}
use Rattle.list_steps.specs.declared.Stepped.TheVariants.{Over, Fault, Leave, Keep}
use Rattle.list_steps.specs.Step.{verdict_step, alone_of, merge_step}

-- the places x and y after a step from i and j: within, and one of them further
pub record Moves (a : List ℕ) (i : ℕ) (b : List ℕ) (j x y : ℕ) : Type 0 where
  pub ahead : i ≤ x
  pub ahead' : j ≤ y
  pub further : i + j < x + y
  pub within : x ≤ length a
  pub within' : y ≤ length b

-- what is left of the two lists is kept behind r, or without it, of what is left after the step; and their faults are the same
pub record Kept (a : List ℕ) (i : ℕ) (b : List ℕ) (j : ℕ) (rs : List Finding) (x y : ℕ) : Type 0 where
  pub moves : Moves a i b j x y
  pub keeps : merged (records (drop i a)) (records (drop j b)) ≡ rs ++ merged (records (drop x a)) (records (drop y b))
  pub faults : first_fault (records (drop i a)) (records (drop j b)) ≡ first_fault (records (drop x a)) (records (drop y b))

abbrev pub Says : List ℕ → ℕ → List ℕ → ℕ → Stepped → Type 0
Says a i b j Over = (merged (records (drop i a)) (records (drop j b)) ≡ []) × (first_fault (records (drop i a)) (records (drop j b)) ≡ None)
Says a i b j (Fault at) = first_fault (records (drop i a)) (records (drop j b)) ≡ Some at
Says a i b j (Leave x y) = Kept a i b j [] x y
Says a i b j (Keep r x y) = Kept a i b j (r ∷ []) x y

module _ (a : List ℕ) (i : ℕ) (b : List ℕ) (j : ℕ) where
  by_verdict : (m : Met) (x y : ℕ) → Moves a i b j x y → met (records (drop i a)) (records (drop j b)) ≡ m ∷ met (records (drop x a)) (records (drop y b)) → Says a i b j (verdict_step (verdict class_of m) x y)
  unfolding kept fault_of
  by_verdict m x y v e = go (verdict class_of m) refl
    where
      go : (u : Verdict) → verdict class_of m ≡ u → Says a i b j (verdict_step u x y)
      go (keep r) q = record { moves = v; keeps = rw (e, q); faults = rw (e, q) }
      go leave q = record { moves = v; keeps = rw (e, q); faults = rw (e, q) }
      go (fault at) q = rw (e, q)

  module _ (h : i ≤ length a) (g : j ≤ length b) where
    says_both : i + width ≤ length a → j + width ≤ length b → Says a i b j (merge_step (records (drop i a)) i (records (drop j b)) j)
    unfolding merge_step met among
    says_both p q = rw (records_here a i p, records_here b j q) (go (precedes x y) refl (precedes y x) refl)
      where
        x : Finding
        x = record_at a i

        y : Finding
        y = record_at b j

        go : (t : Bool) → precedes x y ≡ t → (u : Bool) → precedes y x ≡ u → Says a i b j (pick t (alone_of x (i + width) j) (pick u (alone_of y i (j + width)) (verdict_step (verdict class_of (twice x y)) (i + width) (j + width))))
        go true e u f = by_verdict (alone x) (i + width) j (record { ahead = omega arith; ahead' = omega arith; further = omega arith; within = p; within' = g }) (rw (records_here a i p, records_here b j q, e))
        go false e true f = by_verdict (alone y) i (j + width) (record { ahead = omega arith; ahead' = omega arith; further = omega arith; within = h; within' = q }) (rw (records_here a i p, records_here b j q, e, f))
        go false e false f = by_verdict (twice x y) (i + width) (j + width) (record { ahead = omega arith; ahead' = omega arith; further = omega arith; within = p; within' = q }) (rw (records_here a i p, records_here b j q, e, f))

    says_first : i + width ≤ length a → length b - j < width → Says a i b j (merge_step (records (drop i a)) i (records (drop j b)) j)
    unfolding merge_step met among
    says_first p q =
        rw (records_here a i p, records_over b j q)
        (by_verdict (alone (record_at a i)) (i + width) j (record { ahead = omega arith; ahead' = omega arith; further = omega arith; within = p; within' = g }) (rw (records_here a i p, records_over b j q)))

    says_second : length a - i < width → j + width ≤ length b → Says a i b j (merge_step (records (drop i a)) i (records (drop j b)) j)
    unfolding merge_step met
    says_second p q =
        rw (records_over a i p, records_here b j q)
        (by_verdict (alone (record_at b j)) i (j + width) (record { ahead = omega arith; ahead' = omega arith; further = omega arith; within = h; within' = q }) (rw (records_over a i p, records_here b j q)))

    says_over : length a - i < width → length b - j < width → Says a i b j (merge_step (records (drop i a)) i (records (drop j b)) j)
    unfolding merge_step met kept fault_of
    says_over p q = rw (records_over a i p, records_over b j q) (rw (records_over a i p, records_over b j q), rw (records_over a i p, records_over b j q))

    says : Says a i b j (merge_step (records (drop i a)) i (records (drop j b)) j)
    says =
        inside (length a) (i + width - 1)
        (λ p. inside (length b) (j + width - 1) (λ q. says_both (omega arith) (omega arith)) (λ q. says_first (omega arith) (omega arith)))
        (λ p. inside (length b) (j + width - 1) (λ q. says_second (omega arith) (omega arith)) (λ q. says_over (omega arith) (omega arith)))

    -- the same of a step that was answered
    module _ (s : Stepped) (e : s ≡ merge_step (records (drop i a)) i (records (drop j b)) j) where
      pub said : (t : Stepped) → s ≡ t → Says a i b j t
      said t f = rw (← f, e) says

      -- what is left of both lists falls
      pub leave_falls : (x y : ℕ) → s ≡ Leave x y → length a - x + (length b - y) < length a - i + (length b - j)
      leave_falls x y f = let m = (said (Leave x y) f).moves in omega arith

      pub keep_falls : (r : Finding) (x y : ℕ) → s ≡ Keep r x y → length a - x + (length b - y) < length a - i + (length b - j)
      keep_falls r x y f = let m = (said (Keep r x y) f).moves in omega arith
