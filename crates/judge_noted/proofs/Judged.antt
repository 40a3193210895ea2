-- The findings of a draft, one law for each branch: the tables by their index, the list by its marks.
-- Assumes nothing.
use Rattle.std.specs.Prelude.{Result}
use Rattle.refusals.specs.declared.Refusal.{Refusal}
use mathlib.Core.Path.{◌≡◌, refl, sym, ◌∙◌, ap, subst}
use mathlib.Core.Bool.{Bool}
use mathlib.Core.List.{List, []}
use Prim.Native.Nat.{ℕ, zero, suc, ◌+◌, ◌-◌, ◌/◌, ◌≤◌}
use native.Mathlib.Omega.{arith}
use lib.ListN.{length, take, drop}
use lib.Seq.{sets, sets-eq, length-sets, take-append_seam}
use Rattle.table_file.specs.Accepted.{Tables}
use Rattle.judge_draft.specs.Drafts.{Draft, draft, element_count}
use Rattle.judge_header.specs.declared.Header.{Header}
use Rattle.judge_header.specs.Header.{header_of}
use Rattle.judge_answers.specs.declared.Places.{Places}
use Rattle.judge_answers.specs.Served.{run_of, Served}
use Rattle.judge_findings.specs.Listed.{broken, listed, findings_of}
use Rattle.judge_findings.specs.Room.{FindingsLeft}
use Rattle.judge_marks.specs.Marks.{marks_of, marked_from, marked_in}
use Rattle.judge_marks.proofs.Told.{marks_told}
use Rattle.judge_asking.proofs.Filled.{not_found}

-- ---- the tables by their index
pub served_left : (d : Draft) (u v : Tables) → u ≡ v → (list : List ℕ) (r : Result ℕ Refusal) (after : List ℕ) → FindingsLeft (findings_of d u) list r after → FindingsLeft (findings_of d v) list r after
served_left d u v e list r after f = subst (λ t. FindingsLeft (findings_of d t) list r after) e f

-- an empty run is not asked
no_part : (xs : List ℕ) (i : ℕ) → run_of (take (0 - 0) (drop 0 xs)) i ≡ []
unfolding run_of
no_part xs i = refl

pub no_index : (d : Draft) (s : List ℕ) (p : Places) (xs : List ℕ) → Served d s p (take (0 - 0) (drop 0 xs))
unfolding run_of
no_index d s p xs =
    record {
      code_list = record { index = λ h. absurd (omega (arith, h)) };
      register = record { index = λ h. absurd (omega (arith, h)) };
      elsewhere = record { index = λ h. absurd (omega (arith, h)) };
      others = record { told = λ h. absurd (omega (arith, h)) };
    }

-- ---- the list by its marks
-- the front of the marks
front_of : (m xs : List ℕ) (k : ℕ) → length xs ≡ k → k ≤ length m → take k (sets m 0 xs) ≡ xs
front_of m xs k e h = rw (← e) (ap (take (length xs)) (sets-eq xs m 0 (omega (arith, e))) ∙ take-append_seam xs (drop (0 + length xs) m))

marks_long : (d : Draft) (b : ℕ → ℕ → Bool) (k n : ℕ) → length (marks_of d b n k) ≡ k
unfolding marks_of
marks_long d b zero n = refl
marks_long d b (suc k) n = ap suc (marks_long d b k (n + 1))

module _ (s notes : List ℕ) (h : Header) (e : h ≡ header_of (draft s notes)) (t : Tables) (m marks : List ℕ) (room : length notes / 4 ≤ length m) (f : marks ≡ sets m 0 (marks_of (draft s notes) (broken (draft s notes) h t) 0 (length notes / 4))) where
  its_count : length notes / 4 ≡ element_count (draft s notes)
  unfolding draft
  its_count = refl

  -- the marks tell of all findings
  told : marked_in s notes marks ≡ listed (draft s notes) (broken (draft s notes) h t)
  unfolding marked_in listed
  told =
      let b = broken (draft s notes) h t in
      let ms = marks_of (draft s notes) b 0 (length notes / 4) in
      ap (λ x. marked_from (draft s notes) 0 (take (length notes / 4) x)) f
      ∙ (ap (marked_from (draft s notes) 0) (front_of m ms (length notes / 4) (marks_long (draft s notes) b (length notes / 4) 0) room)
      ∙ (marks_told (draft s notes) b (not_found (draft s notes) h t) (length notes / 4) 0 ∙ rw its_count))

  found : marked_in s notes marks ≡ findings_of (draft s notes) t
  unfolding findings_of
  found = told ∙ rw e

  pub marks_room : length notes / 4 ≤ length marks
  marks_room = omega (arith, room, ap length f, length-sets m 0 (marks_of (draft s notes) (broken (draft s notes) h t) 0 (length notes / 4)))

  pub all_told : (total : ℕ) → total ≡ length (listed (draft s notes) (broken (draft s notes) h t)) → total ≡ length (marked_in s notes marks)
  all_told total g = g ∙ ap length (sym told)

  pub draft_left : (list : List ℕ) (r : Result ℕ Refusal) (after : List ℕ) → FindingsLeft (marked_in s notes marks) list r after → FindingsLeft (findings_of (draft s notes) t) list r after
  draft_left list r after g = subst (λ x. FindingsLeft x list r after) found g
