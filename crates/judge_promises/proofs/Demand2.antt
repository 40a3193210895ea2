-- Demand 2 (law `demand_2`): if a check answers n findings, then the record of a procedure and an element stands among the first n of its list
-- exactly if the procedure is broken there, and n is 0 exactly if nothing is. The laws before it are those of the list which is told of a draft.
-- Assumes nothing.
use Rattle.std.specs.Prelude.{Ok}
use mathlib.Core.Path.{◌≡◌, refl, sym, ◌∙◌, ap}
use mathlib.Core.Bool.{true, false}
use mathlib.Core.List.{List, [], ◌∷◌}
use Prim.Native.Nat.{ℕ, ◌*◌, ◌/◌, ◌<◌, ◌≤◌}
use native.Mathlib.Omega.{arith}
use lib.ListN.{length, take, drop, length-append}
use lib.Seq.{take-append_seam}
use Rattle.list_findings.specs.declared.Finding.{Finding}
use Rattle.list_findings.specs.Findings.{width, records, first_records, flat}
use Rattle.list_findings.specs.Lists.{has}
use Rattle.list_findings.proofs.Records.{records_flat, length_flat}
use Rattle.list_records.proofs.Kept.{flat_front}
use Rattle.table_file.specs.Accepted.{tables_of}
use Rattle.xml_steps.specs.Reading.{elements}
use Rattle.xml_elements.specs.Elements.{elements_of}
use Rattle.xml_nesting.proofs.Read.{Rows, rows_read}
use Rattle.judge_draft.specs.Drafts.{full_draft}
use Rattle.judge_header.specs.Header.{header_of}
use Rattle.judge_findings.specs.Listed.{finding, broken, findings_of}
use Rattle.judge_findings.specs.Holding.{Judged, Holds, InDocumentOrder}
use Rattle.judge_findings.proofs.Listed.{held_exactly, listed_holds, empty_unbroken, unbroken_empty}
use Rattle.judge_notes.proofs.Noted.{notes_length, note_first, note_after}
use Rattle.judge_type.specs.Drafted.{draft_as, type_in, draft_of}
use Rattle.judge_check.specs.Check.{check_of}
use Rattle.judge_check.specs.Accepted.{found_in, Accepted}
use Rattle.judge_check.proofs.Accepted.{accepted_check}
use Rattle.judge_promises.specs.Right.{Right}

-- ---- the draft that was read is in document order
module _ (s : List ℕ) (k : ℕ) (rows : List ℕ) (e : elements_of s ≡ elements k rows) where
  its : Rows s k rows
  its = rows_read s k rows e

  pub in_order : InDocumentOrder (draft_of s rows)
  unfolding draft_of draft_as full_draft
  in_order =
      record {
        rises = λ i j h g.
            let w : j < length rows / 4 = omega (arith, notes_length s rows (type_in s rows)) in
            rw (note_first s rows (type_in s rows) i (omega arith), note_first s rows (type_in s rows) j w)
            (its.ordered.rises i j h (omega (arith, its.wide)));
        ends = λ j h.
            let w : j < length rows / 4 = omega (arith, notes_length s rows (type_in s rows)) in
            rw (note_first s rows (type_in s rows) j w, note_after s rows (type_in s rows) j w)
            (its.ordered.ends j (omega (arith, its.wide)));
      }

  module _ (file : List ℕ) where
    -- procedure p is in the list at element n exactly when it is broken there
    pub found_exactly : (n p : ℕ) → Judged (draft_of s rows) n p → has (finding (draft_of s rows) n p) (found_in s rows file) ≡ broken (draft_of s rows) (header_of (draft_of s rows)) (tables_of file) n p
    unfolding found_in findings_of
    found_exactly n p j = held_exactly (draft_of s rows) (broken (draft_of s rows) (header_of (draft_of s rows)) (tables_of file)) in_order n p j

    -- and nothing else is in the list
    pub found_only : (r : Finding) → has r (found_in s rows file) ≡ true → Holds (draft_of s rows) (broken (draft_of s rows) (header_of (draft_of s rows)) (tables_of file)) r
    unfolding found_in findings_of
    found_only r h = listed_holds (draft_of s rows) (broken (draft_of s rows) (header_of (draft_of s rows)) (tables_of file)) r h

    -- it is empty exactly when nothing is broken
    pub empty_nothing : found_in s rows file ≡ [] → (n p : ℕ) → Judged (draft_of s rows) n p → broken (draft_of s rows) (header_of (draft_of s rows)) (tables_of file) n p ≡ false
    unfolding found_in findings_of
    empty_nothing h = empty_unbroken (draft_of s rows) (broken (draft_of s rows) (header_of (draft_of s rows)) (tables_of file)) h

    pub nothing_empty : ((n p : ℕ) → Judged (draft_of s rows) n p → broken (draft_of s rows) (header_of (draft_of s rows)) (tables_of file) n p ≡ false) → found_in s rows file ≡ []
    unfolding found_in findings_of
    nothing_empty f = unbroken_empty (draft_of s rows) (broken (draft_of s rows) (header_of (draft_of s rows)) (tables_of file)) f

-- ---- of a check
no_findings : (rs : List Finding) → length rs ≡ 0 → rs ≡ []
no_findings [] e = refl
no_findings (r ∷ rs) e = absurd (omega arith)

module _ (s file list : List ℕ) (n : ℕ) (after : List ℕ) (a : Accepted s file list n after) where
  abbrev found : List Finding
  found = found_in s a.rows file

  -- the first n records are what was found
  firsts_are : first_records after n ≡ found
  firsts_are =
      let w : n * width ≡ length (flat found) = omega (arith, a.many, length_flat found) in
      let h : n * width ≤ length after = omega (arith, ap length a.holds, length-append (flat found) (drop (length (flat found)) list)) in
      let e : take (n * width) after ≡ flat found = ap (take (n * width)) a.holds ∙ rw w (take-append_seam (flat found) (drop (length (flat found)) list)) in
      sym (records_flat (first_records after n)) ∙ (ap records (flat_front after n h ∙ e) ∙ records_flat found)

  pub all_right : Right s file n after
  all_right =
      record {
        count = a.count;
        rows = a.rows;
        read = a.read;
        exactly = λ k p j. ap (has (finding (draft_of s a.rows) k p)) firsts_are ∙ found_exactly s a.count a.rows a.read file k p j;
        only = λ r h. found_only s a.count a.rows a.read file r (sym (ap (has r) firsts_are) ∙ h);
        empty = λ e. empty_nothing s a.count a.rows a.read file (no_findings found (sym a.many ∙ e));
        clean = λ f. a.many ∙ ap length (nothing_empty s a.count a.rows a.read file f);
      }

pub demand_2 : (s file scratch table list : List ℕ) (n : ℕ) → (check_of s file scratch table list).answer ≡ Ok n → Right s file n (check_of s file scratch table list).list
demand_2 s file scratch table list n e = all_right s file list n (check_of s file scratch table list).list (accepted_check s file scratch table list n e)
