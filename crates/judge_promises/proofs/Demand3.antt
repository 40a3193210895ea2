-- Demand 3, of checks that are not refused: the merge of the lists under two files is accepted, and is the list of the check under their join.
-- Assumes nothing.
use Rattle.std.specs.Prelude.{None, Ok}
use mathlib.Core.Path.{◌≡◌, sym, ◌∙◌, ap}
use mathlib.Core.Bool.{true}
use mathlib.Core.List.{List}
use Prim.Native.Nat.{ℕ, ◌+◌, ◌*◌, ◌/◌, ◌≤◌}
use native.Mathlib.Omega.{arith}
use borrow.Author.Tests.{le-leb}
use lib.ListN.{length, take, drop}
use lib.Seq.{take-append_seam}
use Rattle.list_findings.specs.declared.Finding.{Finding}
use Rattle.list_findings.specs.Findings.{width, flat, filled}
use Rattle.list_findings.specs.Merge.{Merging as Merging, first_bad_record, merged, first_fault, merge_of}
use Rattle.list_findings.proofs.Records.{records_flat, length_flat}
use Rattle.list_records.specs.Kept.{fitting, kept_in}
use Rattle.list_records.proofs.Kept.{flat_front, kept_long, kept_before, kept_behind}
use Rattle.table_file.specs.Accepted.{tables_of}
use Rattle.table_join.specs.Joins.{Joins}
use Rattle.xml_steps.specs.Reading.{elements}
use Rattle.xml_elements.specs.Elements.{elements_of}
use Rattle.judge_type.specs.Drafted.{draft_of}
use Rattle.judge_check.specs.Check.{Outcome as Checked, check_of}
use Rattle.judge_check.specs.Accepted.{found_in, Accepted}
use Rattle.judge_both.specs.Both.{merge_second, check_second, both_of}
use Rattle.judge_both.proofs.Steps.{front_there}
use Rattle.judge_check.proofs.Accepted.{accepted_check}
use Rattle.judge_promises.proofs.Demand2.{in_order}
use Rattle.judge_promises.proofs.Joined.{never_bad, never_faulty, findings_joined}

-- the records of an accepted check are the front of its list
front : (s file list : List ℕ) (n : ℕ) (after : List ℕ) (x : Accepted s file list n after) → take (n * width) after ≡ flat (found_in s x.rows file)
front s file list n after x =
    let e : n * width ≡ length (flat (found_in s x.rows file)) = omega (arith, x.many, length_flat (found_in s x.rows file)) in
    rw e (ap (take (length (flat (found_in s x.rows file)))) x.holds ∙ take-append_seam (flat (found_in s x.rows file)) (drop (length (flat (found_in s x.rows file))) list))

-- two readings of one document are the same
same_rows : (i j : ℕ) (x y : List ℕ) → elements i x ≡ elements j y → x ≡ y
same_rows i j x y e = cc

-- ---- a list of the check is never refused by the merge with another list of the same document: 12 and 13 cannot come
module _ (s : List ℕ) (k : ℕ) (rows : List ℕ) (e : elements_of s ≡ elements k rows) where
  pub never_12 : (a : List ℕ) → first_bad_record (flat (found_in s rows a)) ≡ None
  unfolding found_in
  never_12 a = never_bad (draft_of s rows) (in_order s k rows e) (tables_of a)

  pub never_13 : (a b : List ℕ) → first_fault (found_in s rows a) (found_in s rows b) ≡ None
  unfolding found_in
  never_13 a b = never_faulty (draft_of s rows) (in_order s k rows e) (tables_of a) (tables_of b)

  joined_found : (c a b : List ℕ) → Joins c a b → merged (found_in s rows a) (found_in s rows b) ≡ found_in s rows c
  unfolding found_in
  joined_found c a b j = findings_joined (draft_of s rows) (in_order s k rows e) c a b j

  -- the merge of the two lists, with room for the third
  merge_is : (c a b : List ℕ) → Joins c a b → (out : List ℕ) → length (found_in s rows c) ≤ length out / width → merge_of (flat (found_in s rows a)) (flat (found_in s rows b)) out ≡ record { answer = Ok (length (found_in s rows c)); list = filled (found_in s rows c) out }
  unfolding merge_of
  merge_is c a b j out h =
      rw (never_12 a, never_12 b, records_flat (found_in s rows a), records_flat (found_in s rows b), never_13 a b, joined_found c a b j, le-leb (length (found_in s rows c)) (length out / width) h)

merge_alike : {u v u' v' : List ℕ} (out : List ℕ) → u ≡ u' → v ≡ v' → merge_of u v out ≡ merge_of u' v' out
merge_alike out e f = rw (e, f)

merging_is : (k : ℕ) (after : List ℕ) (found : List Finding) (out : List ℕ) → k ≡ length found → after ≡ filled found out → ◌≡◌ {A = Merging} (record { answer = Ok k; list = after }) (record { answer = Ok (length found); list = filled found out })
merging_is k after found out e f = rw (e, f)

-- ---- demand 3
module _ (s c a b : List ℕ) (j : Joins c a b) (scratch table first scratch' table' second scratch'' table'' out : List ℕ) where
  pub demand_3 : (n m k : ℕ) → (check_of s a scratch table first).answer ≡ Ok n → (check_of s b scratch' table' second).answer ≡ Ok m → (check_of s c scratch'' table'' out).answer ≡ Ok k
      → merge_of (take (n * width) (check_of s a scratch table first).list) (take (m * width) (check_of s b scratch' table' second).list) out ≡ record { answer = Ok k; list = (check_of s c scratch'' table'' out).list }
  demand_3 n m k e f g =
      let x = accepted_check s a scratch table first n e in
      let y = accepted_check s b scratch' table' second m f in
      let z = accepted_check s c scratch'' table'' out k g in
      let p : y.rows ≡ x.rows = same_rows y.count x.count y.rows x.rows (sym y.read ∙ x.read) in
      let q : z.rows ≡ x.rows = same_rows z.count x.count z.rows x.rows (sym z.read ∙ x.read) in
      let found : found_in s z.rows c ≡ found_in s x.rows c = ap (λ r. found_in s r c) q in
      let h : length (found_in s x.rows c) ≤ length out / width = omega (arith, ap length found, z.room) in
      merge_alike out (front s a first n (check_of s a scratch table first).list x) (front s b second m (check_of s b scratch' table' second).list y ∙ ap (λ r. flat (found_in s r b)) p)
      ∙ (merge_is s x.count x.rows x.read c a b j out h ∙ sym (merging_is k (check_of s c scratch'' table'' out).list (found_in s x.rows c) out (z.many ∙ ap length found) (z.holds ∙ ap (λ r. filled r out) found)))

-- ---- in code: with room for the records of both, what the two checks and the merge answer and write is what the check under the joined file answers and writes
module _ (s c a b : List ℕ) (j : Joins c a b) (scratch table list : List ℕ) (records : List Finding) (out scratch' table' : List ℕ) (n m k : ℕ)
    (e : (check_of s a scratch table list).answer ≡ Ok n)
    (f : (check_of s b (check_of s a scratch table list).scratch (check_of s a scratch table list).table (check_of s a scratch table list).list).answer ≡ Ok m)
    (g : (check_of s c scratch' table' out).answer ≡ Ok k) (h : n + m ≤ length records) where
  abbrev one : Checked
  one = check_of s a scratch table list

  abbrev other : Checked
  other = check_of s b one.scratch one.table one.list

  first_fits : fitting (length one.list) n (length records) 0 ≡ true
  first_fits =
      let i = front_there s a scratch table list n e in
      rw (le-leb n (length one.list / width) (omega arith), le-leb (0 + n) (length records) (omega arith))

  second_fits : fitting (length other.list) m (length (kept_in one.list n records 0)) n ≡ true
  second_fits =
      let i = front_there s b one.scratch one.table one.list m f in
      rw (kept_long one.list n records 0, le-leb m (length other.list / width) (omega arith), le-leb (n + m) (length records) h)

  merges : merge_second other.list m (kept_in one.list n records 0) n out ≡ record { answer = Ok k; list = (check_of s c scratch' table' out).list }
  unfolding merge_second
  merges =
      let kept = kept_in one.list n records 0 in
      let before : flat (take n (kept_in other.list m kept n)) ≡ take (n * width) one.list =
      ap flat (kept_before other.list m kept n second_fits ∙ kept_behind one.list n records 0 first_fits) ∙ flat_front one.list n (front_there s a scratch table list n e) in
      let behind : flat (take m (drop n (kept_in other.list m kept n))) ≡ take (m * width) other.list =
      ap flat (kept_behind other.list m kept n second_fits) ∙ flat_front other.list m (front_there s b one.scratch one.table one.list m f) in
      rw second_fits (merge_alike out before behind ∙ demand_3 s c a b j scratch table list one.scratch one.table one.list scratch' table' out n m k e f g)

  pub demand_3_met : ((both_of s a b scratch table list records out).answer ≡ (check_of s c scratch' table' out).answer) × ((both_of s a b scratch table list records out).out ≡ (check_of s c scratch' table' out).list)
  unfolding both_of check_second
  demand_3_met = rw (e, first_fits, f) (ap (λ o. o.answer) merges ∙ sym g, ap (λ o. o.list) merges)
