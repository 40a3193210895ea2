-- The two checks and the merge, one law for each way out.
-- Assumes nothing.
use Rattle.std.specs.Prelude.{Result, Ok, Err}
use Rattle.refusals.specs.declared.Reason.TheVariants.{ShortList}
use Rattle.refusals.specs.declared.Refusal.{Refusal}
use Rattle.refusals.specs.Numbers.{refuses}
use mathlib.Core.Path.{◌≡◌, refl, sym, ◌∙◌, ap}
use mathlib.Core.Bool.{Bool, true, false}
use mathlib.Core.List.{List}
use Prim.Native.Nat.{ℕ, ◌+◌, ◌*◌, ◌/◌, ◌≤◌}
use native.Mathlib.Omega.{arith}
use borrow.Author.Tests.{leb-true}
use lib.Dec.{leb}
use lib.ListN.{length, take, drop, length-append}
use Rattle.text_scan.proofs.Tests.{and_right}
use Rattle.list_findings.specs.declared.Finding.{Finding}
use Rattle.list_findings.specs.Findings.{width, flat}
use Rattle.list_findings.specs.Merge.{IsMerged}
use Rattle.list_findings.proofs.Records.{length_flat}
use Rattle.list_records.specs.Kept.{fitting, kept_in}
use Rattle.list_records.proofs.Kept.{kept_long}
use Rattle.judge_check.specs.Check.{check_of}
use Rattle.judge_check.specs.Check.{CheckLeft}
use Rattle.judge_check.specs.Accepted.{found_in}
use Rattle.judge_check.proofs.Accepted.{accepted_check}
use Rattle.judge_both.specs.Both.{merge_second, check_second, both_of, BothLeft}

-- the records of an accepted check stand in its list
pub front_there : (s file scratch table list : List ℕ) (n : ℕ) → (check_of s file scratch table list).answer ≡ Ok n → n * width ≤ length (check_of s file scratch table list).list
front_there s file scratch table list n e =
    let x = accepted_check s file scratch table list n e in
    let f = found_in s x.rows file in
    omega (arith, x.many, length_flat f, ap length x.holds ∙ length-append (flat f) (drop (length (flat f)) list))

pub check_there : (s file scratch table list : List ℕ) (r : Result ℕ Refusal) (scratch' table' list' : List ℕ) → CheckLeft (check_of s file scratch table list) r scratch' table' list' → (n : ℕ) → r ≡ Ok n → n * width ≤ length list'
check_there s file scratch table list r scratch' table' list' l n e = rw l.lists (front_there s file scratch table list n (sym l.answers ∙ e))

-- ---- records that were kept, or did not fit
module _ (list : List ℕ) (n : ℕ) (records : List Finding) (at : ℕ) (t : Bool) (e : t ≡ fitting (length list) n (length records) at) (kept : List Finding) (k : kept ≡ kept_in list n records at) (f : t ≡ true) where
  pub kept_room : at + n ≤ length kept
  kept_room =
      let g = leb-true (at + n) (length records) (and_right (leb n (length list / width)) (leb (at + n) (length records)) (sym e ∙ f)) in
      rw (k, kept_long list n records at) g

pub first_room : (list : List ℕ) (n : ℕ) (records kept : List Finding) → kept ≡ kept_in list n records 0 → (t : Bool) → t ≡ fitting (length list) n (length records) 0 → t ≡ true → n ≤ length kept
first_room list n records kept k t e f = let h = kept_room list n records 0 t e kept k f in omega arith

-- ---- the merge
module _ (list : List ℕ) (m : ℕ) (records : List Finding) (n : ℕ) (out : List ℕ) (t : Bool) (e : t ≡ fitting (length list) m (length records) n) where
  pub no_room_answer : t ≡ false → refuses ShortList (n + m) ≡ (merge_second list m records n out).answer
  unfolding merge_second
  no_room_answer f = rw (← e, f)

  pub no_room_list : t ≡ false → out ≡ (merge_second list m records n out).list
  unfolding merge_second
  no_room_list f = rw (← e, f)

  module _ (kept : List Finding) (k : kept ≡ kept_in list m records n) (f : t ≡ true) (x : Result ℕ Refusal) (out' : List ℕ) (w : IsMerged (flat (take n kept)) (flat (take m (drop n kept))) out x out') where
    pub merged_answer : x ≡ (merge_second list m records n out).answer
    unfolding merge_second
    merged_answer = rw (← e, f, ← k) w.answers

    pub merged_list : out' ≡ (merge_second list m records n out).list
    unfolding merge_second
    merged_list = rw (← e, f, ← k) w.leaves

-- ---- the second check
module _ (s b scratch table list : List ℕ) (n : ℕ) (records : List Finding) (out : List ℕ) (t : Bool) (e : t ≡ fitting (length list) n (length records) 0) (kept : List Finding) (k : kept ≡ kept_in list n records 0) where
  pub first_no_room : t ≡ false → BothLeft (check_second s b scratch table list n records out) (refuses ShortList n) scratch table list kept out
  unfolding check_second kept_in
  first_no_room f = rw (← e, f) record { answers = refl; scratches = refl; tables = refl; lists = refl; kept = k ∙ rw (← e, f); outs = refl }

  module _ (f : t ≡ true) (r : Result ℕ Refusal) (scratch' table' list' : List ℕ) (l : CheckLeft (check_of s b scratch table list) r scratch' table' list') where
    pub second_refused : (refusal : Refusal) → r ≡ Err refusal → BothLeft (check_second s b scratch table list n records out) (Err refusal) scratch' table' list' kept out
    unfolding check_second
    second_refused refusal g =
        let h : (check_of s b scratch table list).answer ≡ Err refusal = sym l.answers ∙ g in
        rw (← e, f, h) record { answers = refl; scratches = l.scratches; tables = l.tables; lists = l.lists; kept = k; outs = refl }

    module _ (m : ℕ) (g : r ≡ Ok m) where
      answered : (check_of s b scratch table list).answer ≡ Ok m
      answered = sym l.answers ∙ g

      pub second_merged : (q : Result ℕ Refusal) (kept' : List Finding) (out' : List ℕ) → q ≡ (merge_second list' m kept n out).answer → kept' ≡ kept_in list' m kept n → out' ≡ (merge_second list' m kept n out).list → BothLeft (check_second s b scratch table list n records out) q scratch' table' list' kept' out'
      unfolding check_second
      second_merged q kept' out' i j h =
          rw (← e, f, answered, ← k, ← l.lists) record { answers = i; scratches = l.scratches; tables = l.tables; lists = refl; kept = j; outs = h }

-- ---- the first check
module _ (s a b scratch table list : List ℕ) (records : List Finding) (out : List ℕ) (r : Result ℕ Refusal) (scratch' table' list' : List ℕ) (l : CheckLeft (check_of s a scratch table list) r scratch' table' list') where
  pub first_refused : (refusal : Refusal) → r ≡ Err refusal → BothLeft (both_of s a b scratch table list records out) (Err refusal) scratch' table' list' records out
  unfolding both_of
  first_refused refusal e =
      let f : (check_of s a scratch table list).answer ≡ Err refusal = sym l.answers ∙ e in
      rw f record { answers = refl; scratches = l.scratches; tables = l.tables; lists = l.lists; kept = refl; outs = refl }

  pub both_checked : (n : ℕ) → r ≡ Ok n → (q : Result ℕ Refusal) (scratch'' table'' list'' : List ℕ) (records' : List Finding) (out' : List ℕ) → BothLeft (check_second s b scratch' table' list' n records out) q scratch'' table'' list'' records' out' → BothLeft (both_of s a b scratch table list records out) q scratch'' table'' list'' records' out'
  unfolding both_of
  both_checked n e q scratch'' table'' list'' records' out' k =
      let f : (check_of s a scratch table list).answer ≡ Ok n = sym l.answers ∙ e in
      rw (f, ← l.lists, ← l.scratches, ← l.tables) k
