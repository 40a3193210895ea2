-- Records are stored in a room one after the other: what all of them make is what the rest makes from here.
-- Assumes nothing.
use mathlib.Core.Path.{◌≡◌, refl, sym, ◌∙◌}
use mathlib.Core.Bool.{Bool, true, false}
use mathlib.Core.List.{List}
use Prim.Native.Nat.{ℕ, suc, ◌+◌, ◌-◌, ◌*◌, ◌/◌, ◌<◌, ◌≤◌}
use native.Mathlib.Omega.{arith}
use borrow.Author.Tests.{le-leb, leb-true}
use lib.Dec.{leb}
use lib.ListN.{length, take, drop, set, length-set}
use lib.Seq.{sets, sets-eq, length-take-le}
use Rattle.text_scan.proofs.Tests.{and_left, and_right}
use Rattle.list_findings.specs.declared.Finding.{Finding}
use Rattle.list_findings.specs.Findings.{width, records, first_records, record_at}
use Rattle.list_findings.proofs.Records.{records_here, length_records}
use Rattle.list_records.specs.Kept.{fitting, kept_in}

-- ---- the loop
pub record Keeping (list : List ℕ) (n : ℕ) (old : List Finding) (at : ℕ) (room : List Finding) (i : ℕ) : Type 0 where
  pub holds : sets old at (first_records list n) ≡ sets room (at + i) (take (n - i) (records (drop (i * width) list)))
  pub long : length room ≡ length old
  pub whole : n ≤ length list / width
  pub roomy : at + n ≤ length old

module _ (list : List ℕ) (n : ℕ) (old : List Finding) (at : ℕ) (t : Bool) (e : t ≡ fitting (length list) n (length old) at) where
  pub not_fitting : t ≡ false → false ≡ fitting (length list) n (length old) at
  not_fitting f = sym f ∙ e

  pub keep_none : t ≡ false → old ≡ kept_in list n old at
  unfolding kept_in
  keep_none f = rw (← e, f)

  pub keep_start : t ≡ true → Keeping list n old at old 0
  keep_start f =
      let g : fitting (length list) n (length old) at ≡ true = sym e ∙ f in
      let z : n - 0 ≡ n = omega arith in
      let y : at + 0 ≡ at = omega arith in
      record {
        holds = rw (z, y);
        long = refl;
        whole = leb-true n (length list / width) (and_left (leb n (length list / width)) (leb (at + n) (length old)) g);
        roomy = leb-true (at + n) (length old) (and_right (leb n (length list / width)) (leb (at + n) (length old)) g);
      }

module _ (list : List ℕ) (n : ℕ) (old : List Finding) (at : ℕ) (room : List Finding) (i : ℕ) (l : Keeping list n old at room i) where
  module _ (h : i < n) where
    record_there : i * width + width ≤ length list
    record_there = let w = l.whole in omega arith

    pub keep_next : (r : Finding) (new : List Finding) → r ≡ record_at list (i * width) → new ≡ set room (at + i) r → Keeping list n old at new (i + 1)
    keep_next r new e f =
        let z : n - i ≡ suc (n - (i + 1)) = omega arith in
        let y : at + (i + 1) ≡ suc (at + i) = omega arith in
        let x : (i + 1) * width ≡ i * width + width = omega arith in
        record {
          holds = l.holds ∙ rw (z, records_here list (i * width) record_there, y, x, f, e);
          long = rw f (length-set room (at + i) r) ∙ l.long;
          whole = l.whole;
          roomy = l.roomy;
        }

  pub keep_fits : true ≡ fitting (length list) n (length old) at
  keep_fits = rw (le-leb n (length list / width) l.whole, le-leb (at + n) (length old) l.roomy)

  pub keep_over : n ≤ i → room ≡ kept_in list n old at
  unfolding kept_in
  keep_over h =
      let z : n - i ≡ 0 = omega arith in
      let w = l.whole in
      let v = l.roomy in
      let y : length (first_records list n) ≡ n = length-take-le n (records list) (omega (arith, length_records list)) in
      let g : at + length (first_records list n) ≤ length old = omega arith in
      let q : sets old at (first_records list n) ≡ room = rw z at l.holds in
      rw (← keep_fits) (sym q ∙ sets-eq (first_records list n) old at g)
