-- What stands in a room where records were kept.
-- Assumes nothing.
use Rattle.std.specs.Prelude.{Result}
use Rattle.refusals.specs.declared.Refusal.{Refusal}
use mathlib.Core.Path.{◌≡◌, refl, ap}
use mathlib.Core.Bool.{Bool, true, false}
use mathlib.Core.List.{List, [], ◌∷◌, ◌++◌, append_assoc}
use Prim.Native.Nat.{ℕ, zero, suc, ◌+◌, ◌-◌, ◌*◌, ◌/◌, ◌≤◌}
use native.Mathlib.Omega.{arith}
use borrow.Author.Tests.{leb-true}
use lib.Dec.{leb}
use lib.ListN.{length, take, drop, length-append, length-drop}
use lib.Seq.{length-take-le, take_at, drop_at}
use Rattle.text_scan.specs.Choice.{pick}
use Rattle.text_scan.proofs.Tests.{and_left, and_right}
use Rattle.list_findings.specs.declared.Finding.{Finding}
use Rattle.list_findings.specs.Findings.{width, records, first_records, flat}
use Rattle.list_findings.specs.Merge.{IsMerged}
use Rattle.list_findings.proofs.Records.{length_records}
use Rattle.list_records.specs.Kept.{fitting, placed, kept_in}

-- the first n records, as numbers
pub flat_front : (list : List ℕ) (n : ℕ) → n * width ≤ length list → flat (first_records list n) ≡ take (n * width) list
unfolding records flat
flat_front list zero h = refl
flat_front [] (suc n) h = absurd (omega arith)
flat_front (p ∷ []) (suc n) h = absurd (omega arith)
flat_front (p ∷ f ∷ []) (suc n) h = absurd (omega arith)
flat_front (p ∷ f ∷ e ∷ list) (suc n) h =
    let z : suc n * width ≡ suc (suc (suc (n * width))) = omega arith in
    rw z (ap (λ (l : List ℕ). p ∷ f ∷ e ∷ l) (flat_front list n (omega arith)))

-- where n records of a list fit from number `at` on
module _ (list : List ℕ) (n : ℕ) (room : List Finding) (at : ℕ) (e : fitting (length list) n (length room) at ≡ true) where
  long : length (first_records list n) ≡ n
  long = length-take-le n (records list) (omega (arith, length_records list, leb-true n (length list / width) (and_left (leb n (length list / width)) (leb (at + n) (length room)) e)))

  start : length (take at room) ≡ at
  start = length-take-le at room (omega (arith, leb-true (at + n) (length room) (and_right (leb n (length list / width)) (leb (at + n) (length room)) e)))

  is_kept : kept_in list n room at ≡ take at room ++ (first_records list n ++ drop (at + length (first_records list n)) room)
  unfolding kept_in
  is_kept = rw e (append_assoc (take at room) (first_records list n) (drop (at + length (first_records list n)) room))

  -- what was there before stays, and the records stand behind it
  pub kept_before : take at (kept_in list n room at) ≡ take at room
  kept_before = rw is_kept (take_at (take at room) (first_records list n ++ drop (at + length (first_records list n)) room) at start)

  pub kept_behind : take n (drop at (kept_in list n room at)) ≡ first_records list n
  kept_behind =
      rw (is_kept, drop_at (take at room) (first_records list n ++ drop (at + length (first_records list n)) room) at start)
      (take_at (first_records list n) (drop (at + length (first_records list n)) room) n long)

-- the room keeps its length
pub kept_long : (list : List ℕ) (n : ℕ) (room : List Finding) (at : ℕ) → length (kept_in list n room at) ≡ length room
unfolding kept_in
kept_long list n room at = go (fitting (length list) n (length room) at) refl
  where
    go : (t : Bool) → fitting (length list) n (length room) at ≡ t → length (pick t (placed room at (first_records list n)) room) ≡ length room
    go false e = refl
    go true e =
        let f = first_records list n in
        let k = leb-true (at + n) (length room) (and_right (leb n (length list / width)) (leb (at + n) (length room)) e) in
        omega (arith, long list n room at e, start list n room at e, length-append (take at room ++ f) (drop (at + length f) room), length-append (take at room) f, length-drop (at + length f) room)

-- ---- the two runs that are merged: the first n records of a room, and the m behind them
module _ (room : List Finding) (n m : ℕ) where
  pub first_long : n + m ≤ length room → length (take n room) ≡ n
  first_long h = length-take-le n room (omega arith)

  pub parts_merged : (out : List ℕ) (r : Result ℕ Refusal) (after : List ℕ) → IsMerged (flat (take n room)) (flat (take (n + m - n) (drop n room))) out r after → IsMerged (flat (take n room)) (flat (take m (drop n room))) out r after
  parts_merged out r after w = let z : n + m - n ≡ m = omega arith in rw z at w
