-- A run whose part of number i was replaced: that part has the new numbers, and all other parts are as they were.
-- Assumes nothing.
use mathlib.Core.Path.{◌≡◌, refl, sym, ◌∙◌}
use mathlib.Core.Bool.{Bool, true, false}
use mathlib.Core.List.{List, ◌++◌}
use Prim.Native.Nat.{ℕ, ◌+◌, ◌-◌, ◌*◌, ◌<◌, ◌≤◌}
use native.Mathlib.Omega.{arith}
use borrow.Author.Tests.{le-leb, ltb-true, ltb-false}
use lib.Dec.{ltb}
use lib.ListN.{length, take, drop, length-append, length-drop, take-append-drop}
use lib.Seq.{take_at, drop_at, take-append-le, drop-append-le, drop-append-add, length-take-le}
use Rattle.table_index.specs.declared.Lookup.{Lookup}
use Rattle.table_lines.specs.Lines.{Row}
use Rattle.table_index.specs.Indexed.{IndexLeft, Serves}
use Rattle.table_index.proofs.Runs.{left_indexed}
use Rattle.judge_answers.specs.Served.{room, run_of}
use Rattle.judge_lookup.specs.Serving.{Kept}

-- ---- the parts of fs ++ ms ++ bs, where ms is the part of number i
module _ (fs ms bs : List ℕ) (i : ℕ) (a : length fs ≡ i * room) (m : length ms ≡ room) where
  own_part : take room (drop (i * room) (fs ++ (ms ++ bs))) ≡ ms
  own_part = rw (drop_at fs (ms ++ bs) (i * room) a) (take_at ms bs room m)

  part_before : (j : ℕ) → j < i → take room (drop (j * room) (fs ++ (ms ++ bs))) ≡ take room (drop (j * room) fs)
  part_before j h =
      let f : j * room ≤ length fs = omega arith in
      let g : room ≤ length (drop (j * room) fs) = omega (arith, length-drop (j * room) fs) in
      rw (drop-append-le (j * room) fs (ms ++ bs) f) (take-append-le room (drop (j * room) fs) (ms ++ bs) g)

  part_behind : (j : ℕ) → i < j → take room (drop (j * room) (fs ++ (ms ++ bs))) ≡ take room (drop ((j - i - 1) * room) bs)
  part_behind j h =
      let f : j * room ≡ length fs + (length ms + (j - i - 1) * room) = omega arith in
      rw (f, drop-append-add fs (ms ++ bs) (length ms + (j - i - 1) * room), drop-append-add ms bs ((j - i - 1) * room))

-- so a part of another number does not see what the part of number i is
module _ (fs ms ns bs : List ℕ) (i : ℕ) (a : length fs ≡ i * room) (m : length ms ≡ room) (n : length ns ≡ room) (j : ℕ) (d : j ≡ i → ⊥) where
  by_side : (b : Bool) → b ≡ ltb j i → take room (drop (j * room) (fs ++ (ms ++ bs))) ≡ take room (drop (j * room) (fs ++ (ns ++ bs)))
  by_side true e =
      let h : j < i = ltb-true j i (sym e) in
      part_before fs ms bs i a m j h ∙ sym (part_before fs ns bs i a n j h)
  by_side false e =
      let g : i ≤ j = ltb-false j i (sym e) in
      let h : i < j = omega (arith, d) in
      part_behind fs ms bs i a m j h ∙ sym (part_behind fs ns bs i a n j h)

  other_part : take room (drop (j * room) (fs ++ (ms ++ bs))) ≡ take room (drop (j * room) (fs ++ (ns ++ bs)))
  other_part = by_side (ltb j i) refl

-- ---- the run x with ys in the place of its part of number i, as the code lends it
abbrev replaced : List ℕ → ℕ → List ℕ → List ℕ
replaced x i ys = take (i * room) x ++ (ys ++ drop (i * room + room - i * room) (drop (i * room) x))

module _ (x : List ℕ) (i : ℕ) (k : i < 3) (h : 3 * room ≤ length x) where
  wide : i * room + room - i * room ≡ room
  wide = omega arith

  front : length (take (i * room) x) ≡ i * room
  front = length-take-le (i * room) x (omega arith)

  middle : length (take room (drop (i * room) x)) ≡ room
  middle = length-take-le room (drop (i * room) x) (omega (arith, length-drop (i * room) x))

  whole : x ≡ take (i * room) x ++ (take room (drop (i * room) x) ++ drop room (drop (i * room) x))
  whole = rw (take-append-drop room (drop (i * room) x)) (sym (take-append-drop (i * room) x))

  module _ (ys : List ℕ) (l : length ys ≡ length (take (i * room + room - i * room) (drop (i * room) x))) where
    fits : length ys ≡ room
    fits = (rw wide at l) ∙ middle

    same_length : length (replaced x i ys) ≡ length x
    same_length =
        rw wide
        (omega
        (arith, length-append (take (i * room) x) (ys ++ drop room (drop (i * room) x)), length-append ys (drop room (drop (i * room) x)), length-drop room (drop (i * room) x), length-drop (i * room) x, front, fits))

    long : 3 * room ≤ length (replaced x i ys)
    long = rw same_length h

    own : run_of (replaced x i ys) i ≡ ys
    unfolding run_of
    own = rw (le-leb (3 * room) (length (replaced x i ys)) long, wide) (own_part (take (i * room) x) ys (drop room (drop (i * room) x)) i front fits)

    pub others_kept : Kept i x (replaced x i ys)
    unfolding run_of
    others_kept =
        record {
          part = λ j d.
              rw (le-leb (3 * room) (length (replaced x i ys)) long, le-leb (3 * room) (length x) h, wide)
              (other_part (take (i * room) x) ys (take room (drop (i * room) x)) (drop room (drop (i * room) x)) i front fits middle j d
              ∙ rw (← whole));
        }

    pub part_served : (q : Lookup) (keeps : Row → Bool) (s : List ℕ) (at count : ℕ) (zs : List ℕ) → IndexLeft q keeps s at count zs ys → Serves q keeps s at count (run_of (replaced x i ys) i)
    part_served q keeps s at count zs g = record { index = λ _. rw own (left_indexed q keeps s at count zs ys g) }
