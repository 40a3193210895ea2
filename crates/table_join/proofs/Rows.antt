-- Rows that are written are accepted and read again, and only so.
-- Assumes nothing.
use mathlib.Core.Path.{◌≡◌, refl, sym, ◌∙◌, ap}
use mathlib.Core.Bool.{Bool, true, false}
use mathlib.Core.List.{List, [], ◌∷◌, ◌++◌, append_assoc}
use Prim.Native.Nat.{ℕ, zero, suc, ◌+◌, ◌<◌}
use native.Mathlib.Omega.{arith}
use borrow.Author.Tests.{lt-ltb, ltb-true}
use lib.ListN.{length, drop, length-append}
use Rattle.text_scan.specs.Choice.{pick}
use Rattle.text_scan.specs.Lists.{every}
use Rattle.text_scan.proofs.Tests.{and_left, and_right}
use Rattle.text_scan.proofs.Lists.{run_least}
use Rattle.table_lines.specs.Lines.{Row, other, line_end, has_feed, line_at, fields_of, rows_at}
use Rattle.table_file.specs.declared.Kind.{Kind}
use Rattle.std.specs.Prelude.{Ok, Err}
use Rattle.table_file.specs.Accepted.{is_row, refused_at, rows_end}
use Rattle.table_join.specs.Written.{line_of, written_rows, is_good_row, are_good_rows}
use Rattle.table_join.proofs.Lists.{and_both}
use Rattle.table_join.proofs.Fields.{line_written, good_plain, row_written, fields_written, good_some, line_read, row_read}
use Rattle.table_join.proofs.Lines.{line_ends, line_is, line_next, line_feed, read_line, read_plain}

-- ---- written, and read again
module _ (kind : Kind) (s : List ℕ) where
  -- the first row of those that are written at i
  module _ (row : Row) (rows : List Row) (i : ℕ) (xs : List ℕ) (g : is_good_row kind row ≡ true) (e : drop i s ≡ written_rows (row ∷ rows) ++ xs) where
    at_row : drop i s ≡ line_of row ++ 10 ∷ (written_rows rows ++ xs)
    unfolding written_rows
    at_row = e ∙ append_assoc (line_of row) (10 ∷ written_rows rows) xs

    plain : every (other 10) (line_of row) ≡ true
    plain = line_written row (good_plain kind row g)

    ends_here : line_end s i ≡ i + length (line_of row)
    ends_here = line_ends s i (line_of row) (written_rows rows ++ xs) at_row plain

    row_here : line_at s i ≡ line_of row
    row_here = line_is s i (line_of row) (written_rows rows ++ xs) at_row plain

    next_row : drop (line_end s i + 1) s ≡ written_rows rows ++ xs
    next_row = line_next s i (line_of row) (written_rows rows ++ xs) at_row plain

    feed_here : line_end s i < length s
    feed_here = line_feed s i (line_of row) (written_rows rows ++ xs) at_row plain

    long : i + length (written_rows (row ∷ rows)) ≡ line_end s i + 1 + length (written_rows rows)
    unfolding written_rows
    long = omega (arith, ends_here, length-append (line_of row) (10 ∷ written_rows rows))

  pub rows_end_lem : (rows : List Row) (i : ℕ) (xs : List ℕ) → are_good_rows kind rows ≡ true → drop i s ≡ written_rows rows ++ xs
      → rows_end kind s i (length rows) ≡ Ok (i + length (written_rows rows))
  unfolding are_good_rows rows_end
  rows_end_lem [] i xs g e =
      let z : i + length (written_rows []) ≡ i = unfold written_rows in omega arith in
      rw z
  rows_end_lem (row ∷ rows) i xs g e =
      let r = and_left (is_good_row kind row) (are_good_rows kind rows) g in
      let rs = and_right (is_good_row kind row) (are_good_rows kind rows) g in
      rw (lt-ltb (line_end s i) (length s) (feed_here row rows i xs r e), row_here row rows i xs r e, row_written kind row r, long row rows i xs r e)
      (rows_end_lem rows (line_end s i + 1) xs rs (next_row row rows i xs r e))

  pub rows_at_lem : (rows : List Row) (i : ℕ) (xs : List ℕ) → are_good_rows kind rows ≡ true → drop i s ≡ written_rows rows ++ xs
      → rows_at s i (length rows) ≡ rows
  unfolding are_good_rows rows_at
  rows_at_lem [] i xs g e = refl
  rows_at_lem (row ∷ rows) i xs g e =
      let r = and_left (is_good_row kind row) (are_good_rows kind rows) g in
      let rs = and_right (is_good_row kind row) (are_good_rows kind rows) g in
      let h : i < length s = omega (arith, ends_here row rows i xs r e, feed_here row rows i xs r e) in
      rw (lt-ltb i (length s) h, row_here row rows i xs r e, fields_written row (good_some kind row r) (good_plain kind row r))
      (ap (λ (l : List Row). row ∷ l) (rows_at_lem rows (line_end s i + 1) xs rs (next_row row rows i xs r e)))

-- ---- read, and written again
pub record Read (kind : Kind) (s : List ℕ) (i n j : ℕ) : Type 0 where
  pub good : are_good_rows kind (rows_at s i n) ≡ true
  pub many : length (rows_at s i n) ≡ n
  pub text : drop i s ≡ written_rows (rows_at s i n) ++ drop j s

module _ (kind : Kind) (s : List ℕ) where
  rows_more : (n i : ℕ) → line_end s i < length s → rows_at s i (suc n) ≡ fields_of (line_at s i) ∷ rows_at s (line_end s i + 1) n
  unfolding rows_at
  rows_more n i h =
      let p : i < length s = omega (arith, run_least (other 10) s i) in
      rw (lt-ltb i (length s) p)

  read_row : (n i j : ℕ) → line_end s i < length s → is_row kind (line_at s i) ≡ true → Read kind s (line_end s i + 1) n j → Read kind s i (suc n) j
  unfolding are_good_rows written_rows
  read_row n i j h g r = record {
    good =
        rw (rows_more n i h)
        (and_both (is_good_row kind (fields_of (line_at s i))) (are_good_rows kind (rows_at s (line_end s i + 1) n)) (row_read kind (line_at s i) (read_plain s i) g) r.good);
    many = rw (rows_more n i h) (ap suc r.many);
    text =
        rw (rows_more n i h, line_read (line_at s i))
        (read_line s i h
        ∙ ap (λ (l : List ℕ). line_at s i ++ 10 ∷ l) r.text
        ∙ sym (append_assoc (line_at s i) (10 ∷ written_rows (rows_at s (line_end s i + 1) n)) (drop j s)));
  }

  pub rows_read : (n i j : ℕ) → rows_end kind s i n ≡ Ok j → Read kind s i n j
  unfolding rows_end rows_at are_good_rows written_rows
  rows_read zero i j e =
      let z : i ≡ j = cc in
      record { good = refl; many = refl; text = rw z }
  rows_read (suc n) i j e = go (has_feed s i) refl (is_row kind (line_at s i)) refl e (rows_read n (line_end s i + 1) j)
    where
      go : (t : Bool) → has_feed s i ≡ t → (u : Bool) → is_row kind (line_at s i) ≡ u
          → pick t (pick u (rows_end kind s (line_end s i + 1) n) (Err (refused_at i))) (Err (refused_at (length s))) ≡ Ok j
          → (rows_end kind s (line_end s i + 1) n ≡ Ok j → Read kind s (line_end s i + 1) n j)
          → Read kind s i (suc n) j
      go true p true q f r = read_row n i j (ltb-true (line_end s i) (length s) p) q (r f)
      go true p false q f r = absurd (let z : ◌≡◌ {A = ℕ} 0 1 = cc in omega arith)
      go false p u q f r = absurd (let z : ◌≡◌ {A = ℕ} 0 1 = cc in omega arith)
