-- A section that is written is accepted and read again, and only so.
-- Assumes nothing.
use mathlib.Core.Path.{◌≡◌, refl, sym, ◌∙◌, ap, subst₃}
use mathlib.Core.Bool.{Bool, true, false}
use mathlib.Core.List.{List, ◌∷◌, ◌++◌, append_assoc}
use Prim.Native.Nat.{ℕ, ◌+◌, ◌<◌, ◌≤◌}
use native.Mathlib.Omega.{arith}
use borrow.Author.Tests.{ne_eqb, lt-ltb, ltb-true, le-leb, leb-true}
use lib.Dec.{leb}
use lib.ListN.{length, drop, length-append, length-drop}
use Rattle.text_scan.specs.Choice.{pick}
use Rattle.text_scan.specs.Bytes.{is_digit}
use Rattle.text_scan.specs.Lists.{every}
use Rattle.text_scan.proofs.Tests.{and_left, and_right}
use Rattle.text_numbers.specs.Numbers.{decimal_of}
use Rattle.xml_reader.specs.Limits.{rows_limit}
use Rattle.table_lines.specs.Lines.{Row, other, line_end, has_feed, line_at, rows_at}
use Rattle.table_file.specs.declared.Kind.{Kind}
use Rattle.std.specs.Prelude.{Option, Some, None, Result, Ok, Err}
use Rattle.table_file.specs.declared.Section.{Section}
use Rattle.table_file.specs.declared.BadLine.{BadLine}
use Rattle.table_file.specs.Accepted.{is_count, count_of, refused_at, rows_end, rows_of, counted_at, section_at}
use Rattle.table_join.specs.Written.{decimal, written_rows, written_section, are_good_rows, is_good_section}
use Rattle.table_join.proofs.Lists.{and_both, every_weaker}
use Rattle.table_join.proofs.Decimal.{value_written, digits_written, count_written, count_read, read_most}
use Rattle.table_join.proofs.Lines.{drop_past, line_is, line_next, line_feed, read_line}
use Rattle.table_join.proofs.Rows.{rows_end_lem, rows_at_lem, rows_read}

-- ---- written, and read again
digit_plain : (b : ℕ) → is_digit b ≡ true → other 10 b ≡ true
digit_plain b e =
    let h : 48 ≤ b = leb-true 48 b (and_left (leb 48 b) (leb b 57) e) in
    rw (ne_eqb b 10 (λ f. omega arith))

count_plain : (n : ℕ) → every (other 10) (decimal n) ≡ true
count_plain n = every_weaker is_digit (other 10) digit_plain (decimal n) (digits_written n)

count_of_lem : (n : ℕ) → n ≤ rows_limit → count_of (decimal n) ≡ Some n
unfolding count_of
count_of_lem n h = rw (count_written n h, value_written n)

-- a section by its numbers
abbrev pub placed : ℕ → ℕ → ℕ → Section
placed first count after = record { rows = record { first = first; count = count }; after = after }

same_section : (x y : Section) → ◌≡◌ {A = Result Section BadLine} (Ok x) (Ok y) → x ≡ y
same_section x y e = cc

-- a section that stands at i, with xs behind it
pub record Stands (kind : Kind) (s : List ℕ) (i : ℕ) (rows : List Row) (xs : List ℕ) : Type 0 where
  pub first : ℕ
  pub after : ℕ
  pub section : section_at kind s i ≡ Ok (placed first (length rows) after)
  pub read : rows_at s first (length rows) ≡ rows
  pub behind : drop after s ≡ xs
  pub inside : after ≤ length s

pub section_written : (kind : Kind) (s : List ℕ) (i : ℕ) (rows : List Row) (xs : List ℕ) → is_good_section kind rows ≡ true
    → drop i s ≡ written_section rows ++ xs → Stands kind s i rows xs
section_written kind s i rows xs g e = record {
  first = line_end s i + 1;
  after = line_end s i + 1 + length (written_rows rows);
  section = section;
  read = rows_at_lem kind s rows (line_end s i + 1) xs good next;
  behind = drop_past s (line_end s i + 1) (written_rows rows) xs next;
  inside = omega (arith, feed, length-drop (line_end s i + 1) s, ap length next, length-append (written_rows rows) xs);
}
  where
    line : List ℕ
    line = decimal (length rows)

    most : length rows ≤ rows_limit
    most = leb-true (length rows) rows_limit (and_left (leb (length rows) rows_limit) (are_good_rows kind rows) g)

    good : are_good_rows kind rows ≡ true
    good = and_right (leb (length rows) rows_limit) (are_good_rows kind rows) g

    here : drop i s ≡ line ++ 10 ∷ (written_rows rows ++ xs)
    here = unfold written_section in e ∙ append_assoc line (10 ∷ written_rows rows) xs

    next : drop (line_end s i + 1) s ≡ written_rows rows ++ xs
    next = line_next s i line (written_rows rows ++ xs) here (count_plain (length rows))

    feed : line_end s i < length s
    feed = line_feed s i line (written_rows rows ++ xs) here (count_plain (length rows))

    is : line_at s i ≡ line
    is = line_is s i line (written_rows rows ++ xs) here (count_plain (length rows))

    section : section_at kind s i ≡ Ok (placed (line_end s i + 1) (length rows) (line_end s i + 1 + length (written_rows rows)))
    section =
        unfold section_at in
        rw (lt-ltb (line_end s i) (length s) feed, is, count_of_lem (length rows) most, rows_end_lem kind s rows (line_end s i + 1) xs good next)

-- ---- read, and written again
pub record Came (kind : Kind) (s : List ℕ) (i first count after : ℕ) : Type 0 where
  pub good : is_good_section kind (rows_at s first count) ≡ true
  pub many : length (rows_at s first count) ≡ count
  pub text : drop i s ≡ written_section (rows_at s first count) ++ drop after s

-- a line that says a count is that count
count_said : (line : List ℕ) (n : ℕ) → count_of line ≡ Some n → (n ≤ rows_limit) × (line ≡ decimal n)
unfolding count_of
count_said line n e = go (is_count line) refl e
  where
    go : (t : Bool) → is_count line ≡ t → pick t (Some (decimal_of line)) None ≡ Some n → (n ≤ rows_limit) × (line ≡ decimal n)
    go true q f =
        let v : decimal_of line ≡ n = cc in
        (omega (arith, read_most line q), sym (ap decimal (sym v) ∙ count_read line q))
    go false q f = absurd (let z : ◌≡◌ {A = ℕ} 0 1 = cc in omega arith)

module _ (kind : Kind) (s : List ℕ) (i : ℕ) where
  came : (n j : ℕ) → line_end s i < length s → count_of (line_at s i) ≡ Some n → rows_end kind s (line_end s i + 1) n ≡ Ok j → Came kind s i (line_end s i + 1) n j
  unfolding written_section
  came n j h c e =
      let r = rows_read kind s n (line_end s i + 1) j e in
      let d = count_said (line_at s i) n c in
      record {
        good = and_both (leb (length (rows_at s (line_end s i + 1) n)) rows_limit) (are_good_rows kind (rows_at s (line_end s i + 1) n)) (rw r.many (le-leb n rows_limit d.0)) r.good;
        many = r.many;
        text =
            rw (r.many, ← d.1)
            (read_line s i h
            ∙ ap (λ (l : List ℕ). line_at s i ++ 10 ∷ l) r.text
            ∙ sym (append_assoc (line_at s i) (10 ∷ written_rows (rows_at s (line_end s i + 1) n)) (drop j s)));
      }

  from_rows : (n : ℕ) (y : Result ℕ BadLine) → rows_end kind s (line_end s i + 1) n ≡ y → line_end s i < length s → count_of (line_at s i) ≡ Some n
      → (first count after : ℕ) → rows_of (line_end s i + 1) n y ≡ Ok (placed first count after) → Came kind s i first count after
  from_rows n (Ok j) e h c first count after f =
      let g = same_section (placed (line_end s i + 1) n j) (placed first count after) f in
      let p : line_end s i + 1 ≡ first = ap (λ (x : Section). x.rows.first) g in
      let q : n ≡ count = ap (λ (x : Section). x.rows.count) g in
      let r : j ≡ after = ap (λ (x : Section). x.after) g in
      subst₃ (Came kind s i) p q r (came n j h c e)
  from_rows n (Err p) e h c first count after f = absurd (let z : ◌≡◌ {A = ℕ} 0 1 = cc in omega arith)

  from_count : (x : Option ℕ) → count_of (line_at s i) ≡ x → line_end s i < length s
      → (first count after : ℕ) → counted_at kind s i x ≡ Ok (placed first count after) → Came kind s i first count after
  from_count (Some n) c h first count after f = from_rows n (rows_end kind s (line_end s i + 1) n) refl h c first count after f
  from_count None c h first count after f = absurd (let z : ◌≡◌ {A = ℕ} 0 1 = cc in omega arith)

  pub section_read : (first count after : ℕ) → section_at kind s i ≡ Ok (placed first count after) → Came kind s i first count after
  unfolding section_at
  section_read first count after e = go (has_feed s i) refl e
    where
      go : (t : Bool) → has_feed s i ≡ t → pick t (counted_at kind s i (count_of (line_at s i))) (Err (refused_at (length s))) ≡ Ok (placed first count after)
          → Came kind s i first count after
      go true q f = from_count (count_of (line_at s i)) refl (ltb-true (line_end s i) (length s) q) first count after f
      go false q f = absurd (let z : ◌≡◌ {A = ℕ} 0 1 = cc in omega arith)
