-- Two accepted files whose joined counts stay within bounds have one joined file, and it is accepted.
-- Assumes nothing.
use mathlib.Core.Path.{◌≡◌, sym, ◌∙◌, ap}
use mathlib.Core.Bool.{true}
use mathlib.Core.List.{List, [], ◌∷◌, ◌++◌, append_assoc}
use Prim.Native.Nat.{ℕ, ◌+◌, ◌≤◌}
use native.Mathlib.Omega.{arith}
use borrow.Author.Tests.{le-leb, leb-true}
use lib.Dec.{leb}
use lib.ListN.{length, length-append}
use Rattle.text_scan.proofs.Tests.{and_left, and_right}
use Rattle.xml_reader.specs.Limits.{rows_limit}
use Rattle.table_lines.specs.Lines.{Row}
use Rattle.table_file.specs.declared.Kind.{Kind}
use Rattle.table_file.specs.Accepted.{Tables, tables_of, is_accepted}
use Rattle.table_join.specs.Written.{written, is_good_row, are_good_rows, is_good_section, is_good}
use Rattle.table_join.specs.Joins.{join, Joins, Fit, joined}
use Rattle.table_join.proofs.Lists.{and_both}
use Rattle.table_join.proofs.Files.{codes_good, names_good, history_good, written_accepted, written_tables, accepted_good, accepted_written}

good_rows : (kind : Kind) (a b : List Row) → are_good_rows kind a ≡ true → are_good_rows kind b ≡ true → are_good_rows kind (a ++ b) ≡ true
unfolding are_good_rows
good_rows kind [] b p q = q
good_rows kind (row ∷ a) b p q =
    and_both (is_good_row kind row) (are_good_rows kind (a ++ b)) (and_left (is_good_row kind row) (are_good_rows kind a) p)
    (good_rows kind a b (and_right (is_good_row kind row) (are_good_rows kind a) p) q)

good_section : (kind : Kind) (a b : List Row) → is_good_section kind a ≡ true → is_good_section kind b ≡ true → length a + length b ≤ rows_limit
    → is_good_section kind (a ++ b) ≡ true
good_section kind a b p q h =
    and_both (leb (length (a ++ b)) rows_limit) (are_good_rows kind (a ++ b)) (rw (length-append a b) (le-leb (length a + length b) rows_limit h))
    (good_rows kind a b (and_right (leb (length a) rows_limit) (are_good_rows kind a) p) (and_right (leb (length b) rows_limit) (are_good_rows kind b) q))

-- good tables within bounds join to good tables
pub join_good : (a b : Tables) → is_good a ≡ true → is_good b ≡ true → Fit a b → is_good (join a b) ≡ true
unfolding is_good
join_good a b p q f =
    rw (
      good_section Kind.CodeList a.codes b.codes (codes_good a p) (codes_good b q) f.codes,
      good_section Kind.Register a.names b.names (names_good a p) (names_good b q) f.names,
      good_section Kind.History a.history b.history (history_good a p) (history_good b q) f.history,
    )

-- the joined file is accepted, with the first file's rows before the second's in each section
pub joined_joins : (a b : List ℕ) → is_accepted a ≡ true → is_accepted b ≡ true → Fit (tables_of a) (tables_of b) → Joins (joined a b) a b
unfolding joined
joined_joins a b p q f =
    let g = join_good (tables_of a) (tables_of b) (accepted_good a p) (accepted_good b q) f in
    record {
      first = p;
      second = q;
      whole = written_accepted (join (tables_of a) (tables_of b)) g;
      rows = written_tables (join (tables_of a) (tables_of b)) g;
    }

-- and no other file joins the two
pub joins_only : (c a b : List ℕ) → Joins c a b → c ≡ joined a b
unfolding joined
joins_only c a b j = sym (accepted_written c j.whole) ∙ ap written j.rows

-- two files with the same tables are the same
pub tables_only : (a b : List ℕ) → is_accepted a ≡ true → is_accepted b ≡ true → tables_of a ≡ tables_of b → a ≡ b
tables_only a b p q e = sym (accepted_written a p) ∙ ap written e ∙ accepted_written b q

-- joining is associative
pub join_grouped : (a b c : Tables) → join (join a b) c ≡ join a (join b c)
join_grouped a b c =
    rw (append_assoc a.codes b.codes c.codes, append_assoc a.names b.names c.names, append_assoc a.history b.history c.history)

-- the bounds are needed: of files that join, the joined counts stay within them
section_fits : (kind : Kind) (c a b : List Row) → is_good_section kind c ≡ true → c ≡ a ++ b → length a + length b ≤ rows_limit
section_fits kind c a b g e =
    omega (arith, leb-true (length c) rows_limit (and_left (leb (length c) rows_limit) (are_good_rows kind c) g), ap length e, length-append a b)

pub joins_fit : (c a b : List ℕ) → Joins c a b → Fit (tables_of a) (tables_of b)
joins_fit c a b j =
    let g = accepted_good c j.whole in
    record {
      codes = section_fits Kind.CodeList (tables_of c).codes (tables_of a).codes (tables_of b).codes (codes_good (tables_of c) g) (ap (λ (t : Tables). t.codes) j.rows);
      names = section_fits Kind.Register (tables_of c).names (tables_of a).names (tables_of b).names (names_good (tables_of c) g) (ap (λ (t : Tables). t.names) j.rows);
      history = section_fits Kind.History (tables_of c).history (tables_of a).history (tables_of b).history (history_good (tables_of c) g) (ap (λ (t : Tables). t.history) j.rows);
    }
