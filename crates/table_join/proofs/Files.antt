-- A file that is written is accepted with just its tables, and each accepted file is the one that is written of its tables.
-- Assumes nothing.
use mathlib.Core.Path.{◌≡◌, refl, sym, ◌∙◌, ap}
use mathlib.Core.Bool.{Bool, true, false}
use mathlib.Core.List.{List, [], ◌++◌, append-nil}
use Prim.Native.Nat.{ℕ}
use native.Mathlib.Omega.{arith}
use borrow.Author.Tests.{eq-eqb, eqb-true}
use lib.Dec.{eqb}
use lib.ListN.{length, drop, length-drop}
use lib.Seq.{drop-length}
use Rattle.text_scan.specs.Choice.{pick, ◌and◌}
use Rattle.text_scan.proofs.Tests.{never, and_left, and_right}
use Rattle.table_lines.specs.Lines.{rows_at}
use Rattle.table_file.specs.declared.Kind.{Kind}
use Rattle.table_file.specs.declared.Section.{Section}
use Rattle.table_file.specs.declared.BadLine.{BadLine}
use Rattle.std.specs.Prelude.{Result, Ok, Err}
use Rattle.table_file.specs.Accepted.{refused_at, rows_in, section_at, after_code_list, after_register, after_history, accepted, Tables, tables_in, tables_of, is_tables, is_accepted}
use Rattle.table_join.specs.Written.{written_section, written, is_good_section, is_good}
use Rattle.table_join.proofs.Sections.{placed, Stands, section_written, Came, section_read}

-- ---- written, and read again
module _ (t : Tables) (g : is_good t ≡ true) where
  pub codes_good : is_good_section Kind.CodeList t.codes ≡ true
  unfolding is_good
  codes_good =
      and_left (is_good_section Kind.CodeList t.codes) (is_good_section Kind.Register t.names and is_good_section Kind.History t.history) g

  others_good : is_good_section Kind.Register t.names and is_good_section Kind.History t.history ≡ true
  unfolding is_good
  others_good =
      and_right (is_good_section Kind.CodeList t.codes) (is_good_section Kind.Register t.names and is_good_section Kind.History t.history) g

  pub names_good : is_good_section Kind.Register t.names ≡ true
  names_good = and_left (is_good_section Kind.Register t.names) (is_good_section Kind.History t.history) others_good

  pub history_good : is_good_section Kind.History t.history ≡ true
  history_good = and_right (is_good_section Kind.Register t.names) (is_good_section Kind.History t.history) others_good

  one : Stands Kind.CodeList (written t) 0 t.codes (written_section t.names ++ written_section t.history)
  one = section_written Kind.CodeList (written t) 0 t.codes (written_section t.names ++ written_section t.history) codes_good (unfold written in refl)

  two : Stands Kind.Register (written t) one.after t.names (written_section t.history)
  two = section_written Kind.Register (written t) one.after t.names (written_section t.history) names_good one.behind

  three : Stands Kind.History (written t) two.after t.history []
  three =
      section_written Kind.History (written t) two.after t.history [] history_good
      (two.behind ∙ sym (append-nil (written_section t.history)))

  ends : three.after ≡ length (written t)
  ends = omega (arith, three.inside, length-drop three.after (written t), ap length three.behind)

  told : accepted (written t) ≡ Ok (record {
    codes = record { first = one.first; count = length t.codes };
    names = record { first = two.first; count = length t.names };
    history = record { first = three.first; count = length t.history };
  })
  unfolding accepted
  told = rw (one.section, two.section, three.section, eq-eqb three.after (length (written t)) ends)

  pub written_accepted : is_accepted (written t) ≡ true
  unfolding is_accepted
  written_accepted = rw told

  pub written_tables : tables_of (written t) ≡ t
  unfolding tables_of
  written_tables = rw (told, one.read, two.read, three.read)

-- ---- read, and written again
-- where the sections of an accepted file stand
record Parts (s : List ℕ) : Type 0 where
  pub codes : Section
  pub names : Section
  pub history : Section
  pub first : section_at Kind.CodeList s 0 ≡ Ok codes
  pub second : section_at Kind.Register s codes.after ≡ Ok names
  pub third : section_at Kind.History s names.after ≡ Ok history
  pub whole : history.after ≡ length s

module _ (s : List ℕ) where
  in_third : (c r : Section) → section_at Kind.CodeList s 0 ≡ Ok c → section_at Kind.Register s c.after ≡ Ok r
      → (z : Result Section BadLine) → section_at Kind.History s r.after ≡ z → is_tables (after_history s c r z) ≡ true → Parts s
  in_third c r p q (Err k) g e = never (sym e)
  in_third c r p q (Ok h) g e = go (eqb h.after (length s)) refl e
    where
      go : (t : Bool) → eqb h.after (length s) ≡ t → is_tables (pick t (Ok (record { codes = c.rows; names = r.rows; history = h.rows })) (Err (refused_at h.after))) ≡ true → Parts s
      go true f d = record { codes = c; names = r; history = h; first = p; second = q; third = g; whole = eqb-true h.after (length s) f }
      go false f d = never (sym d)

  in_second_lem : (c : Section) → section_at Kind.CodeList s 0 ≡ Ok c
      → (y : Result Section BadLine) → section_at Kind.Register s c.after ≡ y → is_tables (after_register s c y) ≡ true → Parts s
  in_second_lem c p (Err k) q e = never (sym e)
  in_second_lem c p (Ok r) q e = in_third c r p q (section_at Kind.History s r.after) refl e

  in_first_lem : (x : Result Section BadLine) → section_at Kind.CodeList s 0 ≡ x → is_tables (after_code_list s x) ≡ true → Parts s
  in_first_lem (Err k) p e = never (sym e)
  in_first_lem (Ok c) p e = in_second_lem c p (section_at Kind.Register s c.after) refl e

  parts : is_accepted s ≡ true → Parts s
  unfolding is_accepted accepted
  parts e = in_first_lem (section_at Kind.CodeList s 0) refl e

module _ (s : List ℕ) (e : is_accepted s ≡ true) where
  p : Parts s
  p = parts s e

  told_accepted : accepted s ≡ Ok (record { codes = p.codes.rows; names = p.names.rows; history = p.history.rows })
  unfolding accepted
  told_accepted = rw (p.first, p.second, p.third, eq-eqb p.history.after (length s) p.whole)

  tables : tables_of s ≡ tables_in s (Ok (record { codes = p.codes.rows; names = p.names.rows; history = p.history.rows }))
  unfolding tables_of
  tables = rw told_accepted

  codes_came : Came Kind.CodeList s 0 p.codes.rows.first p.codes.rows.count p.codes.after
  codes_came = section_read Kind.CodeList s 0 p.codes.rows.first p.codes.rows.count p.codes.after p.first

  names_came : Came Kind.Register s p.codes.after p.names.rows.first p.names.rows.count p.names.after
  names_came = section_read Kind.Register s p.codes.after p.names.rows.first p.names.rows.count p.names.after p.second

  history_came : Came Kind.History s p.names.after p.history.rows.first p.history.rows.count p.history.after
  history_came = section_read Kind.History s p.names.after p.history.rows.first p.history.rows.count p.history.after p.third

  pub accepted_good : is_good (tables_of s) ≡ true
  unfolding is_good
  accepted_good =
      rw (tables, codes_came.good, names_came.good, history_came.good)

  pub accepted_written : written (tables_of s) ≡ s
  unfolding written
  accepted_written =
      rw tables
      (sym (codes_came.text
      ∙ ap (λ (l : List ℕ). written_section (rows_in s p.codes.rows) ++ l)
      (names_came.text
      ∙ ap (λ (l : List ℕ). written_section (rows_in s p.names.rows) ++ l)
      (history_came.text
      ∙ ap (λ (l : List ℕ). written_section (rows_in s p.history.rows) ++ l) (ap (λ (k : ℕ). drop k s) p.whole ∙ drop-length s)
      ∙ append-nil (written_section (rows_in s p.history.rows))))))
