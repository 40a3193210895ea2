-- Rows in a row, a section, and the whole file.
-- Assumes nothing.
use mathlib.Core.Path.{◌≡◌, sym, ◌∙◌, ap}
use mathlib.Core.Bool.{Bool, true, false}
use mathlib.Core.List.{List}
use Prim.Native.Nat.{ℕ, suc, ◌+◌, ◌-◌, ◌<◌, ◌≤◌}
use native.Mathlib.Omega.{arith}
use borrow.Author.Tests.{eq-eqb, ne_eqb, lt-ltb, le-ltb}
use lib.ListN.{length, take, drop}
use Rattle.table_lines.specs.Lines.{line_end}
use Rattle.table_file.specs.declared.Kind.{Kind}
use Rattle.table_file.specs.declared.Section.{Section}
use Rattle.table_file.specs.declared.BadLine.{BadLine}
use Rattle.std.specs.Prelude.{Option, Some, None, Ok, Err}
use Rattle.table_file.specs.Accepted.{is_row, count_of, refused_at, rows_end, section_at, accepted}

-- ---- rows
-- the end, told from `at`, is that told from i, where k rows are passed
abbrev pub InRows : Kind → List ℕ → ℕ → ℕ → ℕ → ℕ → Type 0
InRows kind s at n i k = rows_end kind s at n ≡ rows_end kind s i (n - k)

module _ (kind : Kind) (s : List ℕ) (at n i k : ℕ) (l : InRows kind s at n i k) where
  pub rows_done : n ≤ k → Ok i ≡ rows_end kind s at n
  unfolding rows_end
  rows_done h =
      let z : n - k ≡ 0 = omega arith in
      sym (l ∙ rw z)

  module _ (h : k < n) (e : ℕ) (q : e ≡ line_end s i) where
    more : n - k ≡ suc (n - (k + 1))
    more = omega arith

    pub rows_no_feed : length s ≤ e → Err (refused_at (length s)) ≡ rows_end kind s at n
    unfolding rows_end
    rows_no_feed g = sym (l ∙ rw (more, ← q, le-ltb e (length s) g))

    module _ (g : e < length s) (t : Bool) (r : t ≡ is_row kind (take (e - i) (drop i s))) where
      pub rows_on : t ≡ true → InRows kind s at n (e + 1) (k + 1)
      unfolding rows_end
      rows_on f = l ∙ ap (rows_end kind s i) more ∙ rw (← q, lt-ltb e (length s) g, ← r, f)

      pub rows_bad : t ≡ false → Err (refused_at i) ≡ rows_end kind s at n
      unfolding rows_end
      rows_bad f = sym (l ∙ ap (rows_end kind s i) more ∙ rw (← q, lt-ltb e (length s) g, ← r, f))

-- ---- a section
module _ (kind : Kind) (s : List ℕ) (at e : ℕ) (q : e ≡ line_end s at) where
  pub section_no_feed : length s ≤ e → Err (refused_at (length s)) ≡ section_at kind s at
  unfolding section_at
  section_no_feed g = rw (← q, le-ltb e (length s) g)

  module _ (g : e < length s) (x : Option ℕ) (r : x ≡ count_of (take (e - at) (drop at s))) where
    pub section_bad : x ≡ None → Err (refused_at at) ≡ section_at kind s at
    unfolding section_at
    section_bad f = rw (← q, lt-ltb e (length s) g, ← r, f)

    module _ (n : ℕ) (f : x ≡ Some n) where
      pub section_rows : (i : ℕ) → Ok i ≡ rows_end kind s (e + 1) n → Ok (record { rows = record { first = e + 1; count = n }; after = i }) ≡ section_at kind s at
      unfolding section_at
      section_rows i v = rw (← q, lt-ltb e (length s) g, ← r, f, ← q, ← v)

      pub section_refused : (i : BadLine) → Err i ≡ rows_end kind s (e + 1) n → Err i ≡ section_at kind s at
      unfolding section_at
      section_refused i v = rw (← q, lt-ltb e (length s) g, ← r, f, ← q, ← v)

-- ---- the file
module _ (s : List ℕ) where
  pub no_code_list : (p : BadLine) → Err p ≡ section_at Kind.CodeList s 0 → Err p ≡ accepted s
  unfolding accepted
  no_code_list p e = rw (← e)

  module _ (c : Section) (ec : Ok c ≡ section_at Kind.CodeList s 0) where
    pub no_register : (p : BadLine) → Err p ≡ section_at Kind.Register s c.after → Err p ≡ accepted s
    unfolding accepted
    no_register p e = rw (← ec, ← e)

    module _ (r : Section) (er : Ok r ≡ section_at Kind.Register s c.after) where
      pub no_history : (p : BadLine) → Err p ≡ section_at Kind.History s r.after → Err p ≡ accepted s
      unfolding accepted
      no_history p e = rw (← ec, ← er, ← e)

      module _ (h : Section) (eh : Ok h ≡ section_at Kind.History s r.after) where
        pub not_all : (h.after ≡ length s → ⊥) → Err (refused_at h.after) ≡ accepted s
        unfolding accepted
        not_all g = rw (← ec, ← er, ← eh, ne_eqb h.after (length s) g)

        pub all : h.after ≡ length s → Ok (record { codes = c.rows; names = r.rows; history = h.rows }) ≡ accepted s
        unfolding accepted
        all g = rw (← ec, ← er, ← eh, eq-eqb h.after (length s) g)
