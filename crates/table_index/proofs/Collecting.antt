-- The places of the rows that are kept are put one after another: those that are put so far, and behind them those of the rows that are left, are all of
-- them. They have the keys of these rows.
-- Assumes nothing.
use mathlib.Core.Path.{◌≡◌, refl, sym, ◌∙◌, ap}
use mathlib.Core.Bool.{Bool, true, false}
use mathlib.Core.List.{List, [], ◌∷◌, ◌++◌, append-nil}
use Prim.Native.Nat.{ℕ, zero, suc, ◌+◌, ◌-◌, ◌<◌, ◌≤◌}
use native.Mathlib.Numerals.{add-one}
use native.Mathlib.Omega.{arith}
use borrow.Author.Tests.{lt-ltb, le-ltb}
use lib.Dec.{eqb, ltb}
use lib.ListN.{length, take, drop, set, take-append-drop}
use lib.Seq.{length-take-le, append_snoc, take-suc-set, drop-set-lt, drop-drop}
use Rattle.text_scan.specs.Choice.{pick, ◌or◌, ◌and◌}
use Rattle.text_scan.specs.Lists.{some, pairs}
use Rattle.table_lines.specs.Lines.{Row, fields_of, line_end, line_at, rows_at}
use Rattle.table_rows.specs.Rows.{some_row}
use Rattle.table_index.specs.declared.Lookup.{Lookup}
use Rattle.table_index.specs.Indexed.{key_of, has_key, is_key_of, key_place, places_at, Collected}
use Rattle.table_index.proofs.RowKeys.{row_key_lem}

module _ (q : Lookup) (keeps : Row → Bool) (s : List ℕ) where
  -- ---- the keys of the places are those of the rows
  row_or_place : (k : List ℕ) (i : ℕ) (u : Bool) (ps : List ℕ) → u ≡ some (is_key_of q s k) ps → has_key q keeps k (fields_of (line_at s i)) or u ≡ some (is_key_of q s k) (pick (keeps (fields_of (line_at s i))) (key_place q s i ∷ []) [] ++ ps)
  unfolding some
  row_or_place k i u ps e = go (keeps (fields_of (line_at s i)))
    where
      go : (t : Bool) → (t and pairs eqb (key_of q (fields_of (line_at s i))) k) or u ≡ some (is_key_of q s k) (pick t (key_place q s i ∷ []) [] ++ ps)
      go true = rw (row_key_lem q s i, e)
      go false = e

  same_keys : (k : List ℕ) (i n : ℕ) → some_row (has_key q keeps k) (rows_at s i n) ≡ some (is_key_of q s k) (places_at q keeps s i n)
  unfolding rows_at some_row places_at some
  same_keys k i zero = refl
  same_keys k i (suc n) = go (ltb i (length s)) (same_keys k (line_end s i + 1) n)
    where
      go : (t : Bool) → some_row (has_key q keeps k) (rows_at s (line_end s i + 1) n) ≡ some (is_key_of q s k) (places_at q keeps s (line_end s i + 1) n)
          → some_row (has_key q keeps k) (pick t (fields_of (line_at s i) ∷ rows_at s (line_end s i + 1) n) []) ≡ some (is_key_of q s k) (pick t (pick (keeps (fields_of (line_at s i))) (key_place q s i ∷ []) [] ++ places_at q keeps s (line_end s i + 1) n) [])
      go true e = row_or_place k i (some_row (has_key q keeps k) (rows_at s (line_end s i + 1) n)) (places_at q keeps s (line_end s i + 1) n) e
      go false e = refl

  pub collected : (at count : ℕ) → Collected q keeps s at count (places_at q keeps s at count)
  collected at count = record { same = λ k. same_keys k at count }

  -- ---- the places of the rows that are left
  module _ (i m : ℕ) where
    none_left : m ≤ 0 → places_at q keeps s i m ≡ []
    unfolding places_at
    none_left h =
        let z : m ≡ 0 = omega arith in
        rw z

    module _ (h : 0 < m) where
      more : m ≡ suc (m - 1)
      more = omega arith

      past_end : length s ≤ i → places_at q keeps s i m ≡ []
      unfolding places_at
      past_end g = rw (more, le-ltb i (length s) g)

      next_place : i < length s → (e : ℕ) → e ≡ line_end s i → (t : Bool) → t ≡ keeps (fields_of (take (e - i) (drop i s))) → places_at q keeps s i m ≡ pick t (key_place q s i ∷ []) [] ++ places_at q keeps s (e + 1) (m - 1)
      unfolding places_at
      next_place g e f t r = ap (places_at q keeps s i) more ∙ rw (lt-ltb i (length s) g, ← f, ← r)

  -- ---- the loop: n places stand in front of the run, behind them what stood there, and of the rows those from i on are left
  module _ (at count : ℕ) (run₀ : List ℕ) where
    pub record Collecting (run : List ℕ) (n i left : ℕ) : Type 0 where
      pub told : places_at q keeps s at count ≡ take n run ++ places_at q keeps s i left
      pub behind : drop n run ≡ drop n run₀

    pub collect_starts : Collecting run₀ 0 at (count - 0)
    collect_starts =
        let z : count - 0 ≡ count = omega arith in
        rw z record { told = refl; behind = refl }

    module _ (run : List ℕ) (n i k : ℕ) (l : Collecting run n i (count - k)) (u : length run ≡ length run₀) (v : count ≤ length run₀) (w : n ≤ k) where
      abbrev Ends : Type 0
      Ends = (n ≤ count) × (n ≡ length (places_at q keeps s at count)) × (run ≡ places_at q keeps s at count ++ drop n run₀)

      ends : n ≤ count → places_at q keeps s i (count - k) ≡ [] → Ends
      ends o f =
          let e : places_at q keeps s at count ≡ take n run = l.told ∙ rw f (append-nil (take n run)) in
          (omega arith, rw e (sym (length-take-le n run (omega arith))), rw (e, ← l.behind) (sym (take-append-drop n run)))

      pub collect_over : count ≤ k → k ≤ count → Ends
      collect_over h m = ends (omega arith) (none_left i (count - k) (omega arith))

      module _ (h : k < count) where
        left : 0 < count - k
        left = omega arith

        one_less : count - k - 1 ≡ count - (k + 1)
        one_less = omega arith

        pub collect_past : length s ≤ i → Ends
        collect_past g = ends (omega arith) (past_end i (count - k) left g)

        module _ (g : i < length s) (e : ℕ) (f : e ≡ line_end s i) (t : Bool) (r : t ≡ keeps (fields_of (take (e - i) (drop i s)))) where
          pub collect_passes : t ≡ false → Collecting run n (e + 1) (count - (k + 1))
          collect_passes z =
              let a : places_at q keeps s i (count - k) ≡ places_at q keeps s (e + 1) (count - (k + 1)) = rw one_less at (next_place i (count - k) left g e f t r) ∙ rw z in
              record { told = l.told ∙ rw a; behind = l.behind }

          pub collect_puts : t ≡ true → (p : ℕ) → p ≡ key_place q s i → Collecting (set run n p) (n + 1) (e + 1) (count - (k + 1))
          collect_puts z p j =
              let m : n < length run = omega arith in
              let b : n < n + 1 = omega arith in
              let a : places_at q keeps s i (count - k) ≡ p ∷ places_at q keeps s (e + 1) (count - (k + 1)) = rw one_less at (next_place i (count - k) left g e f t r) ∙ rw (z, ← j) in
              record {
                told = l.told ∙ rw (a, add-one n, take-suc-set run n p m) (sym (append_snoc (take n run) p (places_at q keeps s (e + 1) (count - (k + 1)))));
                behind = drop-set-lt (n + 1) run n p b ∙ sym (drop-drop 1 n run) ∙ ap (drop 1) l.behind ∙ drop-drop 1 n run₀;
              }
