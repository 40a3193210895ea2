-- A field against a value, byte by byte from where it starts: whether they are equal, told from the start, is what is told from here.
-- Assumes nothing.
use mathlib.Core.Path.{◌≡◌, refl, sym, ◌∙◌}
use mathlib.Core.Bool.{Bool, true, false}
use mathlib.Core.List.{List, [], ◌∷◌}
use Prim.Native.Nat.{ℕ, ◌+◌, ◌-◌, ◌<◌, ◌≤◌}
use native.Mathlib.Omega.{arith}
use borrow.Author.Tests.{eq-eqb, ne_eqb, le-leb}
use lib.Dec.{eqb, leb}
use lib.ListN.{length, take, drop, get_or, drop_of_length-le, length-drop}
use lib.Seq.{take_all}
use Rattle.text_scan.specs.Choice.{pick, not}
use Rattle.text_scan.specs.Lists.{pairs}
use Rattle.text_scan.proofs.Within.{drop_here}
use Rattle.text_facts.specs.Strings.{equal}
use Rattle.table_lines.specs.Lines.{other, front, field, fields_of}
use Rattle.table_lines.specs.Starts.{field_start}
use Rattle.table_lines.proofs.Fields.{field_front}

-- the bytes of a line from i on, up to a tab
abbrev cut : List ℕ → ℕ → List ℕ
cut line i = front (other 9) (drop i line)

abbrev pub Matching : List ℕ → List ℕ → ℕ → Type 0
Matching line value j = equal (front (other 9) line) value ≡ equal (cut line j) (drop j value)

module _ (line value : List ℕ) (j : ℕ) (l : Matching line value j) where
  module _ (h : j < length value) where
    pub match_short : length line ≤ j → false ≡ equal (front (other 9) line) value
    unfolding equal pairs front
    match_short g = sym (l ∙ rw (drop_here value j h, drop_of_length-le line g))

    module _ (g : j < length line) where
      pub match_other : (get_or line j 0 ≡ get_or value j 0 → ⊥) → false ≡ equal (front (other 9) line) value
      unfolding equal pairs front
      match_other e = sym (l ∙ rw (drop_here value j h, drop_here line j g) (go (other 9 (get_or line j 0))))
        where
          go : (t : Bool) → pairs eqb (pick t (get_or line j 0 ∷ cut line (j + 1)) []) (get_or value j 0 ∷ drop (j + 1) value) ≡ false
          go true = rw (ne_eqb (get_or line j 0) (get_or value j 0) e)
          go false = refl

      pub match_tab : get_or line j 0 ≡ 9 → false ≡ equal (front (other 9) line) value
      unfolding equal pairs front
      match_tab e = sym (l ∙ rw (drop_here value j h, drop_here line j g, e))

      pub match_next : get_or line j 0 ≡ get_or value j 0 → (get_or line j 0 ≡ 9 → ⊥) → Matching line value (j + 1)
      unfolding equal pairs front
      match_next e f = l ∙ rw (drop_here value j h, drop_here line j g, ne_eqb (get_or line j 0) 9 f, eq-eqb (get_or line j 0) (get_or value j 0) e)

  module _ (h : length value ≤ j) (m : j ≤ length value) where
    here : j ≡ length value
    here = omega arith

    pub match_whole : length line ≤ length value → leb (length line) (length value) ≡ equal (front (other 9) line) value
    unfolding equal pairs front
    match_whole g =
        let p : length line ≤ j = omega arith in
        rw (le-leb (length line) (length value) g) (sym (l ∙ rw (drop_of_length-le value h, drop_of_length-le line p)))

    ends : j < length line → eqb (get_or line j 0) 9 ≡ equal (front (other 9) line) value
    unfolding equal pairs front
    ends p = sym (l ∙ rw (drop_of_length-le value h, drop_here line j p) (go (eqb (get_or line j 0) 9)))
      where
        go : (t : Bool) → pairs eqb (pick (not t) (get_or line j 0 ∷ cut line (j + 1)) []) [] ≡ t
        go true = refl
        go false = refl

    pub match_ends : length value < length line → eqb (get_or line (length value) 0) 9 ≡ equal (front (other 9) line) value
    match_ends g = rw here at (ends (omega arith))

-- where the field of number k starts, that is this field
pub matched : (line : List ℕ) (k a : ℕ) (value : List ℕ) → a ≡ field_start k 0 line → (r : Bool) → r ≡ equal (front (other 9) (take (length line - a) (drop a line))) value → r ≡ equal (field (fields_of line) k) value
matched line k a value p r e = rw (take_all (length line - a) (drop a line) (omega (arith, length-drop a line)), field_front line k a p) at e
