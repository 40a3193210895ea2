-- A raw value against bytes, piece by piece, by what the loop of `is_value` knows; and an attribute against them.
-- Assumes nothing.
use Rattle.std.specs.Prelude.{Option, None, Some, ℕ}
use mathlib.Core.Path.{◌≡◌, refl, sym, ◌∙◌, ap}
use mathlib.Core.Bool.{Bool, true, false}
use mathlib.Core.List.{List, [], ◌∷◌, ◌++◌}
use Prim.Native.Nat.{ℕ, ◌+◌, ◌<◌, ◌≤◌, ◌^◌}
use Prim.Native.Char.{code}
use native.Mathlib.Omega.{arith}
use borrow.Author.Tests.{eq-eqb, ne_eqb, eqb-true, eqb-false}
use lib.Dec.{eqb}
use lib.ListN.{length, take, drop, get_or, drop_of_length-le}
use lib.Seq.{sets, length-sets, sets-eq, take_at, drop-drop}
use mir.Val.{Fits}
use mir.Syntax.{w64}
use Rattle.text_scan.specs.Choice.{pick, ◌and◌}
use Rattle.text_scan.specs.Lists.{pairs, begins, stands}
use Rattle.text_scan.proofs.Tests.{never, and_left, and_right}
use Rattle.text_scan.proofs.Within.{drop_here}
use Rattle.text_scan.proofs.Lists.{text_fits}
use Rattle.text_facts.specs.Strings.{equal}
use Rattle.text_encode.specs.Encode.{encoded}
use Rattle.text_chars.proofs.Chars.{char_most}
use Rattle.text_encode.proofs.Forms.{encoded_least, encoded_most}
use Rattle.xml_references.specs.declared.Reference.{Reference}
use Rattle.xml_references.specs.References.{entity_named, reference_of, reference_at}
use Rattle.xml_references.specs.Decoded.{replaced, part}
use Rattle.xml_references.proofs.Widths.{reference_char}
use Rattle.xml_references.proofs.Replaced.{byte_kept, reference_gone}
use Rattle.xml_values.specs.declared.Place.{Place}
use Rattle.xml_values.specs.Attributes.{attribute_place, attribute_of}
use Rattle.xml_compare.specs.Compared.{text_behind}
use Rattle.xml_values.specs.Places.{from_to}

-- ---- a text in front of a list, against another list
module _ (rest : List ℕ) where
  pairs_behind : (t ys : List ℕ) → begins t ys ≡ true → pairs eqb (t ++ rest) ys ≡ pairs eqb rest (drop (length t) ys)
  unfolding pairs begins
  pairs_behind [] ys e = refl
  pairs_behind (x ∷ t) [] e = never (sym e)
  pairs_behind (x ∷ t) (y ∷ ys) e =
      rw (eq-eqb x y (sym (eqb-true y x (and_left (eqb y x) (begins t ys) e)))) (pairs_behind t ys (and_right (eqb y x) (begins t ys) e))

  pairs_differ : (t ys : List ℕ) → begins t ys ≡ false → pairs eqb (t ++ rest) ys ≡ false
  unfolding pairs begins
  pairs_differ [] ys e = never e
  pairs_differ (x ∷ t) [] e = refl
  pairs_differ (x ∷ t) (y ∷ ys) e = go (eqb y x) refl e (λ f. pairs_differ t ys f)
    where
      go : (u : Bool) → eqb y x ≡ u → u and begins t ys ≡ false → (begins t ys ≡ false → pairs eqb (t ++ rest) ys ≡ false) → eqb x y and pairs eqb (t ++ rest) ys ≡ false
      go true q f k = rw (eq-eqb x y (sym (eqb-true y x q))) (k f)
      go false q f k = rw (ne_eqb x y (λ z. eqb-false y x q (sym z)))

-- ---- a character's bytes at a position
character_room : (c : ℕ) → 0 + length (encoded c) ≤ 4
character_room c = omega (arith, encoded_most c)

module _ (c k : ℕ) (e : k ≡ length (encoded c)) (out : List ℕ) (w : out ≡ sets (0 ∷ 0 ∷ 0 ∷ 0 ∷ []) 0 (encoded c)) where
  character_bytes : take k out ≡ encoded c
  character_bytes =
      rw (w, sets-eq (encoded c) (0 ∷ 0 ∷ 0 ∷ 0 ∷ []) 0 (character_room c)) (take_at (encoded c) (drop (0 + length (encoded c)) (0 ∷ 0 ∷ 0 ∷ 0 ∷ [])) k (sym e))

  pub character_inside : k ≤ length out
  character_inside = omega (arith, ap length w, length-sets (0 ∷ 0 ∷ 0 ∷ 0 ∷ []) 0 (encoded c), character_room c)

  pub character_length : k ≡ length (take k out)
  character_length = e ∙ sym (ap length character_bytes)

  module _ (bytes : List ℕ) (n : ℕ) (t : Bool) (et : t ≡ stands (take k out) bytes n) where
    pub character_there : t ≡ true → Some (n + k) ≡ text_behind (encoded c) bytes n
    unfolding text_behind
    character_there f = rw (← character_bytes, ← et, f, character_bytes, ← e)

    pub character_other : t ≡ false → None ≡ text_behind (encoded c) bytes n
    unfolding text_behind
    character_other f = rw (← character_bytes, ← et, f)

    pub character_fits : c ≤ 0x10FFFF → t ≡ true → length bytes < 2 ^ 64 → Fits w64 (n + k)
    character_fits m f l =
        omega (arith, encoded_least c m, text_fits (encoded c) bytes n (omega (arith, encoded_least c m)) (rw (← character_bytes) (sym et ∙ f)))

-- ---- only '&' begins a reference
pub no_reference : (raw : List ℕ) (i : ℕ) → i < length raw → (get_or raw i 0 ≡ code "&" → ⊥) → None ≡ reference_at raw i
unfolding begins entity_named reference_of
no_reference raw i h a = sym (rw (drop_here raw i h, ne_eqb (get_or raw i 0) (code "&") a))

-- ---- the loop: the answer for all is that for what is left of both
abbrev pub Compared : List ℕ → List ℕ → ℕ → ℕ → Type 0
Compared raw bytes i n = (equal (replaced 0 raw) bytes ≡ equal (replaced 0 (drop i raw)) (drop n bytes)) × (n ≤ length bytes)

module _ (raw bytes : List ℕ) (i n : ℕ) (l : Compared raw bytes i n) where
  pub compared_end : length raw ≤ i → eqb n (length bytes) ≡ equal (replaced 0 raw) bytes
  unfolding equal pairs replaced
  compared_end h = sym (l.0 ∙ rw (drop_of_length-le raw h) (go (eqb n (length bytes)) refl))
    where
      go : (t : Bool) → eqb n (length bytes) ≡ t → pairs eqb [] (drop n bytes) ≡ eqb n (length bytes)
      go true q = let g : length bytes ≤ n = omega (arith, eqb-true n (length bytes) q) in rw (drop_of_length-le bytes g, q)
      go false q = let g : n < length bytes = omega (arith, eqb-false n (length bytes) q) in rw (drop_here bytes n g, q)

  module _ (h : i < length raw) (x : Option Reference) (ex : x ≡ reference_at raw i) where
    module _ (z : x ≡ None) where
      kept : equal (replaced 0 raw) bytes ≡ equal (get_or raw i 0 ∷ replaced 0 (drop (i + 1) raw)) (drop n bytes)
      kept = l.0 ∙ rw (byte_kept raw i h (sym ex ∙ z))

      pub compared_over : length bytes ≤ n → false ≡ equal (replaced 0 raw) bytes
      unfolding equal pairs
      compared_over g = sym (kept ∙ rw (drop_of_length-le bytes g))

      module _ (g : n < length bytes) where
        pub compared_differs : (get_or bytes n 0 ≡ get_or raw i 0 → ⊥) → false ≡ equal (replaced 0 raw) bytes
        unfolding equal pairs
        compared_differs d = sym (kept ∙ rw (drop_here bytes n g, ne_eqb (get_or raw i 0) (get_or bytes n 0) (λ q. d (sym q))))

        pub compared_next : get_or bytes n 0 ≡ get_or raw i 0 → Compared raw bytes (i + 1) (n + 1)
        unfolding equal pairs
        compared_next d = (kept ∙ rw (drop_here bytes n g, eq-eqb (get_or raw i 0) (get_or bytes n 0) (sym d)), omega arith)

    module _ (found : Reference) (z : x ≡ Some found) where
      pub code_most : found.character ≤ 0x10FFFF
      code_most = char_most found.character (reference_char raw i found.width found.character (sym ex ∙ z))

      gone : equal (replaced 0 raw) bytes ≡ equal (encoded found.character ++ replaced 0 (drop (i + found.width) raw)) (drop n bytes)
      gone = l.0 ∙ rw (reference_gone raw i h found.width found.character (sym ex ∙ z))

      module _ (y : Option ℕ) (ey : y ≡ text_behind (encoded found.character) bytes n) where
        there : (m : ℕ) → y ≡ Some m → (stands (encoded found.character) bytes n ≡ true) × (m ≡ n + length (encoded found.character))
        unfolding text_behind
        there m q = go (stands (encoded found.character) bytes n) refl (sym q ∙ ey)
          where
            go : (t : Bool) → stands (encoded found.character) bytes n ≡ t → Some m ≡ pick t (Some (n + length (encoded found.character))) None → (stands (encoded found.character) bytes n ≡ true) × (m ≡ n + length (encoded found.character))
            go true e f = (e, cc)
            go false e f = absurd (let z : ◌≡◌ {A = ℕ} 0 1 = cc in omega arith)

        pub compared_other : y ≡ None → false ≡ equal (replaced 0 raw) bytes
        unfolding text_behind equal
        compared_other q = go (stands (encoded found.character) bytes n) refl (sym q ∙ ey)
          where
            go : (t : Bool) → stands (encoded found.character) bytes n ≡ t → None ≡ pick t (Some (n + length (encoded found.character))) None → false ≡ equal (replaced 0 raw) bytes
            go true e f = absurd (let z : ◌≡◌ {A = ℕ} 0 1 = cc in omega arith)
            go false e f = sym (gone ∙ pairs_differ (replaced 0 (drop (i + found.width) raw)) (encoded found.character) (drop n bytes) e)

        pub compared_past : (m : ℕ) → y ≡ Some m → Compared raw bytes (i + found.width) m
        unfolding equal
        compared_past m q =
            let p : (stands (encoded found.character) bytes n ≡ true) × (m ≡ n + length (encoded found.character)) = there m q in (
              gone ∙ pairs_behind (replaced 0 (drop (i + found.width) raw)) (encoded found.character) (drop n bytes) p.0 ∙ rw (drop-drop (length (encoded found.character)) n bytes, ← p.1),
              omega (arith, p.1, text_fits (encoded found.character) bytes n (omega (arith, encoded_least found.character code_most)) p.0),
            )

-- ---- an attribute that says these bytes
module _ (s : List ℕ) (first : ℕ) (name : List ℕ) (p : Option Place) (bytes : List ℕ) (r : Bool) (ep : p ≡ attribute_place s first name) where
  pub absent_is : p ≡ None → r ≡ equal (replaced 0 []) bytes → r ≡ equal (attribute_of s first name) bytes
  unfolding replaced
  absent_is z h = h ∙ rw (sym ep ∙ z)

  pub value_is : (there : Place) → p ≡ Some there → r ≡ equal (replaced 0 (part s there.first there.after)) bytes → r ≡ equal (attribute_of s first name) bytes
  value_is there z h = h ∙ rw (sym ep ∙ z)
