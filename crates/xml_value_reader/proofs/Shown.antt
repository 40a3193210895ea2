-- The value reader, by the tests of the code; and that the bytes which are seen are those that the value says.
-- Assumes nothing.
use Rattle.std.specs.Prelude.{is_err, Option, None, Some, ℕ, Result, Ok, Err}
use Rattle.refusals.specs.declared.Reason.{Reason}
use mathlib.Core.Path.{◌≡◌, refl, sym, ◌∙◌, ap}
use mathlib.Core.Bool.{Bool, true, false}
use mathlib.Core.List.{List, [], ◌∷◌}
use Prim.Native.Nat.{ℕ, zero, suc, ◌+◌, ◌-◌, ◌<◌, ◌≤◌, ◌^◌}
use native.Mathlib.Omega.{arith}
use borrow.Author.Tests.{eq-eqb, ne_eqb, le-leb, lt-leb, leb-true, eqb-true, eqb-false}
use lib.Dec.{eqb, leb}
use lib.ListN.{length, take, drop, length-drop}
use lib.Seq.{length-take-le, take-nil, take-take, drop-drop}
use mir.Val.{Fits}
use mir.Syntax.{w64}
use Rattle.text_scan.specs.Choice.{pick, ◌and◌, not}
use Rattle.text_scan.proofs.Tests.{pick_case, and_left, and_right}
use Rattle.text_chars.specs.Utf8.{first_bad}
use Rattle.xml_reader.specs.Limits.{value_limit}
use Rattle.xml_references.specs.Decoded.{part}
use Rattle.xml_names.specs.Names.{name_end, name_is}
use Rattle.xml_names.proofs.Names.{name_least, name_most}
use Rattle.xml_attributes.specs.declared.Tag.{Tag}
use Rattle.xml_attributes.specs.declared.Tag.TheVariants.{Start, Empty}
use Rattle.xml_tags.specs.Tags.{tag_at, faultless, opening_at}
use Rattle.xml_tags.specs.EndTags.{end_tag_end}
use Rattle.xml_tags.proofs.Bounds.{TagWithin, tag_within}
use Rattle.xml_pieces.proofs.Within.{end_tag_behind}
use Rattle.xml_values.specs.declared.Place.{Place}
use Rattle.xml_values.specs.declared.View.{View}
use Rattle.xml_values.specs.declared.View.TheVariants.{Document, Scratch}
use Rattle.xml_values.specs.Attributes.{attribute_place, attribute_of, value_at}
use Rattle.xml_texts.specs.Texts.{text_place, text_of, text_at}
use Rattle.xml_values.specs.Views.{view_of, view_in, scratch_after, seen, InRange, Shows}
use Rattle.xml_values.proofs.Views.{view_roomy, room_says, Says, shows_nothing, in_range, seen_is, attribute_says}
use Rattle.xml_texts.proofs.Texts.{text_says}
use Rattle.xml_value_reader.specs.Shown.{is_sound, is_tag, is_sound_tag, opens, ends_with, closes, is_element, place_in, bytes_in, moved, ValueOutcome, showing, showing_nothing, is_readable, shown_of, value_of, Fills}
use Rattle.xml_value_reader.specs.Moved.{Moves}
use Rattle.xml_values.specs.Places.{from_to}

-- ---- the first piece
pub sound_part : (r : List ℕ) (n k : ℕ) → n ≤ length r → k ≡ first_bad (take n r) → eqb k n ≡ is_sound (take n r)
sound_part r n k h e = rw (← e, length-take-le n r h)

-- a tag with a fault opens nothing, whatever the fault
still_within : (m : ℕ) (t : Result Tag Reason) → TagWithin 0 m t → TagWithin 0 m (faultless t)
still_within m (Ok (Start j)) w = w
still_within m (Ok (Empty j)) w = w
still_within m (Err n) w = tt

still_sound : (r : List ℕ) (t : Result Tag Reason) → is_sound_tag r (faultless t) ≡ is_sound_tag r t
still_sound r (Ok (Start j)) = refl
still_sound r (Ok (Empty j)) = refl
still_sound r (Err n) = refl

tag_or_refused : (t : Result Tag Reason) → is_tag t ≡ not (is_err t)
tag_or_refused (Ok (Start j)) = refl
tag_or_refused (Ok (Empty j)) = refl
tag_or_refused (Err k) = refl

still_tag : (t : Result Tag Reason) → is_tag (faultless t) ≡ is_tag t
still_tag (Ok (Start j)) = refl
still_tag (Ok (Empty j)) = refl
still_tag (Err n) = refl

module _ (r : List ℕ) (x : Result Tag Reason) (ex : x ≡ opening_at r 0) where
  told : TagWithin 0 (length r) x
  told = rw ex (still_within (length r) (tag_at r 0) (tag_within r 0))

  by_opening : is_sound_tag r x ≡ opens r
  unfolding opens
  by_opening = ap (is_sound_tag r) ex ∙ still_sound r (tag_at r 0)

  pub start_inside : (tag : Tag) → x ≡ Ok tag → (j : ℕ) → tag ≡ Start j → j ≤ length r
  start_inside tag y j z = (rw (y, z) at told).1

  pub empty_inside : (tag : Tag) → x ≡ Ok tag → (j : ℕ) → tag ≡ Empty j → j ≤ length r
  empty_inside tag y j z = (rw (y, z) at told).1

  pub opens_start : (tag : Tag) → x ≡ Ok tag → (j : ℕ) → tag ≡ Start j → (b : Bool) → b ≡ is_sound (take j r) → b ≡ opens r
  opens_start tag y j z b e = e ∙ sym (ap (is_sound_tag r) (y ∙ ap Ok z)) ∙ by_opening

  pub opens_empty : (tag : Tag) → x ≡ Ok tag → (j : ℕ) → tag ≡ Empty j → (b : Bool) → b ≡ is_sound (take j r) → b ≡ opens r
  opens_empty tag y j z b e = e ∙ sym (ap (is_sound_tag r) (y ∙ ap Ok z)) ∙ by_opening

  pub opens_nothing : (n : Reason) → x ≡ Err n → false ≡ opens r
  opens_nothing n z = sym (ap (is_sound_tag r) z) ∙ by_opening

-- ---- the last piece
module _ (r : List ℕ) (e : ℕ) (x : Option ℕ) (ex : x ≡ end_tag_end r e) where
  pub no_end_tag : x ≡ None → false ≡ ends_with r e (end_tag_end r e)
  no_end_tag z = rw (← ex, z)

  module _ (j : ℕ) (z : x ≡ Some j) where
    pub ends_before : (j ≡ length r → ⊥) → false ≡ ends_with r e (end_tag_end r e)
    ends_before h = rw (← ex, z, ne_eqb j (length r) h)

    behind : e + 2 ≤ j
    behind = rw z at (rw (← ex) at (end_tag_behind r e))

    pub end_name_fits : j ≡ length r → length r < 2 ^ 64 → Fits w64 (e + 2)
    end_name_fits h l = omega (arith, behind)

    module _ (n : ℕ) (en : n ≡ name_end r 1) where
      pub start_name_ahead : 1 ≤ n
      start_name_ahead = omega (arith, name_least r 1)

      pub start_name_inside : j ≡ length r → n ≤ length r
      start_name_inside h = omega (arith, name_most r 1 (omega (arith, behind)))

      pub ends_named : (t : Bool) → j ≡ length r → t ≡ name_is (take (n - 1) (drop 1 r)) r (e + 2) → t ≡ ends_with r e (end_tag_end r e)
      ends_named t h q = rw (← ex, z, eq-eqb j (length r) h, ← en) q

-- ---- one element
module _ (r : List ℕ) (k : ℕ) (ek : k ≡ first_bad r) where
  pub not_sound : (k ≡ length r → ⊥) → false ≡ is_element r
  unfolding is_element
  not_sound h = rw (← ek, ne_eqb k (length r) h)

  module _ (h : k ≡ length r) (x : Result Tag Reason) (ex : x ≡ opening_at r 0) (t : Bool) (et : t ≡ is_err x) where
    tag_told : is_tag (tag_at r 0) ≡ not t
    tag_told = sym (rw et (sym (tag_or_refused x)) ∙ ap is_tag ex ∙ still_tag (tag_at r 0))

    by_tag : is_element r ≡ not t and closes r (text_place r 0)
    unfolding is_element
    by_tag = rw (← ek, eq-eqb k (length r) h, tag_told)

    pub not_opened : t ≡ true → false ≡ is_element r
    not_opened f = sym (by_tag ∙ rw f)

    module _ (f : t ≡ false) (p : Option Place) (ep : p ≡ text_place r 0) where
      pub no_content : p ≡ None → false ≡ is_element r
      unfolding closes
      no_content z = sym (by_tag ∙ rw (f, ← ep, z))

      pub one_element : (there : Place) → p ≡ Some there → (b : Bool) → b ≡ ends_with r there.after (end_tag_end r there.after) → b ≡ is_element r
      unfolding closes
      one_element there z b q = q ∙ sym (by_tag ∙ rw (f, ← ep, z))

-- ---- in the range
no_bytes : (name : List ℕ) → length name ≡ 0 → name ≡ []
no_bytes [] h = refl
no_bytes (c ∷ name) h = absurd (omega arith)

-- a name that is not empty asks for an attribute
named : (r name : List ℕ) → (length name ≡ 0 → ⊥) → (t : Bool) → t ≡ opens r → place_in r name ≡ pick t (attribute_place r 0 name) None
unfolding place_in
named r [] h t et = absurd (h refl)
named r (c ∷ name) h t et = rw et

named_bytes : (r name : List ℕ) → (length name ≡ 0 → ⊥) → bytes_in r name ≡ value_at r (place_in r name)
unfolding bytes_in
named_bytes r [] h = absurd (h refl)
named_bytes r (c ∷ name) h = refl

module _ (r name scratch : List ℕ) where
  module _ (u : Bool) (eu : u ≡ eqb (length name) 0) (y : u ≡ true) (t : Bool) (et : t ≡ is_element r) where
    h : length name ≡ 0
    h = eqb-true (length name) 0 (sym eu ∙ y)

    unnamed : place_in r name ≡ pick t (text_place r 0) None
    unfolding place_in
    unnamed = rw (no_bytes name h, et)

    unnamed_bytes : bytes_in r name ≡ text_at r (place_in r name)
    unfolding bytes_in
    unnamed_bytes = rw (no_bytes name h)

    pub text_shown : (v : View) (after : List ℕ) → t ≡ true → Shows r (text_place r 0) (text_of r 0) scratch v after → Shows r (place_in r name) (bytes_in r name) scratch v after
    text_shown v after f x = rw (unnamed_bytes, unnamed, f) x

    pub no_text : t ≡ false → Shows r (place_in r name) (bytes_in r name) scratch (Document 0 0) scratch
    no_text f = shows_nothing r (place_in r name) (bytes_in r name) scratch None (sym (unnamed ∙ rw f)) refl

  module _ (u : Bool) (eu : u ≡ eqb (length name) 0) (y : u ≡ false) (t : Bool) (et : t ≡ opens r) where
    full : length name ≡ 0 → ⊥
    full = eqb-false (length name) 0 (sym eu ∙ y)

    pub attribute_shown : (v : View) (after : List ℕ) → t ≡ true → Shows r (attribute_place r 0 name) (attribute_of r 0 name) scratch v after → Shows r (place_in r name) (bytes_in r name) scratch v after
    attribute_shown v after f x = rw (named_bytes r name full, named r name full t et, f) x

    pub no_attribute : t ≡ false → Shows r (place_in r name) (bytes_in r name) scratch (Document 0 0) scratch
    no_attribute f = shows_nothing r (place_in r name) (bytes_in r name) scratch None (sym (named r name full t et ∙ rw f)) refl

-- ---- what the value in a range says
in_says : (r name : List ℕ) → Says r (place_in r name) (bytes_in r name)
unfolding place_in bytes_in
in_says r [] =
    pick_case (λ p. Says r p (text_at r p)) (is_element r) (text_place r 0) None (λ _. text_says r 0) (λ _. refl)
in_says r (c ∷ name) =
    pick_case (λ p. Says r p (value_at r p)) (opens r) (attribute_place r 0 (c ∷ name)) None (λ _. attribute_says r 0 (c ∷ name)) (λ _. refl)

-- ---- a part of a part of the document
pub drop_take : (a n : ℕ) (xs : List ℕ) → drop a (take n xs) ≡ take (n - a) (drop a xs)
drop_take zero n xs = let e : n - 0 ≡ n = omega arith in rw e
drop_take (suc a) zero xs = let e : 0 - suc a ≡ 0 = omega arith in rw e
drop_take (suc a) (suc n) [] = sym (take-nil (suc n - suc a))
drop_take (suc a) (suc n) (x ∷ xs) = let e : suc n - suc a ≡ n - a = omega arith in rw e (drop_take a n xs)

module _ (document : List ℕ) (first after : ℕ) (h : first ≤ after) (g : after ≤ length document) where
  abbrev range : List ℕ
  range = part document first after

  range_length : length range ≡ after - first
  range_length = length-take-le (after - first) (drop first document) (omega (arith, length-drop first document))

  part_moved : (a e : ℕ) → e ≤ length range → part document (first + a) (first + e) ≡ part range a e
  part_moved a e k =
      let m : first + e - (first + a) ≡ e - a = omega arith in
      rw (m, drop_take a (after - first) (drop first document), drop-drop a first document)
      (sym (take-take (e - a) (after - first - a) (drop (first + a) document) (omega (arith, range_length))))

  module _ (scratch : List ℕ) (v : View) (w : InRange range scratch v) where
    moves : length document < 2 ^ 64 → Moves first v
    unfolding Moves
    moves l = go v w
      where
        go : (v : View) → InRange range scratch v → Moves first v
        go (Document a e) w = omega (arith, range_length, w.0, w.1)
        go (Scratch n) w = tt

    moved_range : InRange document scratch (moved first v)
    moved_range = go v w
      where
        go : (v : View) → InRange range scratch v → InRange document scratch (moved first v)
        go (Document a e) w = omega (arith, range_length, w.0, w.1)
        go (Scratch n) w = w

    moved_seen : seen document scratch (moved first v) ≡ seen range scratch v
    moved_seen = go v w
      where
        go : (v : View) → InRange range scratch v → seen document scratch (moved first v) ≡ seen range scratch v
        go (Document a e) w = part_moved a e w.1
        go (Scratch n) w = refl

-- ---- a view, moved
module _ (first : ℕ) (v : View) (w : Moves first v) (a e : ℕ) (z : v ≡ Document a e) where
  pub start_moves : Fits w64 (first + a)
  unfolding Moves
  start_moves = let k : first + a < 2 ^ 64 = (rw z at w).0 in omega arith

  pub end_moves : Fits w64 (first + e)
  unfolding Moves
  end_moves = let k : first + e < 2 ^ 64 = (rw z at w).1 in omega arith

pub moved_part : (first : ℕ) (v : View) (a e : ℕ) → v ≡ Document a e → Document (first + a) (first + e) ≡ moved first v
moved_part first v a e z = rw z

pub moved_front : (first : ℕ) (v : View) (n : ℕ) → v ≡ Scratch n → Scratch n ≡ moved first v
moved_front first v n z = rw z

-- ---- the value reader, by its tests
module _ (document scratch : List ℕ) (first after : ℕ) (name : List ℕ) where
  pub small_scratch : length scratch < value_limit → Fills (shown_of document scratch first after name) (Document 0 0) scratch
  unfolding shown_of
  small_scratch h = rw (lt-leb value_limit (length scratch) h) (record { answers = refl; leaves = refl })

  module _ (h : value_limit ≤ length scratch) where
    pub ends_first : after < first → Fills (shown_of document scratch first after name) (Document 0 0) scratch
    unfolding shown_of
    ends_first g = rw (le-leb value_limit (length scratch) h, lt-leb first after g) (record { answers = refl; leaves = refl })

    module _ (g : first ≤ after) where
      pub ends_outside : length document < after → Fills (shown_of document scratch first after name) (Document 0 0) scratch
      unfolding shown_of
      ends_outside k =
          rw (le-leb value_limit (length scratch) h, le-leb first after g, lt-leb after (length document) k) (record { answers = refl; leaves = refl })

  module _ (v : View) (scratch' : List ℕ) (x : Shows (part document first after) (place_in (part document first after) name) (bytes_in (part document first after) name) scratch v scratch') (h : value_limit ≤ length scratch) (g : first ≤ after) (k : after ≤ length document) where
    read_range : InRange (part document first after) scratch' v
    read_range =
        in_range (part document first after) (bytes_in (part document first after) name) scratch (place_in (part document first after) name) (in_says (part document first after) name) v scratch' x

    pub read_moves : length document < 2 ^ 64 → Moves first v
    read_moves l = moves document first after g k scratch' v read_range l

    roomy : view_in scratch (part document first after) (place_in (part document first after) name) (bytes_in (part document first after) name) ≡ view_of (part document first after) (place_in (part document first after) name) (bytes_in (part document first after) name)
    roomy = view_roomy (part document first after) (place_in (part document first after) name) (bytes_in (part document first after) name) scratch h

    pub filled : (m : View) → m ≡ moved first v → Fills (shown_of document scratch first after name) m scratch'
    unfolding shown_of
    filled m e =
        rw (le-leb value_limit (length scratch) h, le-leb first after g, le-leb after (length document) k)
        (record { answers = e ∙ ap (moved first) (x.answers ∙ roomy); leaves = x.leaves ∙ ap (λ w. scratch_after w (bytes_in (part document first after) name) scratch) roomy })

  -- ---- what is seen of it
  abbrev Right : List ℕ → ValueOutcome → Type 0
  Right bytes o = InRange document o.scratch o.view × (seen document o.scratch o.view ≡ bytes)

  abbrev r : List ℕ
  r = part document first after

  abbrev here : View
  here = view_of r (place_in r name) (bytes_in r name)

  abbrev then : List ℕ
  then = scratch_after here (bytes_in r name) scratch

  right : Right (value_of document scratch first after name) (shown_of document scratch first after name)
  unfolding shown_of value_of
  right = go (is_readable document scratch first after) refl
    where
      go : (t : Bool) → is_readable document scratch first after ≡ t → Right (pick t (bytes_in r name) []) (pick t (showing first r name scratch) (showing_nothing scratch))
      go true q =
          let h : value_limit ≤ length scratch = leb-true value_limit (length scratch) (and_left (leb value_limit (length scratch)) (leb first after and leb after (length document)) q) in
          let b : leb first after and leb after (length document) ≡ true = and_right (leb value_limit (length scratch)) (leb first after and leb after (length document)) q in
          let g : first ≤ after = leb-true first after (and_left (leb first after) (leb after (length document)) b) in
          let k : after ≤ length document = leb-true after (length document) (and_right (leb first after) (leb after (length document)) b) in
          let v : here ≡ view_in scratch r (place_in r name) (bytes_in r name) = sym (view_roomy r (place_in r name) (bytes_in r name) scratch h) in
          let x : Shows r (place_in r name) (bytes_in r name) scratch here then = record { answers = v; leaves = ap (λ w. scratch_after w (bytes_in r name) scratch) v } in
          let w : InRange r then here = read_range here then x h g k in (
            moved_range document first after g k then here w,
            moved_seen document first after g k then here w
                ∙ room_says scratch (seen r then here) (bytes_in r name) (seen_is r (bytes_in r name) scratch (place_in r name) (in_says r name) here then x) h,
          )
      go false q = ((omega arith, omega arith), refl)

  module _ (v : View) (scratch' : List ℕ) (x : Fills (shown_of document scratch first after name) v scratch') where
    pub value_in_range : InRange document scratch' v
    value_in_range = rw (x.leaves, x.answers) right.0

    pub value_seen : seen document scratch' v ≡ value_of document scratch first after name
    value_seen = rw (x.leaves, x.answers) right.1
