-- The value reader, asked for a value of an element that was read, says what is judged of the element: the attribute of its tag, or its text.
-- Assumes nothing.
use Rattle.std.specs.Prelude.{Some, None, Result, Ok, Err}
use Rattle.refusals.specs.declared.Reason.{Reason}
use mathlib.Core.Path.{◌≡◌, refl, sym, ◌∙◌, ap, subst}
use mathlib.Core.Bool.{true}
use mathlib.Core.List.{List, [], ◌∷◌, ◌++◌}
use Prim.Native.Nat.{ℕ, ◌+◌, ◌-◌, ◌<◌, ◌≤◌}
use Prim.Native.Char.{code}
use native.Mathlib.Omega.{arith}
use borrow.Author.Tests.{eq-eqb, le-leb}
use lib.ListN.{length, take, drop, get_or}
use lib.Seq.{take-take}
use Rattle.text_scan.proofs.Tests.{pick_same}
use Rattle.text_chars.specs.Utf8.{first_bad}
use Rattle.text_facts.specs.Strings.{equal}
use Rattle.text_facts.proofs.StringLaws.{equal_is}
use Rattle.xml_reader.specs.Limits.{scratch_limit, value_limit}
use Rattle.xml_attributes.specs.declared.Tag.{Tag}
use Rattle.xml_attributes.specs.declared.Tag.TheVariants.{Start, Empty}
use Rattle.xml_attributes.specs.Chains.{last, items, ending}
use Rattle.xml_names.specs.Names.{name_end, name_at, name_is}
use Rattle.xml_names.specs.ElementNames.{element_end}
use Rattle.xml_tags.specs.Tags.{tag_at}
use Rattle.xml_tags.specs.EndTags.{end_tag_end}
use Rattle.xml_tags.proofs.Bounds.{TagWithin, tag_within}
use Rattle.xml_steps.specs.Reading.{elements, first_of, after_of}
use Rattle.xml_elements.specs.Elements.{elements_of}
use Rattle.xml_nesting.proofs.Read.{Rows, rows_read}
use Rattle.xml_values.specs.Attributes.{attribute_of}
use Rattle.xml_texts.specs.declared.Content.TheVariants.{Ended}
use Rattle.xml_texts.specs.Texts.{content_from, content_to, content_behind, text_place, saying, said_from, text_at, text_of}
use Rattle.xml_texts.proofs.Texts.{content_ended}
use Rattle.xml_value_reader.specs.Shown.{is_sound, is_sound_tag, opens, closes, is_element, place_in, bytes_in, value_of}
use Rattle.xml_agreement.specs.Judged.{judged_of}
use Rattle.xml_agreement.proofs.Range.{range, range_length, named_same}
use Rattle.xml_agreement.proofs.Tags.{EndsBy, both_less, tag_in, first_byte, named, name_low, tag_is, tag_same, ending_is, ending_in, attribute_is_lem}
use Rattle.xml_agreement.proofs.Closed.{Closes, ending_closes}
use Rattle.xml_agreement.proofs.Sound.{sound_range}
use Rattle.xml_agreement.proofs.Pieces.{end_tag_closes, end_tag_same}
use Rattle.xml_agreement.proofs.Names.{name_before, is_itself}
use Rattle.xml_agreement.proofs.Reach.{Reach, EndsAt, parent_ends, parent_ends_in}
use Rattle.xml_agreement.proofs.Whole.{Whole, empty, simple, parent}
use Rattle.xml_agreement.proofs.Read.{whole_read, sound_read}
use Rattle.xml_values.specs.Places.{from_to}

-- an element begins with a tag without fault, which ends no later than the element
tag_ends : (s : List ℕ) (first after : ℕ) → Whole s first after → EndsBy after (tag_at s first)
tag_ends s first after (empty t) = rw t (omega arith)
tag_ends s first after (simple a e t x y q l) = rw t (omega (arith, x.ahead, (end_tag_closes s e after y.tag).0))
tag_ends s first after (parent a t x) = rw t (omega (arith, x.reach.ahead, x.before))

-- ---- a range that is such an element, in a document without bad character
module _ (s : List ℕ) (d n : ℕ) (fits : d + n ≤ length s) (whole : Whole s d (d + n)) (good : length s ≤ first_bad s) where
  abbrev r : List ℕ
  r = range s d n fits

  l : EndsBy (d + n) (tag_at s d)
  l = tag_ends s d (d + n) whole

  closed : Closes s (tag_at s d)
  closed = rw (tag_is s d n fits l) (ending_closes s (element_end s (d + 1)))

  -- ---- an attribute
  front_sound : (m : ℕ) → d < m → m ≤ d + n → get_or s (m - 1) 0 ≡ code ">" → is_sound (take (m - d) r) ≡ true
  front_sound m h g b =
      let a : d + (m - d) - 1 ≡ m - 1 = omega arith in
      let k : d + (m - d) ≤ length s = omega arith in
      let c : get_or s (d + (m - d) - 1) 0 ≡ code ">" = ap (λ (j : ℕ). get_or s j 0) a ∙ b in
      rw (take-take (m - d) n (drop d s) (omega arith))
      (eq-eqb (first_bad (range s d (m - d) k)) (length (range s d (m - d) k))
      (sound_range s d (m - d) k (omega arith) (omega (arith, first_byte s d n fits l)) (omega arith) good))

  opens_range : opens r ≡ true
  unfolding opens
  opens_range = rw (tag_same s d n fits l) (go (tag_at s d) (tag_within s d) l closed)
    where
      go : (t : Result Tag Reason) → TagWithin d (length s) t → EndsBy (d + n) t → Closes s t → is_sound_tag r (tag_in s d n fits t) ≡ true
      go (Ok (Start m)) w e c = front_sound m w.0 e c
      go (Ok (Empty m)) w e c = front_sound m w.0 e c
      go (Err k) w e c = absurd e

  named_range : (c : ℕ) (name : List ℕ) → bytes_in r (c ∷ name) ≡ attribute_of s d (c ∷ name)
  unfolding bytes_in place_in
  named_range c name = rw opens_range (attribute_is_lem s d n fits l (c ∷ name))

  -- ---- a text
  -- where there is none in the document, there is none in the range
  no_text : text_place s d ≡ None → text_place r 0 ≡ None → bytes_in r [] ≡ text_of s d
  unfolding bytes_in place_in
  no_text e f = rw (f, e) (ap (text_at r) (pick_same (is_element r) None))

  place_is : (t : Result Tag Reason) → tag_at s d ≡ t → text_place s d ≡ content_behind s t
  unfolding text_place
  place_is t e = ap (content_behind s) (ending_is s d n fits l ∙ e)

  place_in_lem : (t : Result Tag Reason) → tag_at s d ≡ t → text_place r 0 ≡ content_behind r (tag_in s d n fits t)
  unfolding text_place
  place_in_lem t e = ap (content_behind r) (ending_in s d n fits l ∙ ap (tag_in s d n fits) e)

  module _ (a e : ℕ) (t : tag_at s d ≡ Ok (Start a)) (x : Reach s a e) (y : EndsAt s e (d + n)) (same : equal (name_at s (d + 1)) (name_at s (e + 2)) ≡ true) (small : e - a ≤ value_limit) where
    ahead : d < a
    ahead = (subst (TagWithin d (length s)) t (tag_within s d)).0

    long : d + 2 < a
    long =
        let f : d + (a - d) ≤ length s = omega (arith, ahead, x.ahead, y.inner) in
        let k : EndsBy (d + (a - d)) (tag_at s d) = rw t (omega (arith, ahead)) in
        omega (arith, ahead, named s d (a - d) f k, name_low s d (a - d) f k)

    end : (e + 2 < d + n) × (get_or s (d + n - 1) 0 ≡ code ">")
    end = end_tag_closes s e (d + n) y.tag

    ended : content_from s e ≡ last (Some e)
    ended = content_ended s e y.inner Ended (sym y.here) refl

    ended_in : content_from r (e - d) ≡ last (Some (e - d))
    ended_in =
        content_ended r (e - d) (omega (arith, range_length s d n fits, end.0, ahead, x.ahead)) Ended (sym (y.here_in d n fits (omega (arith, ahead, x.ahead)) (omega arith))) refl

    text_here : text_place s d ≡ from_to a e
    unfolding ending
    text_here =
        place_is (Ok (Start a)) t ∙ ap (content_to a) (x.ends ∙ ap ending ended) ∙ (rw (le-leb (e - a) value_limit small))

    text_in : text_place r 0 ≡ from_to (a - d) (e - d)
    unfolding ending
    text_in =
        place_in_lem (Ok (Start a)) t ∙ ap (content_to (a - d)) (x.ends_in d n fits ahead (omega (arith, end.0)) ∙ ap ending ended_in)
        ∙ (rw (le-leb (e - d - (a - d)) value_limit (omega (arith, sym (both_less e a d (omega (arith, ahead)))))))

    says : said_from s a ≡ x.says ++ []
    unfolding said_from saying items
    says = x.said ∙ ap (λ (b : List ℕ). x.says ++ b) (rw ended)

    says_in : said_from r (a - d) ≡ x.says ++ []
    unfolding said_from saying items
    says_in = x.said_in d n fits ahead (omega (arith, end.0)) ∙ ap (λ (b : List ℕ). x.says ++ b) (rw ended_in)

    -- the range is one element
    names : name_is (name_at r 1) r (e - d + 2) ≡ true
    names =
        let p : d + (e - d + 2) ≡ e + 2 = omega (arith, ahead, x.ahead) in
        let q : get_or s (a - 1) 0 ≡ code ">" = subst (Closes s) t closed in
        let u : name_end s (d + 1) ≤ d + n = omega (arith, x.ahead, end.0, name_before s (a - 1) (d + 1) (omega (arith, x.ahead, end.0, ahead)) (rw q) (omega (arith, long))) in
        let v : name_end s (d + (e - d + 2)) ≤ d + n = rw p (omega (arith, name_before s (d + n - 1) (e + 2) (omega (arith, end.0)) (rw end.1) (omega (arith, end.0)))) in
        let i : name_at s (d + 1) ≡ name_at r 1 = named_same s d n fits 1 (omega (arith, end.0, ahead, x.ahead)) u in
        let j : name_at s (d + (e - d + 2)) ≡ name_at r (e - d + 2) = named_same s d n fits (e - d + 2) (omega (arith, end.0, ahead, x.ahead)) v in
        let k : name_at r 1 ≡ name_at r (e - d + 2) = sym i ∙ equal_is (name_at s (d + 1)) (name_at s (e + 2)) same ∙ ap (name_at s) (sym p) ∙ j in
        rw k (is_itself r (e - d + 2) (omega (arith, range_length s d n fits, end.0, ahead, x.ahead)))

    one_element : is_element r ≡ true
    unfolding is_element closes
    one_element =
        let p : d + (e - d) ≡ e = omega (arith, ahead, x.ahead) in
        let sound : first_bad r ≡ length r = sound_range s d n fits (omega (arith, end.0)) (omega (arith, first_byte s d n fits l)) (omega (arith, end.1)) good in
        let tag : tag_at r 0 ≡ Ok (Start (a - d)) = tag_same s d n fits l ∙ ap (tag_in s d n fits) t in
        let closing : end_tag_end r (e - d) ≡ Some n = end_tag_same s d n fits (e - d) n (omega arith) (ap (end_tag_end s) p ∙ y.tag) in
        rw (eq-eqb (first_bad r) (length r) sound, tag, text_in, closing, eq-eqb n (length r) (sym (range_length s d n fits))) names

    text_range : bytes_in r [] ≡ text_of s d
    unfolding bytes_in place_in
    text_range = rw (one_element, text_in, text_here) (says_in ∙ sym says)

  text_agrees : bytes_in r [] ≡ text_of s d
  text_agrees = go whole
    where
      go : Whole s d (d + n) → bytes_in r [] ≡ text_of s d
      go (empty t) = no_text (place_is (Ok (Empty (d + n))) t) (place_in_lem (Ok (Empty (d + n))) t)
      go (simple a e t x y same small) = text_range a e t x y same small
      go (parent a t x) =
          let h : d < a = (subst (TagWithin d (length s)) t (tag_within s d)).0 in
          no_text (place_is (Ok (Start a)) t ∙ ap (content_to a) (parent_ends s a (d + n) x)) (place_in_lem (Ok (Start a)) t ∙ ap (content_to (a - d)) (parent_ends_in s a (d + n) x d n fits h (omega arith)))

  pub range_agrees : (name : List ℕ) → bytes_in r name ≡ judged_of s d name
  range_agrees [] = text_agrees
  range_agrees (c ∷ name) = named_range c name

-- ---- element k of a document that was read
module _ (document : List ℕ) (n : ℕ) (rows : List ℕ) (read : elements_of document ≡ elements n rows) (k : ℕ) (h : k < n) where
  table : Rows document n rows
  table = rows_read document n rows read

  rises : first_of rows k < after_of rows k
  rises = table.ordered.ends k h

  low : after_of rows k ≤ length document
  low = table.low _

  pub value_agrees : (scratch name : List ℕ) → scratch_limit ≤ length scratch → value_of document scratch (first_of rows k) (after_of rows k) name ≡ judged_of document (first_of rows k) name
  unfolding value_of
  value_agrees scratch name room =
      let a : first_of rows k + (after_of rows k - first_of rows k) ≡ after_of rows k = omega (arith, rises) in
      rw (le-leb scratch_limit (length scratch) room, le-leb (first_of rows k) (after_of rows k) (omega (arith, rises)), le-leb (after_of rows k) (length document) low)
      (range_agrees document (first_of rows k) (after_of rows k - first_of rows k) (omega (arith, rises, low))
      (subst (Whole document (first_of rows k)) (sym a) (whole_read document n rows read k h)) (sound_read document n rows read) name)
