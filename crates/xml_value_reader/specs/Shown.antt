-- The value reader (document 01, "Reading the document"). It takes document, scratch, an element's byte range and an attribute name, empty for the
-- text. An absent value, scratch under 4,096 bytes, a range outside the document, not opening an element or, for a text, not one element, or a fault
-- of 5 to 8 in what is read shows an empty part of the document with scratch unchanged.
-- Assumes nothing.
use Rattle.std.specs.Prelude.{ℕ, ◌+◌, ◌≡◌, Bool, true, false, List, [], ◌∷◌, eqb, leb, length, take, Option, None, Some, Result, Ok, Err}
use Rattle.refusals.specs.declared.Reason.{Reason}
use Rattle.text_scan.specs.Choice.{pick, ◌and◌}
use Rattle.text_chars.specs.Utf8.{first_bad}
use Rattle.xml_reader.specs.Limits.{scratch_limit}
use Rattle.xml_references.specs.Decoded.{part}
use Rattle.xml_attributes.specs.declared.Tag.{Tag}
use Rattle.xml_attributes.specs.declared.Tag.TheVariants.{Start, Empty}
use Rattle.xml_names.specs.Names.{name_at, name_is}
use Rattle.xml_tags.specs.Tags.{tag_at}
use Rattle.xml_tags.specs.EndTags.{end_tag_end}
use Rattle.xml_values.specs.declared.Place.{Place}
use Rattle.xml_values.specs.declared.View.{View}
use Rattle.xml_values.specs.declared.View.TheVariants.{Document, Scratch}
use Rattle.xml_values.specs.Attributes.{attribute_place, value_at}
use Rattle.xml_texts.specs.Texts.{text_place, text_at}
use Rattle.xml_values.specs.Views.{view_of, scratch_after}

-- ---- faults in what is read of a range r, whose bytes are read as a document of their own
-- no bad UTF-8 or character
abbrev pub is_sound : List ℕ → Bool
is_sound xs = eqb (first_bad xs) (length xs)

-- the first piece opens an element: a start or an empty-element tag, well formed and within the limits
abbrev pub is_tag : Result Tag Reason → Bool
is_tag (Ok tag) = true
is_tag (Err reason) = false

-- for an attribute no more is read than that piece
abbrev pub is_sound_tag : List ℕ → Result Tag Reason → Bool
is_sound_tag r (Ok (Start after)) = is_sound (take after r)
is_sound_tag r (Ok (Empty after)) = is_sound (take after r)
is_sound_tag r (Err n) = false

unfoldable pub opens : List ℕ → Bool
opens r = is_sound_tag r (tag_at r 0)

-- for a text all is read, and is one element: the end tag behind the content, at position e, is the last piece and has the start tag's name
abbrev pub ends_with : List ℕ → ℕ → Option ℕ → Bool
ends_with r e (Some after) = eqb after (length r) and name_is (name_at r 1) r (e + 2)
ends_with r e None = false

unfoldable pub closes : List ℕ → Option Place → Bool
closes r (Some p) = ends_with r p.after (end_tag_end r p.after)
closes r None = false

unfoldable pub is_element : List ℕ → Bool
is_element r = is_sound r and is_tag (tag_at r 0) and closes r (text_place r 0)

-- ---- the value asked for: its raw place in the range, and what it says
unfoldable pub place_in : List ℕ → List ℕ → Option Place
place_in r [] = pick (is_element r) (text_place r 0) None
place_in r (c ∷ name) = pick (opens r) (attribute_place r 0 (c ∷ name)) None

unfoldable pub bytes_in : List ℕ → List ℕ → List ℕ
bytes_in r [] = text_at r (place_in r [])
bytes_in r (c ∷ name) = value_at r (place_in r (c ∷ name))

-- ---- what is shown
-- the view of a range that begins at `first`, as a view of the document
abbrev pub moved : ℕ → View → View
moved first (Document a e) = Document (first + a) (first + e)
moved first (Scratch n) = Scratch n

-- a view, and the scratch area with it
pub record ValueOutcome : Type 0 where
  pub view : View
  pub scratch : List ℕ

abbrev pub showing : ℕ → List ℕ → List ℕ → List ℕ → ValueOutcome
showing first r name scratch =
    record { view = moved first (view_of r (place_in r name) (bytes_in r name)); scratch = scratch_after (view_of r (place_in r name) (bytes_in r name)) (bytes_in r name) scratch }

abbrev pub showing_nothing : List ℕ → ValueOutcome
showing_nothing scratch = record { view = Document 0 0; scratch = scratch }

-- the scratch area has room, and the range stands in the document
abbrev pub is_readable : List ℕ → List ℕ → ℕ → ℕ → Bool
is_readable document scratch first after = leb scratch_limit (length scratch) and leb first after and leb after (length document)

unfoldable pub shown_of : List ℕ → List ℕ → ℕ → ℕ → List ℕ → ValueOutcome
shown_of document scratch first after name =
    pick (is_readable document scratch first after) (showing first (part document first after) name scratch) (showing_nothing scratch)

-- the bytes that are seen then
unfoldable pub value_of : List ℕ → List ℕ → ℕ → ℕ → List ℕ → List ℕ
value_of document scratch first after name =
    pick (is_readable document scratch first after) (bytes_in (part document first after) name) []

-- what the value reader answers, and leaves of the scratch area
pub record Fills (o : ValueOutcome) (view : View) (after : List ℕ) : Type 0 where
  pub answers : view ≡ o.view
  pub leaves : after ≡ o.scratch
