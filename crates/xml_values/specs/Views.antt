-- How a value is shown (document 01, "Reading the document"): one without references or dropped parts as that part of the document, any other as the
-- front of the scratch area. An absent value is an empty part of the document, and with scratch under 4,096 bytes every value is.
-- Assumes nothing.
use Rattle.std.specs.Prelude.{ℕ, ◌+◌, ◌≤◌, ◌≡◌, Bool, List, [], ◌++◌, eqb, leb, length, take, drop, Option, None, Some}
use Prim.Native.Char.{code}
use Rattle.std.specs.Borrow.{Bor, MutBor}
use Rattle.text_scan.specs.Choice.{pick, ◌and◌, not}
use Rattle.text_scan.specs.Lists.{every}
use Rattle.xml_reader.specs.Limits.{value_limit}
use Rattle.xml_references.specs.Decoded.{part}
use Rattle.xml_values.specs.declared.Place.{Place}
use Rattle.xml_values.specs.declared.View.{View}
use Rattle.xml_values.specs.declared.View.TheVariants.{Document, Scratch}
use Rattle.xml_values.specs.Places.{from_to}

-- a byte that begins neither a reference nor a comment or an instruction
abbrev pub is_shown : ℕ → Bool
is_shown b = not (eqb b (code "&")) and not (eqb b (code "<"))

-- how the value with this raw place, which says these bytes, is shown
unfoldable pub view_of : List ℕ → Option Place → List ℕ → View
view_of s (Some p) bytes = pick (every is_shown (part s p.first p.after)) (Document p.first p.after) (Scratch (length bytes))
view_of s None bytes = Document 0 0

-- the same with this scratch area, and the bytes that are seen then
unfoldable pub view_in : List ℕ → List ℕ → Option Place → List ℕ → View
view_in scratch s place bytes = pick (leb value_limit (length scratch)) (view_of s place bytes) (Document 0 0)

unfoldable pub said_in : List ℕ → List ℕ → List ℕ
said_in scratch bytes = pick (leb value_limit (length scratch)) bytes []

-- where a value stands that says the bytes there; an absent one is an empty part. Nothing where it has to be decoded
unfoldable pub plain_of : List ℕ → Option Place → Option Place
plain_of s (Some p) = pick (every is_shown (part s p.first p.after)) (from_to p.first p.after) None
plain_of s None = from_to 0 0

-- the scratch area then: only the bytes that are shown there change
unfoldable pub scratch_after : View → List ℕ → List ℕ → List ℕ
scratch_after (Document a e) bytes scratch = scratch
scratch_after (Scratch n) bytes scratch = bytes ++ drop n scratch

-- the bytes that are shown
abbrev pub seen : List ℕ → List ℕ → View → List ℕ
seen s scratch (Document a e) = part s a e
seen s scratch (Scratch n) = take n scratch

-- the numbers of a view are in range of what is meant
abbrev pub InRange : List ℕ → List ℕ → View → Type 0
InRange s scratch (Document a e) = (a ≤ e) × (e ≤ length s)
InRange s scratch (Scratch n) = n ≤ length scratch

-- the same view where its numbers are in range of so many bytes of the document and of the scratch area; an empty part of the document where not
unfoldable pub view_within : ℕ → ℕ → View → View
view_within m k (Document a e) = pick (leb a e and leb e m) (Document a e) (Document 0 0)
view_within m k (Scratch n) = pick (leb n k) (Scratch n) (Document 0 0)

-- what a reader of a value with this raw place, which says these bytes, answers, and leaves of the scratch area
pub record Shows (s : List ℕ) (place : Option Place) (bytes scratch : List ℕ) (view : View) (after : List ℕ) : Type 0 where
  pub answers : view ≡ view_in scratch s place bytes
  pub leaves : after ≡ scratch_after (view_in scratch s place bytes) bytes scratch

-- a slice that is lent for writing, as one that is read
abbrev pub as_read : MutBor (List ℕ) → Bor (List ℕ)
as_read w = record { ref_ptr = w.ref_ptr; now = w.now }

-- where the bytes of a view stand: so many behind the first of the document, or from the first of the scratch area on
abbrev pub stand_of : Bor (List ℕ) → Bor (List ℕ) → View → ℕ × ℕ
stand_of s scratch (Document a e) = (s.ref_ptr.0, a + s.ref_ptr.1)
stand_of s scratch (Scratch n) = scratch.ref_ptr

-- the slice that shows a value: it says these bytes, and stands where the view has them
pub record ShowsAt (s scratch : Bor (List ℕ)) (view : View) (bytes : List ℕ) (r : Bor (List ℕ)) : Type 0 where
  pub says : r.now ≡ bytes
  pub stands : r.ref_ptr ≡ stand_of s scratch view
