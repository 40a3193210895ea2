-- The text of an element (document 01, "Reading the document"): only one without child elements has a text, its character data decoded, comments and
-- instructions dropped. An empty-element tag has none. The pieces of the content are taken from the left, up to the end tag.
-- Assumes nothing.
use Rattle.std.specs.Prelude.{ℕ, ◌+◌, ◌-◌, List, [], ◌∷◌, ◌++◌, leb, length, Option, None, Some, Result, Ok, Err}
use Rattle.refusals.specs.declared.Reason.{Reason}
use Rattle.text_scan.specs.Choice.{pick}
use Rattle.xml_reader.specs.Limits.{value_limit}
use Rattle.xml_references.specs.Decoded.{decoded}
use Rattle.xml_attributes.specs.declared.Tag.{Tag}
use Rattle.xml_attributes.specs.declared.Tag.TheVariants.{Start as Opens, Empty as Stands}
use Rattle.xml_attributes.specs.Chains.{Piece as Step, holds, ends, Chain, items, ending, chain_from}
use Rattle.xml_pieces.specs.declared.Kind.TheVariants.{Text, Comment, Instruction, Declaration, Start, Empty, End}
use Rattle.xml_pieces.specs.declared.DocumentPart.TheVariants.{Inside}
use Rattle.xml_pieces.specs.declared.Scanned.{Scanned}
use Rattle.xml_pieces.specs.declared.Scanned.TheVariants.{Piece, Refused}
use Rattle.xml_pieces.specs.Pieces.{piece_at}
use Rattle.xml_texts.specs.declared.Content.{Content}
use Rattle.xml_texts.specs.declared.Content.TheVariants.{Said, Dropped, Ended, Other}
use Rattle.xml_values.specs.declared.Place.{Place}
use Rattle.xml_values.specs.Attributes.{tag_from}
use Rattle.xml_values.specs.Places.{from_to}

-- what a piece is to the content in which it stands: character data, a part that is dropped, the end, or what leaves no text, which is a child
-- element or a fault
abbrev pub content_of : Scanned → Content
content_of (Piece Text after) = Said after
content_of (Piece Comment after) = Dropped after
content_of (Piece Instruction after) = Dropped after
content_of (Piece Declaration after) = Other
content_of (Piece Start after) = Other
content_of (Piece Empty after) = Other
content_of (Piece End after) = Ended
content_of (Refused n) = Other

unfoldable pub content_at : List ℕ → ℕ → Content
content_at s i = content_of (piece_at s i Inside)

-- the next piece stands behind this one
abbrev pub content_step : ℕ → Content → Step (Option ℕ)
content_step i (Said after) = holds i (after - (i + 1))
content_step i (Dropped after) = holds i (after - (i + 1))
content_step i Ended = ends (Some i)
content_step i Other = ends None

unfoldable pub step_at : List ℕ → ℕ → Step (Option ℕ)
step_at s i = content_step i (content_at s i)

-- the pieces of the content that begins at position a, by their positions, and the place of the end tag behind them
unfoldable pub content_from : List ℕ → ℕ → Chain (Option ℕ)
content_from s a = chain_from (step_at s) None (length s) a

-- ---- the raw content
-- one past the limit, which no document that is read has, is none
abbrev pub content_to : ℕ → Option ℕ → Option Place
content_to a (Some e) = pick (leb (e - a) value_limit) (from_to a e) None
content_to a None = None

abbrev pub content_behind : List ℕ → Result Tag Reason → Option Place
content_behind s (Ok (Opens a)) = content_to a (ending (content_from s a))
content_behind s (Ok (Stands after)) = None
content_behind s (Err n) = None

-- that of the element which begins at `first`
unfoldable pub text_place : List ℕ → ℕ → Option Place
text_place s first = content_behind s (ending (tag_from s first))

-- ---- what it says
abbrev pub says_of : List ℕ → ℕ → Content → List ℕ
says_of s i (Said after) = decoded s i after
says_of s i (Dropped after) = []
says_of s i Ended = []
says_of s i Other = []

-- the pieces at these positions
unfoldable pub saying : List ℕ → List ℕ → List ℕ
saying s [] = []
saying s (i ∷ is) = says_of s i (content_at s i) ++ saying s is

-- the content that begins at position a
unfoldable pub said_from : List ℕ → ℕ → List ℕ
said_from s a = saying s (items (content_from s a))

abbrev pub text_at : List ℕ → Option Place → List ℕ
text_at s (Some p) = said_from s p.first
text_at s None = []

-- the text of the element that begins at `first`
abbrev pub text_of : List ℕ → ℕ → List ℕ
text_of s first = text_at s (text_place s first)
