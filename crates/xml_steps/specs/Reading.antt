-- The reading of a document, piece by piece (document 01, "Reading the document"): a start tag opens an element, its end tag closes it, and each
-- element gets a row of four numbers.
-- Assumes nothing.
use Rattle.std.specs.Prelude.{ℕ, zero, suc, ◌+◌, ◌-◌, ◌*◌, Bool, List, [], ◌∷◌, ◌++◌, leb, ltb, get_or, set}
use Rattle.refusals.specs.declared.Reason.TheVariants.{Malformed, PastLimit}
use Rattle.refusals.specs.declared.Reason.{Reason}
use Rattle.text_scan.specs.Choice.{pick, ◌or◌, ◌and◌}
use Rattle.text_scan.specs.Turns.{Turn, on, out}
use Rattle.text_facts.specs.Strings.{equal}
use Rattle.xml_reader.specs.Limits.{elements_limit, depth_limit, value_limit}
use Rattle.xml_pieces.specs.declared.Kind.TheVariants.{Text, Comment, Instruction, Declaration, Start, Empty, End}
use Rattle.xml_pieces.specs.declared.DocumentPart.{DocumentPart}
use Rattle.xml_pieces.specs.declared.DocumentPart.TheVariants.{Before, Inside, After}
use Rattle.xml_pieces.specs.declared.Scanned.{Scanned}
use Rattle.xml_pieces.specs.declared.Scanned.TheVariants.{Piece, Refused}
use Rattle.xml_names.specs.Names.{name_at}

-- Where a reading stands: the place of the next piece, the elements so far, how many of them are open, the number of the
-- innermost open one, and the rows. The open elements are the innermost one, its parent, and so on
pub record Reading : Type 0 where
  pub at : ℕ
  pub count : ℕ
  pub depth : ℕ
  pub top : ℕ
  pub rows : List ℕ

abbrev pub fresh : Reading
fresh = record { at = 0; count = 0; depth = 0; top = 0; rows = [] }

-- what a row has: its number, its parent's, its first byte, the byte after its end. Of an open element the last is the byte
-- after its start tag
abbrev pub element_row : ℕ → ℕ → ℕ → ℕ → List ℕ
element_row number parent first after = number ∷ parent ∷ first ∷ after ∷ []

abbrev pub parent_of : List ℕ → ℕ → ℕ
parent_of rows n = get_or rows (4 * n + 1) 0

abbrev pub first_of : List ℕ → ℕ → ℕ
first_of rows n = get_or rows (4 * n + 2) 0

abbrev pub after_of : List ℕ → ℕ → ℕ
after_of rows n = get_or rows (4 * n + 3) 0

-- a piece that is no tag is read over
abbrev pub passed : Reading → ℕ → Reading
passed r after = record { at = after; count = r.count; depth = r.depth; top = r.top; rows = r.rows }

-- a tag adds an element inside the innermost open one, after which so many are open, the innermost of this number
abbrev pub added : Reading → ℕ → ℕ → ℕ → Reading
added r after depth top =
    record { at = after; count = r.count + 1; depth = depth; top = top; rows = r.rows ++ element_row r.count r.top r.at after }

-- an end tag closes the innermost open element
abbrev pub closed : Reading → ℕ → Reading
closed r after =
    record { at = after; count = r.count; depth = r.depth - 1; top = parent_of r.rows r.top; rows = set r.rows (4 * r.top + 3) after }

-- there is room for one element more, also one level deeper
abbrev pub has_element_room : Reading → Bool
has_element_room r = ltb r.count elements_limit and ltb r.depth depth_limit

-- the name in the end tag is the one in the innermost open element's start tag
abbrev pub is_named : List ℕ → Reading → Bool
is_named s r = equal (name_at s (first_of r.rows r.top + 1)) (name_at s (r.at + 2))

-- the innermost open element has child elements, or a content within the limit
abbrev pub content_fits : Reading → Bool
content_fits r = ltb (r.top + 1) r.count or leb (r.at - after_of r.rows r.top) value_limit

-- the answer: a refusal with its place, or the rows of all elements
pub data Read : Type 0 where
  refused : Reason → ℕ → Read
  elements : ℕ → List ℕ → Read

abbrev pub document_part : ℕ → ℕ → DocumentPart
document_part count (suc depth) = Inside
document_part zero zero = Before
document_part (suc count) zero = After

-- a tag adds an element where there is room
unfoldable pub adding : Reading → ℕ → ℕ → ℕ → Turn Reading Read
adding r after depth top = pick (has_element_room r) (on (added r after depth top)) (out (refused PastLimit r.at))

-- an end tag closes the innermost open element where the name is the same and the content within the limit
unfoldable pub closing : List ℕ → Reading → ℕ → Turn Reading Read
closing s r after =
    pick (is_named s r) (pick (content_fits r) (on (closed r after)) (out (refused PastLimit r.at))) (out (refused Malformed r.at))

-- one piece: a start tag opens the element that it adds, an empty-element tag leaves none open, and what is no tag is read over
unfoldable pub by_piece : List ℕ → Reading → Scanned → Turn Reading Read
by_piece s r (Refused n) = out (refused n r.at)
by_piece s r (Piece Start after) = adding r after (r.depth + 1) r.count
by_piece s r (Piece Empty after) = adding r after r.depth r.top
by_piece s r (Piece End after) = closing s r after
by_piece s r (Piece Text after) = on (passed r after)
by_piece s r (Piece Comment after) = on (passed r after)
by_piece s r (Piece Instruction after) = on (passed r after)
by_piece s r (Piece Declaration after) = on (passed r after)
