-- The elements of a document (document 01, "Reading the document"): the pieces are taken from the left, and at the end no element is open and there
-- is a root. The rows go to the table, where it has room for them.
-- Assumes nothing.
use Rattle.std.specs.Prelude.{ℕ, ◌+◌, ◌-◌, ◌*◌, ◌≡◌, List, ◌++◌, leb, ltb, eqb, length, drop, Result, Ok}
use Rattle.refusals.specs.declared.Reason.TheVariants.{LongDocument, BadCharacter, Malformed, ShortElements}
use Rattle.refusals.specs.declared.Refusal.{Refusal}
use Rattle.refusals.specs.Numbers.{refuses}
use Rattle.text_scan.specs.Choice.{pick, ◌and◌}
use Rattle.text_scan.specs.Turns.{Turn, out, run}
use Rattle.text_chars.specs.Utf8.{first_bad}
use Rattle.xml_reader.specs.Limits.{document_limit}
use Rattle.xml_pieces.specs.declared.Scanned.TheVariants.{Refused}
use Rattle.xml_pieces.specs.Pieces.{piece_at}
use Rattle.xml_steps.specs.Reading.{Reading, fresh, Read, refused, elements, document_part, by_piece}

-- at the document's length: no element is open, and there is a root
abbrev pub at_end : List ℕ → Reading → Read
at_end s r = pick (eqb r.depth 0 and ltb 0 r.count) (elements r.count r.rows) (refused Malformed (length s))

unfoldable pub turn : List ℕ → Reading → Turn Reading Read
turn s r =
    pick (ltb r.at (length s)) (by_piece s r (piece_at s r.at (document_part r.count r.depth))) (out (at_end s r))

-- what is left of the document, which falls with each piece
abbrev pub left : List ℕ → Reading → ℕ
left s r = length s - r.at

-- all pieces from a reading on
unfoldable pub read_from : List ℕ → Reading → Read
read_from s r = run (turn s) (refused Malformed (length s)) (left s) r

-- Refusals 1 and 5 stand before those of a piece
unfoldable pub elements_of : List ℕ → Read
elements_of s =
    pick (ltb document_limit (length s)) (refused LongDocument (length s))
    (pick (ltb (first_bad s) (length s)) (refused BadCharacter (first_bad s)) (read_from s fresh))

-- what `read` answers, where the lent table has room for so many numbers
abbrev pub answer_of : Read → ℕ → Result ℕ Refusal
answer_of (refused n place) room = refuses n place
answer_of (elements n rows) room = pick (leb (4 * n) room) (Ok n) (refuses ShortElements n)

-- what the table then holds: the rows and the rest as it was; a refusal leaves all as it was
abbrev pub table_after : Read → List ℕ → List ℕ
table_after (refused n place) table = table
table_after (elements n rows) table = pick (leb (4 * n) (length table)) (rows ++ drop (4 * n) table) table

-- what a reading answers and leaves of a table
pub record ElementsLeft (x : Read) (table : List ℕ) (answer : Result ℕ Refusal) (after : List ℕ) : Type 0 where
  pub answers : answer ≡ answer_of x (length table)
  pub leaves : after ≡ table_after x table
