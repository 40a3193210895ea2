-- One piece of a document (document 01, "Reading the document"): a run without '<', or one piece of markup that starts at '<'. The answer is its
-- kind with the place after it, or the number of a refusal: 6 is a document type declaration or CDATA, 7 malformed, 8 past a limit.
-- Assumes nothing.
use Rattle.std.specs.Prelude.{ℕ, List, eqb, length, get_or, Option, None, Some, Result, Ok, Err}
use Rattle.refusals.specs.declared.Reason.TheVariants.{Unsupported, Malformed}
use Rattle.refusals.specs.declared.Reason.{Reason}
use Prim.Native.Char.{code}
use Rattle.text_scan.specs.Choice.{pick, ◌or◌, ◌and◌}
use Rattle.text_scan.specs.Bytes.{text}
use Rattle.text_scan.specs.Lists.{stands}
use Rattle.xml_references.specs.Runs.{text_end}
use Rattle.xml_names.specs.Names.{space_end}
use Rattle.xml_markup.specs.Comments.{comment_end}
use Rattle.xml_markup.specs.Instructions.{instruction_end}
use Rattle.xml_declaration.specs.Declaration.{is_declaration, declaration_end}
use Rattle.xml_attributes.specs.declared.Tag.{Tag}
use Rattle.xml_attributes.specs.declared.Tag.TheVariants.{Start as Opens, Empty as Stands}
use Rattle.xml_tags.specs.Tags.{tag_at}
use Rattle.xml_tags.specs.EndTags.{end_tag_end}
use Rattle.xml_pieces.specs.declared.Kind.{Kind}
use Rattle.xml_pieces.specs.declared.Kind.TheVariants.{Text, Comment, Instruction, Declaration, Start, Empty, End}
use Rattle.xml_pieces.specs.declared.DocumentPart.{DocumentPart}
use Rattle.xml_pieces.specs.declared.DocumentPart.TheVariants.{Before, Inside, After}
use Rattle.xml_pieces.specs.declared.Scanned.{Scanned}
use Rattle.xml_pieces.specs.declared.Scanned.TheVariants.{Piece, Refused}

-- what is found is a piece of this kind; what is not, malformed
abbrev pub found : Kind → Option ℕ → Scanned
found kind (Some after) = Piece kind after
found kind None = Refused Malformed

-- white space, which ends at j, is all that may stand outside the root
abbrev pub only_space : List ℕ → ℕ → Scanned
only_space s j = pick (eqb j (length s) or eqb (get_or s j 0) (code "<")) (Piece Text j) (Refused Malformed)

unfoldable pub text_piece_at : List ℕ → ℕ → DocumentPart → Scanned
text_piece_at s i Before = only_space s (space_end s i)
text_piece_at s i Inside = found Text (text_end s i)
text_piece_at s i After = only_space s (space_end s i)

-- "<!"
unfoldable pub bang_at : List ℕ → ℕ → Scanned
bang_at s i =
    pick (stands (text "<!--") s i) (found Comment (comment_end s i))
    (pick (stands (text "<!DOCTYPE") s i or stands (text "<![CDATA[") s i) (Refused Unsupported) (Refused Malformed))

-- "<?"
abbrev pub instructed : Result ℕ Reason → Scanned
instructed (Ok after) = Piece Instruction after
instructed (Err n) = Refused n

unfoldable pub question_at : List ℕ → ℕ → Scanned
question_at s i =
    pick (eqb i 0 and is_declaration s) (found Declaration (declaration_end s)) (instructed (instruction_end s i))

-- "</": an end tag can stand inside the root only
unfoldable pub end_at : List ℕ → ℕ → DocumentPart → Scanned
end_at s i Before = Refused Malformed
end_at s i Inside = found End (end_tag_end s i)
end_at s i After = Refused Malformed

-- any other '<': a start or an empty-element tag, of which there is none after the root
abbrev pub tagged : Result Tag Reason → Scanned
tagged (Ok (Opens after)) = Piece Start after
tagged (Ok (Stands after)) = Piece Empty after
tagged (Err n) = Refused n

unfoldable pub start_at : List ℕ → ℕ → DocumentPart → Scanned
start_at s i Before = tagged (tag_at s i)
start_at s i Inside = tagged (tag_at s i)
start_at s i After = Refused Malformed

unfoldable pub markup_at : List ℕ → ℕ → DocumentPart → Scanned
markup_at s i part =
    pick (stands (text "<!") s i) (bang_at s i)
    (pick (stands (text "<?") s i) (question_at s i)
    (pick (stands (text "</") s i) (end_at s i part) (start_at s i part)))

-- the piece that starts at i, in a part of the document
unfoldable pub piece_at : List ℕ → ℕ → DocumentPart → Scanned
piece_at s i part = pick (eqb (get_or s i 0) (code "<")) (markup_at s i part) (text_piece_at s i part)
