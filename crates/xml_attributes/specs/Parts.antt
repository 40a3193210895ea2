-- The parts of a tag behind its name: attributes, each behind white space, and how the tag ends. The attributes of a tag by their positions, and
-- the tests on these.
-- Assumes nothing.
use Rattle.std.specs.Prelude.{ℕ, ◌+◌, ◌-◌, Bool, true, false, List, [], ◌∷◌, Option, Some, None, eqb, ltb, length, get_or, Result, Ok, Err}
use Rattle.refusals.specs.declared.Reason.TheVariants.{Malformed}
use Rattle.refusals.specs.declared.Reason.{Reason}
use Prim.Native.Char.{code}
use Rattle.text_scan.specs.Choice.{pick, ◌or◌}
use Rattle.text_scan.specs.Bytes.{text}
use Rattle.text_scan.specs.Lists.{stands}
use Rattle.xml_names.specs.Names.{space_end, name_at, name_is}
use Rattle.xml_attributes.specs.declared.Attribute.{Attribute}
use Rattle.xml_attributes.specs.declared.TagPart.{TagPart}
use Rattle.xml_attributes.specs.declared.TagPart.TheVariants.{Read, Ended}
use Rattle.xml_attributes.specs.declared.Tag.{Tag}
use Rattle.xml_attributes.specs.declared.Tag.TheVariants.{Start, Empty}
use Rattle.xml_attributes.specs.Attributes.{attribute_at}
use Rattle.xml_attributes.specs.Chains.{Piece, holds, ends, Chain, chain_from}

-- ---- the parts of a tag behind its name
-- an attribute, or malformed
abbrev pub read_at : Option Attribute → TagPart
read_at (Some a) = Read a
read_at None = Ended (Err Malformed)

-- the part behind position i, where the white space ends at j
unfoldable pub part_to : List ℕ → ℕ → ℕ → TagPart
part_to s i j =
    pick (eqb (get_or s j 0) (code ">")) (Ended (Ok (Start (j + 1))))
    (pick (stands (text "/>") s j) (Ended (Ok (Empty (j + 2))))
    (pick (ltb i j) (read_at (attribute_at s j)) (Ended (Err Malformed))))

abbrev pub part_at : List ℕ → ℕ → TagPart
part_at s i = part_to s i (space_end s i)

-- the next part stands behind the closing quote
abbrev pub in_chain : ℕ → TagPart → Piece (Result Tag Reason)
in_chain i (Read a) = holds a.at (a.value_end - i)
in_chain i (Ended t) = ends t

unfoldable pub tag_piece_at : List ℕ → ℕ → Piece (Result Tag Reason)
tag_piece_at s i = in_chain i (part_at s i)

-- the attributes of the tag whose element name ends at n, by their positions, and how the tag ends: an unfinished one is malformed
unfoldable pub attributes : List ℕ → ℕ → Chain (Result Tag Reason)
attributes s n = chain_from (tag_piece_at s) (Err Malformed) (length s) n

-- ---- the tests on the list
-- one of the attributes has the property, which may ask for those behind it
unfoldable pub some_attribute : (ℕ → List ℕ → Bool) → List ℕ → Bool
some_attribute p [] = false
some_attribute p (b ∷ bs) = p b bs or some_attribute p bs

-- one of them has the name t
abbrev pub some_named : List ℕ → List ℕ → List ℕ → Bool
some_named t s bs = some_attribute (λ b _. name_is t s b) bs

-- two of them have the same name
abbrev pub repeated : List ℕ → List ℕ → Bool
repeated s bs = some_attribute (λ b behind. some_named (name_at s b) s behind) bs
