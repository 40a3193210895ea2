-- The limits of the reader, as document 01 names them.
-- Assumes nothing.
use Rattle.std.specs.Prelude.{ℕ}

-- bytes of a document, and of a tables file
abbrev pub document_limit : ℕ
document_limit = 1048576

abbrev pub tables_limit : ℕ
tables_limit = 1048576

-- elements of a document; open elements, of which the root is the first; attributes of a tag
abbrev pub elements_limit : ℕ
elements_limit = 16384

abbrev pub depth_limit : ℕ
depth_limit = 32

abbrev pub attributes_limit : ℕ
attributes_limit = 16

-- bytes of a name; raw bytes of an attribute value, or of the content of an element without child elements
abbrev pub name_limit : ℕ
name_limit = 64

abbrev pub value_limit : ℕ
value_limit = 4096

-- bytes of scratch that the check and the value reader ask for, which is room for one value
abbrev pub scratch_limit : ℕ
scratch_limit = 4096

-- rows of a section of a tables file, and bytes of a row before its line feed
abbrev pub rows_limit : ℕ
rows_limit = 65535

abbrev pub row_limit : ℕ
row_limit = 4096
