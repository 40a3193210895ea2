-- What the private functions of `first_bad` answer. No definition of document 01 stands here.
-- Assumes nothing.
use Rattle.std.specs.Prelude.{ℕ, zero, suc, ◌+◌, Bool, true, List, Option, None, Some, leb, length, get_or}
use Rattle.text_scan.specs.Choice.{pick, ◌and◌, between}
use Rattle.text_scan.specs.Walk.{from}
use Rattle.text_chars.specs.Utf8.{is_xml_char, Char, none, char, steps}

-- the width of a character, if one stands there
abbrev pub width : Char → Option ℕ
width none = None
width (char w c) = Some w

-- a byte is plain if it is a Char by itself
unfoldable pub plain : ℕ → Bool
plain b = between 0x00 0x7F b and is_xml_char b

-- the k bytes from i on are plain
unfoldable pub plains : List ℕ → ℕ → ℕ → Bool
plains s i zero = true
plains s i (suc k) = plains s i k and plain (get_or s (i + k) 0)

-- the first bad byte of those from i on, or the length
unfoldable pub bad_from : List ℕ → ℕ → ℕ
bad_from s i = from (steps s) (length s) (length s) i

-- the first bad byte, where a walk came to r: r itself if it is before `end`, else one that is still to be found
abbrev pub bad_walked : List ℕ → ℕ → ℕ → ℕ
bad_walked s end r = pick (leb end r) (bad_from s r) r
