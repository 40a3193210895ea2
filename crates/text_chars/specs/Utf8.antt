-- The characters of a document: UTF-8 (RFC 3629, sections 3 and 4), only the characters of XML 1.0's production [2], and no byte order
-- mark in front. `first_bad` is the place of refusal 5.
-- Assumes nothing.
use Rattle.std.specs.Prelude.{ℕ, zero, suc, ◌+◌, ◌-◌, ◌*◌, Bool, List, [], ◌∷◌, leb, eqb, length, get_or}
use Rattle.text_scan.specs.Choice.{pick, ◌or◌, ◌and◌, between}
use Rattle.text_scan.specs.Lists.{stands}
use Rattle.text_scan.specs.Walk.{Next, skip, done, from}

-- [2] Char ::= #x9 | #xA | #xD | [#x20-#xD7FF] | [#xE000-#xFFFD] | [#x10000-#x10FFFF]
unfoldable pub is_xml_char : ℕ → Bool
is_xml_char c =
    eqb c 0x9 or eqb c 0xA or eqb c 0xD or between 0x20 0xD7FF c or between 0xE000 0xFFFD c
    or between 0x10000 0x10FFFF c

-- what stands at a position: no character, or one, of a width in bytes and a code point
pub data Char : Type 0 where
  none : Char
  char : ℕ → ℕ → Char

-- a code point is sound in a form of w bytes if it is at least the form's first, so that no shorter form has it, and is a Char
unfoldable pub sound : ℕ → ℕ → ℕ → Char
sound w least c = pick (leb least c and is_xml_char c) (char w c) none

-- UTF8-tail = %x80-BF
unfoldable pub tail : ℕ → Bool
tail b = between 0x80 0xBF b

-- The forms: 0xxxxxxx, 110xxxxx 10xxxxxx, 1110xxxx 10xxxxxx 10xxxxxx, 11110xxx 10xxxxxx 10xxxxxx 10xxxxxx
unfoldable pub decode : ℕ → ℕ → ℕ → ℕ → Char
decode a b c d =
    pick (between 0x00 0x7F a) (sound 1 0 a)
    (pick (between 0xC0 0xDF a and tail b) (sound 2 0x80 ((a - 0xC0) * 64 + (b - 0x80)))
    (pick (between 0xE0 0xEF a and tail b and tail c) (sound 3 0x800 ((a - 0xE0) * 4096 + (b - 0x80) * 64 + (c - 0x80)))
    (pick (between 0xF0 0xF7 a and tail b and tail c and tail d)
    (sound 4 0x10000 ((a - 0xF0) * 262144 + (b - 0x80) * 4096 + (c - 0x80) * 64 + (d - 0x80)))
    none)))

-- the character at position i. Past the end stands 0, which is neither a tail nor a Char
unfoldable pub char_at : List ℕ → ℕ → Char
char_at s i = decode (get_or s i 0) (get_or s (i + 1) 0) (get_or s (i + 2) 0) (get_or s (i + 3) 0)

abbrev pub width_of : Char → ℕ
width_of none = 0
width_of (char w c) = w

-- where no character stands the walk is done, at that position; else it goes on behind the character
abbrev pub char_step : ℕ → ℕ → Next ℕ
char_step i zero = done i
char_step i (suc w) = skip w

abbrev pub steps : List ℕ → ℕ → Next ℕ
steps s i = char_step i (width_of (char_at s i))

-- the byte order mark, which is U+FEFF
abbrev pub mark : List ℕ
mark = 0xEF ∷ 0xBB ∷ 0xBF ∷ []

-- the first bad byte: of a byte order mark in front, or the first where no character stands; or the length
unfoldable pub first_bad : List ℕ → ℕ
first_bad s = pick (stands mark s 0) 0 (from (steps s) (length s) (length s) 0)
