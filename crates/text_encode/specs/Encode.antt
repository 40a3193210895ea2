-- The bytes of a code point in UTF-8 (RFC 3629, section 3): the first form that holds it. A number past the last code point has none.
-- Assumes nothing.
use Rattle.std.specs.Prelude.{ℕ, ◌+◌, ◌/◌, ◌%◌, List, [], ◌∷◌, leb}
use Rattle.text_scan.specs.Choice.{pick}

-- a tail holds six bits
abbrev pub tail_of : ℕ → ℕ
tail_of x = 0x80 + x % 64

unfoldable pub encoded : ℕ → List ℕ
encoded c =
    pick (leb c 0x7F) (c ∷ [])
    (pick (leb c 0x7FF) ((0xC0 + c / 64) ∷ tail_of c ∷ [])
    (pick (leb c 0xFFFF) ((0xE0 + c / 4096) ∷ tail_of (c / 64) ∷ tail_of c ∷ [])
    (pick (leb c 0x10FFFF) ((0xF0 + c / 262144) ∷ tail_of (c / 4096) ∷ tail_of (c / 64) ∷ tail_of c ∷ []) [])))
