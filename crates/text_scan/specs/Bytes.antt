-- The bytes of an ASCII text, and the classes of bytes that more than one layer needs.
-- Assumes nothing.
use Rattle.std.specs.Prelude.{ℕ, ◌+◌, Bool, List, [], ◌∷◌}
use Prim.Native.Char.{code}
use Prim.Native.String.{String, [] as empty, ◌∷◌ as ◌▸◌}
use Rattle.text_scan.specs.Choice.{pick, ◌or◌, between}

-- the bytes of a text of ASCII characters
abbrev pub text : String → List ℕ
text empty = []
text (c ▸ cs) = code c ∷ text cs

abbrev pub is_digit : ℕ → Bool
is_digit b = between (code "0") (code "9") b

-- hexadecimal digits in lower case
abbrev pub is_lower_hex : ℕ → Bool
is_lower_hex b = is_digit b or between (code "a") (code "f") b

-- a letter A to Z made small, any other byte as it is
abbrev pub lower : ℕ → ℕ
lower b = pick (between (code "A") (code "Z") b) (b + 32) b
