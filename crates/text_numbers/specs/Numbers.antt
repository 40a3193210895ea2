-- Decimal numbers, and version numbers.
-- Assumes nothing.
use Rattle.std.specs.Prelude.{ℕ, ◌+◌, ◌-◌, ◌*◌, List, [], ◌∷◌, length}
use Prim.Native.Char.{code}
use Rattle.text_scan.specs.Choice.{pick, ◌and◌, between}
use Rattle.text_scan.specs.Bytes.{is_digit}
use Rattle.text_scan.specs.Lists.{every}

-- the value of digits that follow digits of the value v; leading zeros are digits
unfoldable pub value_after : ℕ → List ℕ → ℕ
value_after v [] = v
value_after v (b ∷ bs) = value_after (v * 10 + (b - code "0")) bs

-- the value of a string of digits
abbrev pub decimal_of : List ℕ → ℕ
decimal_of s = value_after 0 s

-- a version number has 1 to 9 digits and is above 0: its value, and 0 for any other string
unfoldable pub version_of : List ℕ → ℕ
version_of s = pick (between 1 9 (length s) and every is_digit s) (decimal_of s) 0
