-- Byte strings against each other, GUIDs, labeler codes, and strings without a space.
-- Assumes nothing.
use Rattle.std.specs.Prelude.{ℕ, Bool, false, List, [], ◌∷◌, eqb, length, get_or}
use Prim.Native.Char.{code}
use Rattle.text_scan.specs.Choice.{pick, ◌or◌, ◌and◌, not}
use Rattle.text_scan.specs.Bytes.{text, is_digit, is_lower_hex, lower}
use Rattle.text_scan.specs.Lists.{every, pairs, begins}

-- the same bytes
unfoldable pub equal : List ℕ → List ℕ → Bool
equal a b = pairs eqb a b

-- the same bytes, ASCII case ignored
unfoldable pub equal_in_any_case : List ℕ → List ℕ → Bool
equal_in_any_case a b = pairs (λ x y. eqb (lower x) (lower y)) a b

-- the second string begins with the first
unfoldable pub begins_with : List ℕ → List ℕ → Bool
begins_with t s = begins t s

-- no space (U+0020)
unfoldable pub without_space : List ℕ → Bool
without_space s = every (λ b. not (eqb b (code " "))) s

-- a GUID is lower case hexadecimal, 8-4-4-4-12: a digit stands where this form has an x, a hyphen where it has a hyphen
abbrev pub guid_form : List ℕ
guid_form = text "xxxxxxxx-xxxx-xxxx-xxxx-xxxxxxxxxxxx"

abbrev pub guid_byte : ℕ → ℕ → Bool
guid_byte b form = pick (eqb form (code "-")) (eqb b (code "-")) (is_lower_hex b)

unfoldable pub is_guid : List ℕ → Bool
is_guid s = pairs guid_byte s guid_form

-- Procedure 20: 4 digits, or 5 without a leading zero; not 0000, 0001, 1500, 1800, 1900
abbrev pub reserved : List (List ℕ)
reserved = text "0000" ∷ text "0001" ∷ text "1500" ∷ text "1800" ∷ text "1900" ∷ []

unfoldable pub is_one_of : List (List ℕ) → List ℕ → Bool
is_one_of [] s = false
is_one_of (t ∷ ts) s = equal s t or is_one_of ts s

unfoldable pub is_labeler_code : List ℕ → Bool
is_labeler_code s =
    every is_digit s
    and (eqb (length s) 4 or eqb (length s) 5 and not (eqb (get_or s 0 0) (code "0")))
    and not (is_one_of reserved s)
