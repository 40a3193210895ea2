-- White space and names (XML 1.0, productions [3] to [5], with the names of ASCII letters): their bytes, and where a run of them ends.
-- Assumes nothing.
use Rattle.std.specs.Prelude.{ℕ, ◌-◌, Bool, List, eqb, get_or, length, take, drop}
use Prim.Native.Char.{code}
use Rattle.text_scan.specs.Choice.{pick, ◌or◌, between, ◌and◌}
use Rattle.text_scan.specs.Bytes.{is_digit}
use Rattle.text_scan.specs.Lists.{run_from, stands}

-- a space, a tab, a carriage return or a line feed
abbrev pub is_space : ℕ → Bool
is_space b = eqb b 0x20 or eqb b 0x9 or eqb b 0xD or eqb b 0xA

abbrev pub is_letter : ℕ → Bool
is_letter b = between (code "A") (code "Z") b or between (code "a") (code "z") b

-- what a name begins with, and what it goes on with
abbrev pub is_name_start : ℕ → Bool
is_name_start b = is_letter b or eqb b (code "_") or eqb b (code ":")

abbrev pub is_name_char : ℕ → Bool
is_name_char b = is_name_start b or is_digit b or eqb b (code "-") or eqb b (code ".")

-- the place after the white space from position i on
abbrev pub space_end : List ℕ → ℕ → ℕ
space_end s i = run_from is_space s i

-- the place after the name at position i, which is i where no name starts; past the end of s stands 0, which starts none
unfoldable pub name_end : List ℕ → ℕ → ℕ
name_end s i = pick (is_name_start (get_or s i 0)) (run_from is_name_char s i) i

-- the name at position i
abbrev pub name_at : List ℕ → ℕ → List ℕ
name_at s i = take (name_end s i - i) (drop i s)

-- the name at position i is the text t: the text stands there, and the name is as long
unfoldable pub name_is : List ℕ → List ℕ → ℕ → Bool
name_is t s i = stands t s i and eqb (name_end s i - i) (length t)
