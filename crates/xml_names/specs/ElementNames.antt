-- Element names, which have no colon, and the question whether a name is a given text.
-- Assumes nothing.
use Rattle.std.specs.Prelude.{ℕ, Bool, List, eqb, get_or}
use Prim.Native.Char.{code}
use Rattle.text_scan.specs.Choice.{pick, ◌and◌, not}
use Rattle.text_scan.specs.Lists.{run_from}
use Rattle.xml_names.specs.Names.{is_name_start, is_name_char}

-- what an element name begins with, and what it goes on with
abbrev pub is_element_start : ℕ → Bool
is_element_start b = is_name_start b and not (eqb b (code ":"))

abbrev pub is_element_char : ℕ → Bool
is_element_char b = is_name_char b and not (eqb b (code ":"))

-- the place after the element name at position i, which is i where none starts
unfoldable pub element_end : List ℕ → ℕ → ℕ
element_end s i = pick (is_element_start (get_or s i 0)) (run_from is_element_char s i) i
