-- Where an end tag ends (XML 1.0, production [42]): "</", the element's name, white space, if any, and '>'.
-- Assumes nothing.
use Rattle.std.specs.Prelude.{ℕ, ◌+◌, List, eqb, ltb, get_or, Option, None, Some}
use Prim.Native.Char.{code}
use Rattle.text_scan.specs.Choice.{pick, ◌and◌}
use Rattle.text_scan.specs.Bytes.{text}
use Rattle.text_scan.specs.Lists.{stands}
use Rattle.xml_names.specs.Names.{space_end}
use Rattle.xml_names.specs.ElementNames.{element_end}

-- the place after '>' at position j
unfoldable pub closed_by : List ℕ → ℕ → Option ℕ
closed_by s j = pick (eqb (get_or s j 0) (code ">")) (Some (j + 1)) None

-- the end tag at position `at`, whose name ends at n
unfoldable pub end_tag_to : List ℕ → ℕ → ℕ → Option ℕ
end_tag_to s at n = pick (stands (text "</") s at and ltb (at + 2) n) (closed_by s (space_end s n)) None

abbrev pub end_tag_end : List ℕ → ℕ → Option ℕ
end_tag_end s at = end_tag_to s at (element_end s (at + 2))
