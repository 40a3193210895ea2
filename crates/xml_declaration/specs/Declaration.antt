-- The XML declaration (XML 1.0, productions [23], [24], [32] and [80]), narrowed: "<?xml", version 1.0; encoding, if named, UTF-8 in any case;
-- standalone, if named, yes or no; and "?>". It can stand at position 0 only.
-- Assumes nothing.
use Rattle.std.specs.Prelude.{ℕ, ◌+◌, ◌-◌, Bool, true, false, List, eqb, ltb, length, get_or, Option, None, Some}
use Rattle.text_scan.specs.Choice.{pick, ◌and◌}
use Rattle.text_scan.specs.Bytes.{text}
use Rattle.text_scan.specs.Lists.{stands}
use Rattle.xml_markup.specs.AnyCase.{stands_any_case}
use Rattle.xml_names.specs.Names.{is_space, space_end}
use Rattle.xml_names.specs.Values.{value_start}

-- the document begins with a declaration, well formed or not
unfoldable pub is_declaration : List ℕ → Bool
is_declaration s = stands (text "<?xml") s 0 and is_space (get_or s 5 0)

-- the text stands at a position, as it is or in any case of its letters
abbrev pub stands_in : Bool → List ℕ → List ℕ → ℕ → Bool
stands_in any t s i = pick any (stands_any_case t s i) (stands t s i)

-- the place after the value and its closing quote, which is the opening one again; i if the value that starts there is another
unfoldable pub valued : Bool → List ℕ → List ℕ → ℕ → Option ℕ → ℕ
valued any value s i (Some v) =
    pick (stands_in any value s v and eqb (get_or s (v + length value) 0) (get_or s (v - 1) 0)) (v + length value + 1) i
valued any value s i None = i

-- white space, the name, Eq and the value in quotes: the place after them, which is i where they do not stand
unfoldable pub setting_end : Bool → List ℕ → List ℕ → List ℕ → ℕ → ℕ
setting_end any name value s i =
    pick (ltb i (space_end s i) and stands name s (space_end s i)) (valued any value s i (value_start s (space_end s i + length name))) i

abbrev pub version_end : List ℕ → ℕ → ℕ
version_end s i = setting_end false (text "version") (text "1.0") s i

abbrev pub encoding_end : List ℕ → ℕ → ℕ
encoding_end s i = setting_end true (text "encoding") (text "utf-8") s i

unfoldable pub standalone_end : List ℕ → ℕ → ℕ
standalone_end s i =
    pick (ltb i (setting_end false (text "standalone") (text "yes") s i))
    (setting_end false (text "standalone") (text "yes") s i)
    (setting_end false (text "standalone") (text "no") s i)

-- the place after "?>" at position i
unfoldable pub closing_end : List ℕ → ℕ → Option ℕ
closing_end s i = pick (stands (text "?>") s i) (Some (i + 2)) None

-- behind the version, which ends at v: position 5 if none stands there
unfoldable pub versioned : List ℕ → ℕ → Option ℕ
versioned s v = pick (ltb 5 v) (closing_end s (space_end s (standalone_end s (encoding_end s v)))) None

-- the place after the declaration
unfoldable pub declaration_end : List ℕ → Option ℕ
declaration_end s = pick (stands (text "<?xml") s 0) (versioned s (version_end s 5)) None
