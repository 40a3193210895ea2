-- An attribute (XML 1.0, productions [41], [25] and [10]): its name, Eq and the value in quotes.
-- Assumes nothing.
use Rattle.std.specs.Prelude.{ℕ, ◌-◌, Bool, false, List, Option, Some, None, ltb, get_or}
use Rattle.text_scan.specs.Choice.{pick, ◌or◌}
use Rattle.xml_names.specs.Names.{name_end}
use Rattle.xml_reader.specs.Limits.{name_limit, value_limit}
use Rattle.xml_names.specs.Values.{value_start}
use Rattle.xml_references.specs.Runs.{value_end}
use Rattle.xml_attributes.specs.declared.Attribute.{Attribute}

-- the name stands from i to n; the value stands from v to the place of its closing quote
abbrev pub closed_at : ℕ → ℕ → ℕ → Option ℕ → Option Attribute
closed_at i n v (Some e) = Some (record { at = i; name_end = n; value = v; value_end = e })
closed_at i n v None = None

-- the value starts behind its opening quote, which closes it too
abbrev pub valued_at : List ℕ → ℕ → ℕ → Option ℕ → Option Attribute
valued_at s i n (Some v) = closed_at i n v (value_end s (get_or s (v - 1) 0) v)
valued_at s i n None = None

-- the attribute whose name stands at position i and ends at n
unfoldable pub attribute_to : List ℕ → ℕ → ℕ → Option Attribute
attribute_to s i n = pick (ltb i n) (valued_at s i n (value_start s n)) None

-- the attribute at position i
abbrev pub attribute_at : List ℕ → ℕ → Option Attribute
attribute_at s i = attribute_to s i (name_end s i)

-- its name or its value passes a limit
abbrev pub long : Option Attribute → Bool
long (Some a) = ltb name_limit (a.name_end - a.at) or ltb value_limit (a.value_end - a.value)
long None = false

unfoldable pub is_long : List ℕ → ℕ → Bool
is_long s i = long (attribute_at s i)
