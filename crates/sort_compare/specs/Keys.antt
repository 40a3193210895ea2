-- What positions of a byte string are ordered by: the name that starts there, or fields of the row that starts there.
-- Assumes nothing.
use Rattle.std.specs.Prelude.{ℕ, List, drop}
use Rattle.xml_names.specs.Names.{name_at}
use Rattle.sort_compare.specs.declared.By.{By}
use Rattle.sort_compare.specs.Fields.{row_key}

-- Code: code, code system, and the display name in any case of letters. Register: DUNS number, name. Key: one field
abbrev pub key_at : By → List ℕ → ℕ → List ℕ
key_at By.Name s i = name_at s i
key_at By.Code s i = row_key 3 1 (drop i s)
key_at By.Register s i = row_key 2 0 (drop i s)
key_at By.Key s i = row_key 1 0 (drop i s)
