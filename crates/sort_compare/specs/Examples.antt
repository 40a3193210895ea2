-- Worked examples of the definitions, each computed.
-- Assumes nothing.
use Rattle.std.specs.Prelude.{◌≡◌, refl, [], ◌∷◌}
use Rattle.text_scan.specs.Bytes.{text}
use Rattle.text_scan.specs.Lists.{run_end}
use Rattle.xml_names.specs.Names.{name_at, name_end}
use Rattle.table_lines.specs.Lines.{front}
use Rattle.std.specs.declared.cmp.Ordering.TheVariants.{Less, Equal, Greater}
use Rattle.sort_compare.specs.declared.By.{By}
use Rattle.sort_compare.specs.Order.{order}
use Rattle.sort_compare.specs.Fields.{front_field, after_field, shown, fields_from, coded, row_key}
use Rattle.sort_compare.specs.Keys.{key_at}

-- ---- the order: a capital letter is less than a small one, and a name less than a longer one that begins with it
order_byte : order (text "abc") (text "aBcd") ≡ Greater
unfolding order
order_byte = refl

order_longer : order (text "ab") (text "abc") ≡ Less
unfolding order
order_longer = refl

order_same : order (text "a-1") (text "a-1") ≡ Equal
unfolding order
order_same = refl

-- ---- names at positions: no name starts with a digit, nor past the end
name_here : name_at (text "<a xy='1' />") 3 ≡ text "xy"
unfolding name_end run_end
name_here = refl

name_none : name_at (text "12") 0 ≡ []
unfolding name_end run_end
name_none = refl

-- ---- fields: the third in any case, a missing one is empty, and the next row is not read
fields_here : fields_from 3 1 (text "C1\tS\tName\nC2") ≡ text "C1" ∷ text "S" ∷ text "name" ∷ []
unfolding fields_from front_field front after_field shown
fields_here = refl

fields_missing : fields_from 3 1 (text "C1\nC2\tS\tN") ≡ text "C1" ∷ [] ∷ [] ∷ []
unfolding fields_from front_field front after_field shown
fields_missing = refl

-- rows are told by the case of their codes and not by that of their display names
rows_any : order (key_at By.Code (text "a\tb\tNAME\na\tb\tname\n") 0) (key_at By.Code (text "a\tb\tNAME\na\tb\tname\n") 9) ≡ Equal
unfolding order row_key coded fields_from front_field front after_field shown
rows_any = refl

rows_case : order (key_at By.Code (text "A\tb\tn\na\tb\tn\n") 0) (key_at By.Code (text "A\tb\tn\na\tb\tn\n") 6) ≡ Less
unfolding order row_key coded fields_from front_field front after_field shown
rows_case = refl

-- a field goes before a longer one, whatever follows it
rows_longer : order (key_at By.Register (text "a\tz\nab\ta\n") 0) (key_at By.Register (text "a\tz\nab\ta\n") 4) ≡ Less
unfolding order row_key coded fields_from front_field front after_field shown
rows_longer = refl
