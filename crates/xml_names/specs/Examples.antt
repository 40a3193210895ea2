-- Worked examples of the definitions, each computed.
-- Assumes nothing.
use Rattle.std.specs.Prelude.{◌≡◌, refl}
use Rattle.text_scan.specs.Bytes.{text}
use Rattle.text_scan.specs.Lists.{run_end}
use Rattle.xml_names.specs.Names.{name_end}

-- ---- names
name_parts : name_end (text "_a-b.c9/>") 0 ≡ 7
unfolding run_end name_end
name_parts = refl

name_digit : name_end (text "1a/>") 0 ≡ 0
unfolding run_end name_end
name_digit = refl
