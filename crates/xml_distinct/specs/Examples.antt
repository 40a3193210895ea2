-- Worked examples of the definitions, each computed.
-- Assumes nothing.
use Rattle.std.specs.Prelude.{◌≡◌, refl, true, false, [], ◌∷◌}
use Rattle.text_scan.specs.Bytes.{text}
use Rattle.text_scan.specs.Lists.{some, pairs, run_end}
use Rattle.xml_names.specs.Names.{name_end}
use Rattle.xml_distinct.specs.Repeats.{twice}
use Rattle.xml_distinct.specs.Neighbours.{neighbours_from, neighbours}

twice_no : twice (text "xy='' x='' y=''") (0 ∷ 6 ∷ 11 ∷ []) ≡ false
unfolding name_end run_end pairs some twice
twice_no = refl

twice_yes : twice (text "xy='' x='' xy=''") (0 ∷ 6 ∷ 11 ∷ []) ≡ true
unfolding name_end run_end pairs some twice
twice_yes = refl

-- the same name, but not at neighbours: the positions are sorted first
apart : neighbours (text "xy='' x='' xy=''") (0 ∷ 6 ∷ 11 ∷ []) ≡ false
unfolding name_end run_end pairs neighbours_from neighbours
apart = refl

together : neighbours (text "xy='' x='' xy=''") (6 ∷ 0 ∷ 11 ∷ []) ≡ true
unfolding name_end run_end pairs neighbours_from neighbours
together = refl
