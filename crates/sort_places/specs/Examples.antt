-- Worked examples, each computed.
-- Assumes nothing.
use Rattle.std.specs.Prelude.{◌≡◌, refl, true, false, [], ◌∷◌}
use Rattle.text_scan.specs.Bytes.{text}
use Rattle.text_scan.specs.Lists.{run_end}
use Rattle.xml_names.specs.Names.{name_end}
use Rattle.sort_compare.specs.declared.By.{By}
use Rattle.sort_compare.specs.Order.{order}
use Rattle.sort_compare.specs.Fields.{coded}
use Rattle.sort_compare.specs.Keys.{key_at}
use Rattle.sort_places.specs.Sorting.{rising, with_place}

rising_yes : rising (key_at By.Name (text "xy='' x='' y=''")) (6 ∷ 0 ∷ 11 ∷ []) ≡ true
unfolding name_end run_end order rising
rising_yes = refl

rising_same : rising (key_at By.Name (text "xy='' x='' y=''")) (6 ∷ 6 ∷ 0 ∷ []) ≡ true
unfolding name_end run_end order rising
rising_same = refl

rising_no : rising (key_at By.Name (text "xy='' x='' y=''")) (0 ∷ 6 ∷ 11 ∷ []) ≡ false
unfolding name_end run_end order rising
rising_no = refl

-- of two positions with the same name the lower one goes first
places_yes : rising (with_place (key_at By.Name (text "x='' y='' x=''"))) (0 ∷ 10 ∷ 5 ∷ []) ≡ true
unfolding name_end run_end order rising with_place coded
places_yes = refl

places_no : rising (with_place (key_at By.Name (text "x='' y='' x=''"))) (10 ∷ 0 ∷ 5 ∷ []) ≡ false
unfolding name_end run_end order rising with_place coded
places_no = refl
