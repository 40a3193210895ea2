-- Worked examples of `first_bad`, each computed.
-- Assumes nothing.
use Rattle.std.specs.Prelude.{◌≡◌, refl, [], ◌∷◌}
use Rattle.text_scan.specs.Lists.{begins}
use Rattle.text_scan.specs.Walk.{walk, from}
use Rattle.text_chars.specs.Utf8.{is_xml_char, sound, tail, decode, char_at, first_bad}

-- "Aé€" and U+10348: a form of each width
good : first_bad (0x41 ∷ 0xC3 ∷ 0xA9 ∷ 0xE2 ∷ 0x82 ∷ 0xAC ∷ 0xF0 ∷ 0x90 ∷ 0x8D ∷ 0x88 ∷ []) ≡ 10
unfolding begins is_xml_char sound tail decode char_at first_bad walk from
good = refl

empty : first_bad [] ≡ 0
unfolding begins is_xml_char sound tail decode char_at first_bad walk from
empty = refl

-- C0 80, the overlong form of 0
overlong : first_bad (0x41 ∷ 0xC0 ∷ 0x80 ∷ []) ≡ 1
unfolding begins is_xml_char sound tail decode char_at first_bad walk from
overlong = refl

-- ED A0 80, the surrogate D800
surrogate : first_bad (0xED ∷ 0xA0 ∷ 0x80 ∷ []) ≡ 0
unfolding begins is_xml_char sound tail decode char_at first_bad walk from
surrogate = refl

-- U+FFFF is no Char, and neither is the control character 1
no_char : first_bad (0x20 ∷ 0xEF ∷ 0xBF ∷ 0xBF ∷ []) ≡ 1
unfolding begins is_xml_char sound tail decode char_at first_bad walk from
no_char = refl

control : first_bad (0x0A ∷ 0x01 ∷ []) ≡ 1
unfolding begins is_xml_char sound tail decode char_at first_bad walk from
control = refl

-- 110000, above the last code point
above : first_bad (0xF4 ∷ 0x90 ∷ 0x80 ∷ 0x80 ∷ []) ≡ 0
unfolding begins is_xml_char sound tail decode char_at first_bad walk from
above = refl

-- E2 82 wants one tail more
short : first_bad (0x41 ∷ 0xE2 ∷ 0x82 ∷ []) ≡ 1
unfolding begins is_xml_char sound tail decode char_at first_bad walk from
short = refl

-- EF BB BF is bad in front only
marked : first_bad (0xEF ∷ 0xBB ∷ 0xBF ∷ 0x41 ∷ []) ≡ 0
unfolding begins is_xml_char sound tail decode char_at first_bad walk from
marked = refl

later : first_bad (0x41 ∷ 0xEF ∷ 0xBB ∷ 0xBF ∷ []) ≡ 4
unfolding begins is_xml_char sound tail decode char_at first_bad walk from
later = refl
