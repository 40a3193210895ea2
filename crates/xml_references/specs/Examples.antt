-- Worked examples of references, values, text and what they say, each computed.
-- Assumes nothing.
use Prim.Native.Char.{code}
use Rattle.std.specs.Prelude.{◌≡◌, refl, [], ◌∷◌, None, Some}
use Rattle.text_scan.specs.Bytes.{text}
use Rattle.text_scan.specs.Lists.{begins}
use Rattle.text_scan.specs.Walk.{walk, from}
use Rattle.text_chars.specs.Utf8.{is_xml_char}
use Rattle.text_encode.specs.Encode.{encoded}
use Rattle.xml_references.specs.References.{digit_value, number, entity_named, reference_of, reference_at}
use Rattle.xml_references.specs.Runs.{value_step, value_end, text_step, text_end}
use Rattle.xml_references.specs.Decoded.{replaced, decoded}
use Rattle.xml_references.specs.References.{refers}

apos : reference_at (text "a&apos;") 1 ≡ refers 6 (code "'")
unfolding begins is_xml_char digit_value number entity_named reference_of
apos = refl

hex : reference_at (text "&#x0020Ac;") 0 ≡ refers 10 0x20AC
unfolding begins is_xml_char digit_value number entity_named reference_of
hex = refl

decimal : reference_at (text "&#0000000000000000000000065;") 0 ≡ refers 28 65
unfolding begins is_xml_char digit_value number entity_named reference_of
decimal = refl

-- 2 ^ 64 + 65 does not wrap to 65
large : reference_at (text "&#18446744073709551681;") 0 ≡ None
unfolding begins is_xml_char digit_value number entity_named reference_of
large = refl

surrogate : reference_at (text "&#xD800;") 0 ≡ None
unfolding begins is_xml_char digit_value number entity_named reference_of
surrogate = refl

no_digit : reference_at (text "&#;") 0 ≡ None
unfolding begins is_xml_char digit_value number entity_named reference_of
no_digit = refl

-- the x is a small letter, and no other name is known
capital : reference_at (text "&#X41;") 0 ≡ None
unfolding begins is_xml_char digit_value number entity_named reference_of
capital = refl

unknown : reference_at (text "&nbsp;") 0 ≡ None
unfolding begins is_xml_char digit_value number entity_named reference_of
unknown = refl

unfinished : reference_at (text "&lt") 0 ≡ None
unfolding begins is_xml_char digit_value number entity_named reference_of
unfinished = refl

value : value_end (text "a&#65;'&lt;\" b") (code "\"") 0 ≡ Some 11
unfolding begins walk from is_xml_char digit_value number entity_named reference_of value_step value_end
value = refl

less : value_end (text "a<b\"") (code "\"") 0 ≡ None
unfolding begins walk from is_xml_char digit_value number entity_named reference_of value_step value_end
less = refl

unclosed : value_end (text "ab") (code "\"") 0 ≡ None
unfolding begins walk from is_xml_char digit_value number entity_named reference_of value_step value_end
unclosed = refl

run : text_end (text "x]] > y&amp;</a>") 0 ≡ Some 12
unfolding begins walk from is_xml_char digit_value number entity_named reference_of text_step text_end
run = refl

whole : text_end (text "xyz") 1 ≡ Some 3
unfolding begins walk from is_xml_char digit_value number entity_named reference_of text_step text_end
whole = refl

brackets : text_end (text "x]]]>y<") 0 ≡ None
unfolding begins walk from is_xml_char digit_value number entity_named reference_of text_step text_end
brackets = refl

ampersand : text_end (text "x & y<") 0 ≡ None
unfolding begins walk from is_xml_char digit_value number entity_named reference_of text_step text_end
ampersand = refl

-- "a<&é" behind the first byte; the letter e with an acute is C3 A9
said : decoded (text "xa&lt;&#38;&#xe9;\"") 1 17 ≡ 0x61 ∷ 0x3C ∷ 0x26 ∷ 0xC3 ∷ 0xA9 ∷ []
unfolding begins is_xml_char digit_value number entity_named reference_of encoded replaced
said = refl
