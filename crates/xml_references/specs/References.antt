-- The references that text and attribute values may hold (XML 1.0, productions [66] and [68], section 4.6): a number, or one of five names.
-- Assumes nothing.
use Rattle.std.specs.Prelude.{ℕ, ◌+◌, ◌-◌, ◌*◌, List, [], ◌∷◌, eqb, ltb, length, drop, Option, Some, None}
use Prim.Native.Char.{code}
use Rattle.text_scan.specs.Choice.{pick, ◌and◌, between}
use Rattle.text_scan.specs.Bytes.{text, is_digit}
use Rattle.text_scan.specs.Lists.{begins}
use Rattle.text_chars.specs.Utf8.{is_xml_char}
use Rattle.xml_references.specs.declared.Reference.{Reference}

-- a reference of this width, which stands for this character
abbrev pub refers : ℕ → ℕ → Option Reference
refers w c = Some (record { width = w; character = c })

-- what a digit stands for: 0-9, a-f, A-F; 255 if it is none
unfoldable pub digit_value : ℕ → ℕ
digit_value b =
    pick (is_digit b) (b - code "0")
    (pick (between (code "a") (code "f") b) (b - code "a" + 10)
    (pick (between (code "A") (code "F") b) (b - code "A" + 10) 255))

-- Digits of the base, then ';'. v is the value of the digits passed, w the width of all that was passed. The value must be a Char.
-- No digit at all has the value 0, which is none
unfoldable pub number : ℕ → ℕ → ℕ → List ℕ → Option Reference
number base v w [] = None
number base v w (x ∷ xs) =
    pick (ltb (digit_value x) base) (number base (v * base + digit_value x) (w + 1) xs)
    (pick (eqb x (code ";") and is_xml_char v) (refers (w + 1) v) None)

-- a text and the character that it stands for
abbrev pub Named : Type 0
Named = List ℕ × ℕ

-- section 4.6
abbrev pub names : List Named
names =
    (text "&lt;", code "<") ∷ (text "&gt;", code ">") ∷ (text "&amp;", code "&") ∷ (text "&apos;", code "'")
    ∷ (text "&quot;", code "\"") ∷ []

-- the first text of a list with which the bytes begin
unfoldable pub entity_named : List Named → List ℕ → Option Reference
entity_named [] xs = None
entity_named (n ∷ ns) xs = pick (begins n.0 xs) (refers (length n.0) n.1) (entity_named ns xs)

-- the reference with which the bytes begin: &#x..; or &#..; or a name
unfoldable pub reference_of : List ℕ → Option Reference
reference_of xs =
    pick (begins (text "&#x") xs) (number 16 0 3 (drop 3 xs))
    (pick (begins (text "&#") xs) (number 10 0 2 (drop 2 xs)) (entity_named names xs))

-- the reference that stands in s at position i
abbrev pub reference_at : List ℕ → ℕ → Option Reference
reference_at s i = reference_of (drop i s)
