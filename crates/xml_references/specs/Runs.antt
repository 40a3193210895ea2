-- Where an attribute value ends (XML 1.0, production [10]) and where a run of text ends (productions [14] and [43]).
-- Assumes nothing.
use Rattle.std.specs.Prelude.{ℕ, ◌-◌, List, eqb, length, get_or, Option, None, Some}
use Prim.Native.Char.{code}
use Rattle.text_scan.specs.Choice.{pick}
use Rattle.text_scan.specs.Bytes.{text}
use Rattle.text_scan.specs.Lists.{stands}
use Rattle.text_scan.specs.Walk.{Next, skip, done, from}
use Rattle.xml_references.specs.declared.Reference.{Reference}
use Rattle.xml_references.specs.References.{reference_at}

-- at an '&': on behind the reference, of which there must be one
abbrev pub behind : Option Reference → Next (Option ℕ)
behind (Some p) = skip (p.width - 1)
behind None = done None

-- inside a value in quotes q: the quote is the end, '<' is refused, '&' begins a reference, all else goes on
unfoldable pub value_step : List ℕ → ℕ → ℕ → Next (Option ℕ)
value_step s q i =
    pick (eqb (get_or s i 0) q) (done (Some i))
    (pick (eqb (get_or s i 0) (code "<")) (done None)
    (pick (eqb (get_or s i 0) (code "&")) (behind (reference_at s i)) (skip 0)))

-- the place of the quote that closes the value which begins at position i
unfoldable pub value_end : List ℕ → ℕ → ℕ → Option ℕ
value_end s q i = from (value_step s q) None (length s) i

-- inside text: '<' is the end, "]]>" is refused, '&' begins a reference, all else goes on
unfoldable pub text_step : List ℕ → ℕ → Next (Option ℕ)
text_step s i =
    pick (eqb (get_or s i 0) (code "<")) (done (Some i))
    (pick (stands (text "]]>") s i) (done None)
    (pick (eqb (get_or s i 0) (code "&")) (behind (reference_at s i)) (skip 0)))

-- the place of the first '<' from position i on, or the length
unfoldable pub text_end : List ℕ → ℕ → Option ℕ
text_end s i = from (text_step s) (Some (length s)) (length s) i
