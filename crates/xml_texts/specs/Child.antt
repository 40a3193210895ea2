-- What the contract of the private function `is_child` speaks of, and no definition of document 01: a piece of a content that is no text, comment,
-- instruction or end tag, by its first two bytes. It is a child element's tag, or a fault, and leaves no text.
-- Assumes nothing.
use Rattle.std.specs.Prelude.{ℕ, Bool, List, eqb, get_or}
use Prim.Native.Char.{code}
use Rattle.text_scan.specs.Choice.{◌and◌, not}
use Rattle.text_scan.specs.Bytes.{text}
use Rattle.text_scan.specs.Lists.{stands}

unfoldable pub is_child : List ℕ → ℕ → Bool
is_child s i =
    eqb (get_or s i 0) (code "<") and not (stands (text "<!") s i) and not (stands (text "<?") s i) and not (stands (text "</") s i)
