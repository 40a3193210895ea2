-- A text in any case of its letters.
-- Assumes nothing.
use Rattle.std.specs.Prelude.{ℕ, Bool, List, map}
use Rattle.text_scan.specs.Bytes.{lower}
use Rattle.text_scan.specs.Lists.{stands}

-- the text t, of small letters, stands at position i of s with the letters of s made small
abbrev pub stands_any_case : List ℕ → List ℕ → ℕ → Bool
stands_any_case t s i = stands t (map lower s) i
