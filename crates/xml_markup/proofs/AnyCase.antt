-- A text in any case of its letters: a text at a position of s with its letters made small.
-- Assumes nothing.
use mathlib.Core.Path.{◌≡◌}
use mathlib.Core.Bool.{true}
use mathlib.Core.List.{List, map}
use Prim.Native.Nat.{ℕ, ◌+◌, ◌<◌, ◌≤◌}
use native.Mathlib.Omega.{arith}
use lib.ListN.{length, length-map}
use Rattle.text_scan.specs.Bytes.{lower}
use Rattle.text_scan.proofs.Lists.{text_fits}
use Rattle.xml_markup.specs.AnyCase.{stands_any_case}

-- a text that stands in any case ends within
pub any_fits : (t s : List ℕ) (i : ℕ) → 0 < length t → stands_any_case t s i ≡ true → i + length t ≤ length s
any_fits t s i h e = omega (arith, text_fits t (map lower s) i h e, length-map s lower)
