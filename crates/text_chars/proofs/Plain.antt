-- Which bytes are plain, by the comparisons of the code, and what the loop of `plain_block` knows.
-- Assumes nothing.
use mathlib.Core.Path.{◌≡◌, refl}
use mathlib.Core.Bool.{Bool, true, false, ◌&&◌, ◌||◌}
use mathlib.Core.List.{List}
use Prim.Native.Nat.{ℕ, suc, ◌+◌, ◌≤◌}
use native.Mathlib.Omega.{arith}
use lib.Dec.{leb, ltb, eqb}
use mir.Val.{Fits}
use mir.Syntax.{w8}
use lib.ListN.{get_or}
use Rattle.text_scan.specs.Choice.{◌and◌}
use Rattle.text_scan.proofs.Bytes.{range}
use Rattle.text_chars.specs.Utf8.{is_xml_char}
use Rattle.text_chars.specs.Blocks.{plain, plains}

abbrev compared : ℕ → Bool
compared b = leb 0x20 b && ltb b 0x80 || eqb b 9 || eqb b 10 || eqb b 13

is_plain : (b : ℕ) → Fits w8 b → compared b ≡ plain b
unfolding is_xml_char plain
is_plain b h = range compared plain 0 255 tt b (omega arith) (omega arith)

joined : (t u : Bool) → (t && u) ≡ t and u
joined true u = refl
joined false u = refl

module _ (s : List ℕ) (i k : ℕ) (t : Bool) where
  pub more : t ≡ plains s i k → Fits w8 (get_or s (i + k) 0) → (t && compared (get_or s (i + k) 0)) ≡ plains s i (k + 1)
  unfolding plains
  more e h =
      let f : k + 1 ≡ suc k = omega arith in
      rw (f, ← e, is_plain (get_or s (i + k) 0) h) (joined t (plain (get_or s (i + k) 0)))

  pub whole : (n : ℕ) → t ≡ plains s i k → k ≤ n → n ≤ k → t ≡ plains s i n
  whole n e h g =
      let f : k ≡ n = omega arith in
      rw f at e
