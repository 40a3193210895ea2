-- Names, by the tests of the code; and where white space and names end, for callers.
-- Assumes nothing.
use mathlib.Core.Path.{◌≡◌, refl, sym}
use mathlib.Core.Bool.{Bool, true, false, ◌&&◌}
use mathlib.Core.List.{List}
use Prim.Native.Nat.{ℕ, ◌+◌, ◌<◌, ◌≤◌}
use native.Mathlib.Omega.{arith}
use borrow.Author.Tests.{ltb-true}
use lib.Dec.{T, ltb}
use lib.ListN.{length, get_or, get_or-eq_default, drop_of_length-le}
use Rattle.text_scan.specs.Choice.{pick}
use Rattle.text_scan.specs.Lists.{run_end, run_from}
use Rattle.text_scan.proofs.Tests.{never, pick_case}
use Rattle.text_scan.proofs.Bytes.{agree, range}
use Rattle.text_scan.proofs.Lists.{run_least, run_most}
use Rattle.xml_names.specs.Names.{is_space, is_name_start, is_name_char, space_end, name_end}

-- the small letters, which one test asks for
both_hold : (t u : Bool) → (t && u) ≡ true → (t ≡ true) × (u ≡ true)
both_hold true true e = (refl, refl)
both_hold true false e = never (sym e)
both_hold false u e = never (sym e)

pub small_letter : (p : ℕ → Bool) → T (agree (λ _. true) p 97 26) → (b : ℕ) → (ltb 96 b && ltb b 123) ≡ true → true ≡ p b
small_letter p t b e =
    let h : (ltb 96 b ≡ true) × (ltb b 123 ≡ true) = both_hold (ltb 96 b) (ltb b 123) e in
    range (λ _. true) p 97 122 t b (omega (arith, ltb-true 96 b h.0)) (omega (arith, ltb-true b 123 h.1))

module _ (s : List ℕ) (at : ℕ) where
  pub name_past : length s ≤ at → at ≡ name_end s at
  unfolding name_end
  name_past h = rw (get_or-eq_default s 0 h)

  -- a byte of one class, and those of another from there on
  module _ (start class : ℕ → Bool) where
    pub word_past : length s ≤ at → at ≡ pick (start (get_or s at 0)) (run_from class s at) at
    unfolding run_end
    word_past h = pick_case (λ r. at ≡ r) (start (get_or s at 0)) _ _ (λ _. rw (drop_of_length-le s h)) (λ _. refl)

    pub word_none : (t : Bool) → t ≡ start (get_or s at 0) → t ≡ false → at ≡ pick (start (get_or s at 0)) (run_from class s at) at
    word_none t e n = rw (← e, n)

  -- ---- bounds
  pub space_least : at ≤ space_end s at
  space_least = run_least is_space s at

  pub name_least : at ≤ name_end s at
  unfolding name_end
  name_least = pick_case (λ r. at ≤ r) (is_name_start (get_or s at 0)) _ _ (λ _. run_least is_name_char s at) (λ _. omega arith)

  pub name_most : at ≤ length s → name_end s at ≤ length s
  unfolding name_end
  name_most h = pick_case (λ r. r ≤ length s) (is_name_start (get_or s at 0)) _ _ (λ _. run_most is_name_char s at h) (λ _. h)

  -- the same of a name whose end was told
  module _ (r : ℕ) (e : r ≡ name_end s at) where
    pub name_ahead : at ≤ r
    name_ahead = omega (arith, name_least)

    pub name_inside : at ≤ length s → r ≤ length s
    name_inside h = omega (arith, name_most h)

-- behind the first byte of a tag the document goes on, or ends
pub name_there : (s : List ℕ) (f : ℕ) → f < length s → f + 1 ≤ length s
name_there s f h = omega arith
