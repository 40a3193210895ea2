-- An end tag, by the pieces that the code finds in a row; and where it ends, for callers.
-- Assumes nothing.
use Rattle.std.specs.Prelude.{None, Some}
use mathlib.Core.Path.{◌≡◌, sym, ◌∙◌}
use mathlib.Core.Bool.{Bool, true, false}
use mathlib.Core.List.{List}
use Prim.Native.Nat.{ℕ, ◌+◌, ◌<◌, ◌≤◌, ◌^◌}
use Prim.Native.Char.{code}
use native.Mathlib.Omega.{arith}
use borrow.Author.Tests.{eq-eqb, ne_eqb, eqb-true, lt-ltb, le-ltb}
use lib.Dec.{eqb, ltb}
use lib.ListN.{length, get_or}
use mir.Val.{Fits}
use mir.Syntax.{w64}
use Rattle.text_scan.specs.Choice.{◌and◌}
use Rattle.text_scan.specs.Bytes.{text}
use Rattle.text_scan.specs.Lists.{stands}
use Rattle.text_scan.proofs.Tests.{pick_case}
use Rattle.text_scan.proofs.Within.{there}
use Rattle.text_scan.proofs.Lists.{text_fits}
use Rattle.text_scan.proofs.Ending.{Within}
use Rattle.xml_names.specs.Names.{space_end}
use Rattle.xml_names.proofs.Names.{space_least}
use Rattle.xml_names.specs.ElementNames.{element_end}
use Rattle.xml_tags.specs.EndTags.{closed_by, end_tag_to, end_tag_end}
use Rattle.xml_names.proofs.ElementNames.{element_least}

module _ (s : List ℕ) (at : ℕ) (o : Bool) (eo : o ≡ stands (text "</") s at) where
  pub no_end_tag : o ≡ false → None ≡ end_tag_end s at
  unfolding end_tag_to
  no_end_tag f = rw (← eo, f)

  module _ (y : o ≡ true) where
    pub end_tag_fits : length s < 2 ^ 64 → Fits w64 (at + 2)
    end_tag_fits l = omega (arith, text_fits (text "</") s at (omega arith) (sym eo ∙ y))

    module _ (n : ℕ) (en : n ≡ element_end s (at + 2)) where
      pub no_element : n ≤ at + 2 → None ≡ end_tag_end s at
      unfolding end_tag_to
      no_element h = rw (← eo, y, ← en, le-ltb (at + 2) n h)

      module _ (h : at + 2 < n) (j : ℕ) (ej : j ≡ space_end s n) (b : ℕ) (eb : b ≡ get_or s j 0) where
        named : end_tag_end s at ≡ closed_by s j
        unfolding end_tag_to
        named = rw (← eo, y, ← en, lt-ltb (at + 2) n h, ← ej)

        pub end_tag_whole : b ≡ code ">" → Some (j + 1) ≡ end_tag_end s at
        unfolding closed_by
        end_tag_whole f = sym (named ∙ rw (← eb, eq-eqb b (code ">") f))

        pub end_tag_open : (b ≡ code ">" → ⊥) → None ≡ end_tag_end s at
        unfolding closed_by
        end_tag_open f = sym (named ∙ rw (← eb, ne_eqb b (code ">") f))

-- ---- bounds
closed_within : (s : List ℕ) (at j : ℕ) → at ≤ j → Within at (length s) (closed_by s j)
unfolding closed_by
closed_within s at j h =
    pick_case (Within at (length s)) (eqb (get_or s j 0) (code ">")) _ _ (λ e. omega (arith, there s j 62 (omega arith) (eqb-true (get_or s j 0) 62 e))) (λ _. tt)

pub end_tag_within : (s : List ℕ) (at : ℕ) → Within at (length s) (end_tag_end s at)
unfolding end_tag_to
end_tag_within s at =
    let n : ℕ = element_end s (at + 2) in
    pick_case (Within at (length s)) (stands (text "</") s at and ltb (at + 2) n) _ _
    (λ _. closed_within s at (space_end s n) (omega (arith, element_least s (at + 2), space_least s n)))
    (λ _. tt)
