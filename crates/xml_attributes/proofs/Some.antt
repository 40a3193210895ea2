-- The loops that ask whether some attribute has a property: over a list of positions, and over the row of a tag's attributes.
-- Assumes nothing.
use Rattle.std.specs.Prelude.{Result}
use mathlib.Core.Path.{◌≡◌, refl, sym, ◌∙◌, ap}
use mathlib.Core.Bool.{Bool, true, false, ◌||◌}
use mathlib.Core.List.{List, [], ◌∷◌}
use Rattle.std.specs.List.{list_any}
use Rattle.refusals.specs.declared.Reason.{Reason}
use Rattle.text_scan.specs.Choice.{◌or◌}
use Prim.Native.Nat.{ℕ, ◌+◌, ◌-◌, ◌<◌, ◌≤◌}
use lib.ListN.{length, take, drop, get_or, drop_of_length-le}
use native.Mathlib.Omega.{arith}
use Rattle.text_scan.proofs.Tests.{or_true, or_false}
use Rattle.text_scan.proofs.Within.{inside, drop_here}
use Rattle.xml_attributes.specs.declared.Attribute.{Attribute}
use Rattle.xml_attributes.specs.declared.TagPart.{TagPart}
use Rattle.xml_attributes.specs.declared.TagPart.TheVariants.{Read, Ended}
use Rattle.xml_attributes.specs.declared.Tag.{Tag}
use Rattle.xml_attributes.specs.Chains.{item, items}
use Rattle.xml_attributes.specs.Parts.{part_at, attributes, some_attribute, some_named, repeated}
use Rattle.xml_names.specs.Names.{name_at, name_end}
use Rattle.xml_names.proofs.ElementNames.{name_part, name_past}
use Rattle.xml_attributes.proofs.Parts.{read_falls, attributes_go, attributes_stop, attributes_out}

pub or_same : (a b c d : Bool) → a ≡ b → c ≡ d → a || c ≡ b or d
or_same true b c d e f = rw (← e)
or_same false b c d e f = rw (← e) f

-- ---- over a list: the answer for those behind the first k is that for those behind the first i
abbrev pub Behind : (ℕ → List ℕ → Bool) → List ℕ → ℕ → ℕ → Type 0
Behind p bs k i = some_attribute p (drop k bs) ≡ some_attribute p (drop i bs)

module _ (p : ℕ → List ℕ → Bool) (bs : List ℕ) (k i : ℕ) (l : Behind p bs k i) where
  pub some_out : length bs ≤ i → false ≡ some_attribute p (drop k bs)
  unfolding some_attribute
  some_out h = sym (l ∙ rw (drop_of_length-le bs h))

  module _ (h : i < length bs) (u : Bool) (eu : u ≡ p (get_or bs i 0) (drop (i + 1) bs)) where
    pub some_found : u ≡ true → true ≡ some_attribute p (drop k bs)
    unfolding some_attribute
    some_found f = sym (l ∙ rw (drop_here bs i h, ← eu, f))

    pub some_next : u ≡ false → Behind p bs k (i + 1)
    unfolding some_attribute
    some_next f = l ∙ rw (drop_here bs i h, ← eu, f)

-- ---- over a row: the answer for the attributes from `at` on is that for those from i on
abbrev pub From : (ℕ → List ℕ → Bool) → List ℕ → ℕ → ℕ → Type 0
From p s at i = some_attribute p (items (attributes s at)) ≡ some_attribute p (items (attributes s i))

module _ (p : ℕ → List ℕ → Bool) (s : List ℕ) (at i : ℕ) (l : From p s at i) where
  pub chain_out : length s ≤ i → false ≡ some_attribute p (items (attributes s at))
  unfolding some_attribute items
  chain_out h = sym (l ∙ rw (attributes_out s i h))

  module _ (h : i < length s) (x : TagPart) (ex : x ≡ part_at s i) where
    pub row_ended : (t : Result Tag Reason) → x ≡ Ended t → false ≡ some_attribute p (items (attributes s at))
    unfolding some_attribute items
    row_ended t z = sym (l ∙ rw (attributes_stop s i x ex t z h))

-- ---- the name of the attribute at b, which ends at e, behind it
module _ (s bs : List ℕ) (b e : ℕ) (ee : e ≡ name_end s b) (r : Bool) where
  pub again_part : r ≡ some_named (take (e - b) (drop b s)) s bs → r ≡ some_named (name_at s b) s bs
  again_part f = f ∙ ap (λ t. some_named t s bs) (sym (name_part s b e ee))

  pub again_past : length s < e → r ≡ some_named [] s bs → r ≡ some_named (name_at s b) s bs
  again_past h f = f ∙ ap (λ t. some_named t s bs) (sym (name_past s b e ee h))

-- ---- two of the same name in a row
abbrev pub named_again : List ℕ → ℕ → List ℕ → Bool
named_again s b behind = some_named (name_at s b) s behind

-- ---- the first attribute, and those behind it
module _ (s : List ℕ) (at : ℕ) (x : TagPart) (ex : x ≡ part_at s at) where
  pub first_ended : (t : Result Tag Reason) → x ≡ Ended t → false ≡ repeated s (items (attributes s at))
  first_ended t z =
      inside (length s) at (λ h. row_ended (named_again s) s at at refl h x ex t z) (λ h. chain_out (named_again s) s at at refl h)

  module _ (a : Attribute) (z : x ≡ Read a) (r : Bool) (er : r ≡ repeated s (items (attributes s (a.value_end + 1)))) where
    first_here : attributes s at ≡ item a.at (attributes s (a.value_end + 1))
    first_here = attributes_go s at x ex a z (omega (arith, read_falls s at x ex a z))

    pub behind_found : r ≡ true → true ≡ repeated s (items (attributes s at))
    unfolding some_attribute items
    behind_found f = sym (rw (first_here, ← er, f) (or_true (named_again s a.at (items (attributes s (a.value_end + 1))))))

    pub first_again : r ≡ false → (u : Bool) → u ≡ named_again s a.at (items (attributes s (a.value_end + 1))) → u ≡ repeated s (items (attributes s at))
    unfolding some_attribute items
    first_again f u eu =
        eu ∙ sym (rw (first_here, ← er, f) (or_false (named_again s a.at (items (attributes s (a.value_end + 1))))))

-- ---- a property of each position alone, asked by an iterator
pub some_any : (p : ℕ → Bool) (bs : List ℕ) → list_any p bs ≡ some_attribute (λ b _. p b) bs
unfolding some_attribute
some_any p [] = refl
some_any p (b ∷ bs) = or_same (p b) (p b) (list_any p bs) (some_attribute (λ c _. p c) bs) refl (some_any p bs)
