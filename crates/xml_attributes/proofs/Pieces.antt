-- An attribute, by the pieces that the code finds in a row; and where its parts are, for callers.
-- Assumes nothing.
use mathlib.Core.Path.{◌≡◌, refl, sym, ◌∙◌}
use mathlib.Core.List.{List}
use Rattle.std.specs.Prelude.{Option, Some, None, ℕ}
use Prim.Native.Nat.{ℕ, ◌-◌, ◌<◌, ◌≤◌}
use native.Mathlib.Omega.{arith}
use borrow.Author.Tests.{lt-ltb, le-ltb, ltb-true}
use lib.Dec.{ltb}
use lib.ListN.{length, get_or}
use Rattle.text_scan.proofs.Tests.{pick_case}
use Rattle.text_scan.proofs.Ending.{Within}
use Rattle.xml_names.specs.Names.{name_end}
use Rattle.xml_names.specs.Values.{value_start}
use Rattle.xml_names.proofs.Values.{value_within}
use Rattle.xml_references.specs.Runs.{value_end}
use Rattle.xml_references.proofs.Bounds.{value_ahead, value_inside}
use Rattle.xml_attributes.specs.declared.Attribute.{Attribute}
use Rattle.xml_attributes.specs.Attributes.{closed_at, valued_at, attribute_to, attribute_at}

-- ---- the first byte of a value: the quote stands before it
module _ (s : List ℕ) (n : ℕ) (x : Option ℕ) (ex : x ≡ value_start s n) (v : ℕ) (z : x ≡ Some v) where
  start_within : Within n (length s) (Some v)
  start_within = rw z at (rw (← ex) at (value_within s n))

  pub quote_before : 1 ≤ v
  quote_before = omega (arith, start_within)

  pub quote_inside : v - 1 < length s
  quote_inside = omega (arith, start_within)

-- ---- piece by piece
module _ (s : List ℕ) (at n : ℕ) (en : n ≡ name_end s at) where
  pub no_name : n ≤ at → None ≡ attribute_at s at
  unfolding attribute_to
  no_name h = rw (← en, le-ltb at n h)

  module _ (h : at < n) (x : Option ℕ) (ex : x ≡ value_start s n) where
    named : attribute_at s at ≡ valued_at s at n x
    unfolding attribute_to
    named = rw (← en, lt-ltb at n h, ← ex)

    pub no_value : x ≡ None → None ≡ attribute_at s at
    no_value z = sym (named ∙ rw z)

    module _ (v : ℕ) (z : x ≡ Some v) (y : Option ℕ) (ey : y ≡ value_end s (get_or s (v - 1) 0) v) where
      valued : attribute_at s at ≡ closed_at at n v y
      valued = named ∙ rw (z, ← ey)

      pub no_quote : y ≡ None → None ≡ attribute_at s at
      no_quote w = sym (valued ∙ rw w)

      pub attribute_whole : (e : ℕ) → y ≡ Some e → Some (record { at = at; name_end = n; value = v; value_end = e }) ≡ attribute_at s at
      attribute_whole e w = sym (valued ∙ rw w)

-- ---- bounds: the name is not empty, the value behind it and its quote within
abbrev pub Inside : List ℕ → ℕ → Option Attribute → Type 0
Inside s at (Some a) = (a.at ≡ at) × (a.name_end ≡ name_end s at) × (at < a.name_end) × (a.name_end < a.value) × (a.value ≤ a.value_end) × (a.value_end < length s)
Inside s at None = Unit {0}

module _ (s : List ℕ) (at : ℕ) where
  closed_inside : (v q : ℕ) → at < name_end s at → name_end s at < v → (y : Option ℕ) → value_end s q v ≡ y → Inside s at (closed_at at (name_end s at) v y)
  closed_inside v q h g (Some e) w = (refl, refl, h, g, value_ahead s q v e w, value_inside s q v e w)
  closed_inside v q h g None w = tt

  valued_inside : at < name_end s at → (x : Option ℕ) → value_start s (name_end s at) ≡ x → Inside s at (valued_at s at (name_end s at) x)
  valued_inside h (Some v) e =
      closed_inside v (get_or s (v - 1) 0) h (rw e at (value_within s (name_end s at))).0 (value_end s (get_or s (v - 1) 0) v) refl
  valued_inside h None e = tt

  pub attribute_inside : Inside s at (attribute_at s at)
  unfolding attribute_to
  attribute_inside =
      pick_case (Inside s at) (ltb at (name_end s at)) _ _ (λ e. valued_inside (ltb-true at (name_end s at) e) (value_start s (name_end s at)) refl) (λ _. tt)
