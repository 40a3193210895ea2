-- The parts of a tag, by the tests of the code; what a part holds; and the row of attributes, part by part.
-- Assumes nothing.
use mathlib.Core.Path.{◌≡◌, refl, sym, ◌∙◌, ap, subst}
use mathlib.Core.Bool.{Bool, true, false}
use mathlib.Core.List.{List}
use Rattle.std.specs.Prelude.{Option, Some, None, Result, Ok, Err}
use Rattle.refusals.specs.declared.Reason.TheVariants.{Malformed}
use Rattle.refusals.specs.declared.Reason.{Reason}
use Prim.Native.Nat.{ℕ, ◌+◌, ◌-◌, ◌<◌, ◌≤◌, ◌^◌}
use Prim.Native.Char.{code}
use native.Mathlib.Omega.{arith}
use borrow.Author.Tests.{eq-eqb, ne_eqb, lt-ltb, le-ltb, ltb-true}
use lib.Dec.{eqb, ltb}
use lib.ListN.{length, get_or}
use mir.Val.{Fits}
use mir.Syntax.{w64}
use Rattle.text_scan.specs.Bytes.{text}
use Rattle.text_scan.specs.Lists.{stands}
use Rattle.text_scan.proofs.Tests.{pick_case}
use Rattle.text_scan.proofs.Lists.{text_fits}
use Rattle.xml_names.specs.Names.{space_end, name_end}
use Rattle.xml_attributes.specs.declared.Attribute.{Attribute}
use Rattle.xml_attributes.specs.declared.TagPart.{TagPart}
use Rattle.xml_attributes.specs.declared.TagPart.TheVariants.{Read, Ended}
use Rattle.xml_attributes.specs.declared.Tag.{Tag}
use Rattle.xml_attributes.specs.declared.Tag.TheVariants.{Start, Empty}
use Rattle.xml_attributes.specs.Attributes.{attribute_at}
use Rattle.xml_attributes.specs.Chains.{item, last}
use Rattle.xml_attributes.specs.Parts.{read_at, part_to, part_at, in_chain, tag_piece_at, attributes}
use Rattle.xml_attributes.proofs.Pieces.{Inside, attribute_inside}
use Rattle.xml_attributes.proofs.Chains.{chain_goes, chain_stops, chain_out}
use Rattle.text_scan.proofs.Within.{next_fits}

-- ---- piece by piece
module _ (s : List ℕ) (i j : ℕ) (ej : j ≡ space_end s i) (b : ℕ) (eb : b ≡ get_or s j 0) where
  pub part_start : b ≡ code ">" → Ended (Ok (Start (j + 1))) ≡ part_at s i
  unfolding part_to
  part_start f = rw (← ej, ← eb, eq-eqb b (code ">") f)

  module _ (f : b ≡ code ">" → ⊥) (t : Bool) (et : t ≡ stands (text "/>") s j) where
    pub part_empty : t ≡ true → Ended (Ok (Empty (j + 2))) ≡ part_at s i
    unfolding part_to
    part_empty g = rw (← ej, ← eb, ne_eqb b (code ">") f, ← et, g)

    module _ (g : t ≡ false) where
      pub part_no_space : j ≤ i → Ended (Err Malformed) ≡ part_at s i
      unfolding part_to
      part_no_space h = rw (← ej, ← eb, ne_eqb b (code ">") f, ← et, g, le-ltb i j h)

      module _ (h : i < j) (x : Option Attribute) (ex : x ≡ attribute_at s j) where
        read : part_at s i ≡ read_at x
        unfolding part_to
        read = rw (← ej, ← eb, ne_eqb b (code ">") f, ← et, g, lt-ltb i j h, ← ex)

        pub part_malformed : x ≡ None → Ended (Err Malformed) ≡ part_at s i
        part_malformed z = sym (read ∙ rw z)

        pub part_read : (a : Attribute) → x ≡ Some a → Read a ≡ part_at s i
        part_read a z = sym (read ∙ rw z)

pub empty_fits : (s : List ℕ) (j : ℕ) (t : Bool) → t ≡ stands (text "/>") s j → t ≡ true → length s < 2 ^ 64 → Fits w64 (j + 2)
empty_fits s j t e f l = omega (arith, text_fits (text "/>") s j (omega arith) (sym e ∙ f))

-- ---- what a part that is read holds
abbrev pub Holds : List ℕ → ℕ → TagPart → Type 0
Holds s i (Read a) = (i < a.at) × (attribute_at s a.at ≡ Some a) × Inside s a.at (Some a)
Holds s i (Ended t) = Unit {0}

module _ (s : List ℕ) (i : ℕ) where
  read_holds : (j : ℕ) → i < j → (x : Option Attribute) → attribute_at s j ≡ x → Holds s i (read_at x)
  read_holds j h (Some a) q =
      let w : Inside s j (Some a) = rw q at (attribute_inside s j) in
      (omega (arith, w.0), ap (attribute_at s) w.0 ∙ q, subst (λ k. Inside s k (Some a)) (sym w.0) w)
  read_holds j h None q = tt

  pub part_holds : Holds s i (part_at s i)
  unfolding part_to
  part_holds =
      let j : ℕ = space_end s i in
      pick_case (Holds s i) (eqb (get_or s j 0) (code ">")) _ _ (λ _. tt)
      (λ _. pick_case (Holds s i) (stands (text "/>") s j) _ _ (λ _. tt)
      (λ _. pick_case (Holds s i) (ltb i j) _ _ (λ e. read_holds j (ltb-true i j e) (attribute_at s j) refl) (λ _. tt)))

  -- the same of a part that the code was told
  module _ (x : TagPart) (ex : x ≡ part_at s i) (a : Attribute) (z : x ≡ Read a) where
    told : Holds s i (Read a)
    told = rw z at (rw (← ex) at part_holds)

    pub read_behind : i < a.at
    read_behind = told.0

    pub read_attribute : attribute_at s a.at ≡ Some a
    read_attribute = told.1

    pub read_inside : Inside s a.at (Some a)
    read_inside = told.2

    pub read_name : a.name_end ≡ name_end s a.at
    read_name = told.2.1

    pub read_named : a.at < a.name_end
    read_named = told.2.2

    pub read_valued : a.name_end < a.value
    read_valued = told.2.3

    pub read_closed : a.value ≤ a.value_end
    read_closed = told.2.4

    pub read_within : a.value_end < length s
    read_within = told.2.5

    pub read_name_within : a.name_end ≤ length s
    read_name_within = omega (arith, told.2.3, told.2.4, told.2.5)

    pub read_name_ahead : a.at ≤ a.name_end
    read_name_ahead = omega (arith, told.2.2)

    pub read_fits : length s < 2 ^ 64 → Fits w64 (a.value_end + 1)
    read_fits l = omega (arith, read_within)

    pub read_falls : length s - (a.value_end + 1) < length s - i
    read_falls = omega (arith, told.0, told.2.2, told.2.3, told.2.4, told.2.5)

    -- ---- the row of attributes goes on behind it
    pub attributes_go : i < length s → attributes s i ≡ item a.at (attributes s (a.value_end + 1))
    unfolding tag_piece_at attributes
    attributes_go h =
        let k : i + 1 + (a.value_end - i) ≡ a.value_end + 1 = omega (arith, read_behind, read_named, read_valued, read_closed) in
        rw k at (chain_goes (tag_piece_at s) (Err Malformed) (length s) i a.at (a.value_end - i) (omega (arith, read_within, read_behind, read_named, read_valued, read_closed)) (ap (in_chain i) (sym ex ∙ z)))

  pub attributes_stop : (x : TagPart) → x ≡ part_at s i → (t : Result Tag Reason) → x ≡ Ended t → i < length s → attributes s i ≡ last t
  unfolding tag_piece_at attributes
  attributes_stop x ex t z h = chain_stops (tag_piece_at s) (Err Malformed) (length s) i t h (ap (in_chain i) (sym ex ∙ z))

  pub attributes_out : length s ≤ i → attributes s i ≡ last (Err Malformed)
  unfolding attributes
  attributes_out h = chain_out (tag_piece_at s) (Err Malformed) (length s) i h

-- what stands behind '>' does not wrap
pub close_fits : (s : List ℕ) (j b : ℕ) → b ≡ get_or s j 0 → b ≡ code ">" → length s < 2 ^ 64 → Fits w64 (j + 1)
close_fits s j b e f = next_fits s j b 62 e f (omega arith)
