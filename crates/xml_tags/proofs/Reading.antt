-- The reading of a tag's attributes, by what the loop knows; and what it brings, told of the list of the attributes.
-- Assumes nothing.
use Rattle.std.specs.Prelude.{Result, Err}
use Rattle.refusals.specs.declared.Reason.TheVariants.{Malformed}
use Rattle.refusals.specs.declared.Reason.{Reason}
use mathlib.Core.Path.{◌≡◌, sym, ◌∙◌, ap}
use mathlib.Core.Bool.{Bool, true, false}
use mathlib.Core.List.{List}
use Prim.Native.Nat.{ℕ, suc, ◌+◌, ◌-◌, ◌<◌, ◌≤◌}
use native.Mathlib.Omega.{arith}
use borrow.Author.Tests.{lt-ltb, le-ltb}
use lib.Dec.{ltb}
use lib.ListN.{length}
use Rattle.text_scan.specs.Choice.{◌or◌}
use Rattle.text_scan.proofs.Tests.{or_false, or_join}
use Rattle.xml_reader.specs.Limits.{name_limit, value_limit}
use Rattle.xml_attributes.specs.declared.Attribute.{Attribute}
use Rattle.xml_attributes.specs.declared.TagPart.{TagPart}
use Rattle.xml_attributes.specs.declared.TagPart.TheVariants.{Read, Ended}
use Rattle.xml_attributes.specs.declared.Tag.{Tag}
use Rattle.xml_attributes.specs.Attributes.{long, is_long}
use Rattle.xml_attributes.specs.Chains.{Chain, item, last, items, ending}
use Rattle.xml_attributes.specs.Parts.{part_at, attributes, some_attribute}
use Rattle.xml_tags.specs.Tags.{some_long}
use Rattle.xml_tags.specs.Reading.{body_of}
use Rattle.xml_attributes.proofs.Parts.{read_attribute, attributes_go, attributes_stop, attributes_out}

-- ---- the limits, one after the other
module _ (over : Bool) (name value : ℕ) (f : over ≡ false) where
  pub name_passes : name_limit < name → true ≡ over or ltb name_limit name or ltb value_limit value
  name_passes h = rw (f, lt-ltb name_limit name h)

  pub value_passes : name ≤ name_limit → ltb value_limit value ≡ over or ltb name_limit name or ltb value_limit value
  value_passes h = rw (f, le-ltb name_limit name h)

-- ---- the loop: what the reading brings, told from `at`, is that told from i
abbrev pub Brings : List ℕ → ℕ → ℕ → ℕ → Bool → Type 0
Brings s at i k over = body_of s 0 false (attributes s at) ≡ body_of s k over (attributes s i)

module _ (s : List ℕ) (at i k : ℕ) (over : Bool) (l : Brings s at i k over) where
  pub brings_out : length s ≤ i → record { ending = Err Malformed; count = k; over = over } ≡ body_of s 0 false (attributes s at)
  unfolding body_of
  brings_out h = sym (l ∙ rw (attributes_out s i h))

  module _ (h : i < length s) (x : TagPart) (ex : x ≡ part_at s i) where
    pub brings_end : (t : Result Tag Reason) → x ≡ Ended t → record { ending = t; count = k; over = over } ≡ body_of s 0 false (attributes s at)
    unfolding body_of
    brings_end t z = sym (l ∙ rw (attributes_stop s i x ex t z h))

    pub brings_more : (a : Attribute) → x ≡ Read a → (u : Bool) → u ≡ over or ltb name_limit (a.name_end - a.at) or ltb value_limit (a.value_end - a.value) → Brings s at (a.value_end + 1) (k + 1) u
    unfolding body_of is_long
    brings_more a z u eu =
        l ∙ rw (attributes_go s i x ex a z h)
        (ap (λ t. body_of s (k + 1) t (attributes s (a.value_end + 1))) (ap (λ y. over or long y) (read_attribute s i x ex a z) ∙ sym eu))

-- ---- what the reading brings, told of the list
pub brought : (s : List ℕ) (k : ℕ) (over : Bool) (r : Chain (Result Tag Reason)) → body_of s k over r ≡ record { ending = ending r; count = k + length (items r); over = over or some_long s (items r) }
unfolding body_of items ending some_attribute
brought s k over (last t) =
    let a : k + 0 ≡ k = omega arith in
    rw (a, or_false over)
brought s k over (item b r) =
    let a : k + 1 + length (items r) ≡ k + suc (length (items r)) = omega arith in
    brought s (k + 1) (over or is_long s b) r ∙ rw (a, or_join over (is_long s b) (some_long s (items r)))
