-- The places of a tag's attributes, kept in a run of numbers as the tag is read.
-- Assumes nothing.
use Rattle.std.specs.Prelude.{Result}
use Rattle.refusals.specs.declared.Reason.{Reason}
use mathlib.Core.Path.{◌≡◌, refl, sym, ◌∙◌, ap}
use mathlib.Core.List.{List}
use Prim.Native.Nat.{ℕ, ◌+◌, ◌<◌, ◌≤◌}
use native.Mathlib.Numerals.{add-one}
use native.Mathlib.Omega.{arith}
use lib.ListN.{length, set, length-set, take, drop}
use lib.Seq.{set_out, sets, sets-eq, take_at, length-take-le}
use Rattle.xml_attributes.specs.declared.Attribute.{Attribute}
use Rattle.xml_attributes.specs.declared.TagPart.{TagPart}
use Rattle.xml_attributes.specs.declared.TagPart.TheVariants.{Read, Ended}
use Rattle.xml_attributes.specs.declared.Tag.{Tag}
use Rattle.xml_attributes.specs.Chains.{items}
use Rattle.xml_attributes.specs.Parts.{part_at, attributes}
use Rattle.xml_attributes.proofs.Parts.{read_behind, read_named, read_valued, read_closed, attributes_go, attributes_stop, attributes_out}

-- ---- a place past the last keeps nothing
pub keep_past : (l : List ℕ) (k b : ℕ) → length l ≤ k → l ≡ set l k b
keep_past l k b h = sym (set_out l k b h)

-- ---- the loop: the places that are kept, told from `at`, are those told from i
abbrev pub Keeps : List ℕ → ℕ → List ℕ → ℕ → ℕ → List ℕ → Type 0
Keeps s at starts₀ i k starts = sets starts₀ 0 (items (attributes s at)) ≡ sets starts k (items (attributes s i))

module _ (s : List ℕ) (at : ℕ) (starts₀ : List ℕ) (i k : ℕ) (starts : List ℕ) (l : Keeps s at starts₀ i k starts) where
  pub keeps_out : length s ≤ i → starts ≡ sets starts₀ 0 (items (attributes s at))
  unfolding items
  keeps_out h = sym (l ∙ rw (attributes_out s i h))

  module _ (h : i < length s) (x : TagPart) (ex : x ≡ part_at s i) where
    pub keeps_end : (t : Result Tag Reason) → x ≡ Ended t → starts ≡ sets starts₀ 0 (items (attributes s at))
    unfolding items
    keeps_end t z = sym (l ∙ rw (attributes_stop s i x ex t z h))

    pub keeps_more : (a : Attribute) → x ≡ Read a → (m : List ℕ) → m ≡ set starts k a.at → Keeps s at starts₀ (a.value_end + 1) (k + 1) m
    unfolding items
    keeps_more a z m em = l ∙ rw (attributes_go s i x ex a z h, add-one k, em)

-- nothing is written behind the last place
pub length_more : (starts₀ starts m : List ℕ) (k b : ℕ) → m ≡ set starts k b → length starts ≡ length starts₀ → length m ≡ length starts₀
length_more starts₀ starts m k b e l = ap length e ∙ length-set starts k b ∙ l

-- the number of attributes grows no faster than the position
pub count_more : (s : List ℕ) (i k : ℕ) (x : TagPart) → x ≡ part_at s i → (a : Attribute) → x ≡ Read a → k ≤ i → k + 1 ≤ a.value_end + 1
count_more s i k x ex a z h =
    omega (arith, read_behind s i x ex a z, read_named s i x ex a z, read_valued s i x ex a z, read_closed s i x ex a z)

-- ---- the places that are kept are the list, where there is room
pub kept_whole : (l bs : List ℕ) → length bs ≤ length l → take (length bs) (sets l 0 bs) ≡ bs
kept_whole l bs h =
    let g : 0 + length bs ≤ length l = omega arith in
    rw (sets-eq bs l 0 g) (take_at bs (drop (0 + length bs) l) (length bs) refl)

pub part_length : (l : List ℕ) (k : ℕ) → k ≤ length l → k ≡ length (take k l)
part_length l k h = sym (length-take-le k l h)
