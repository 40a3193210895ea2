-- The collecting of the places of a tag's attributes, by what the loop knows; and the answer that is decided on them.
-- Assumes nothing.
use mathlib.Core.Path.{◌≡◌, refl, sym, ◌∙◌, ap}
use mathlib.Core.Bool.{Bool}
use mathlib.Core.List.{List, [], ◌∷◌}
use Prim.Native.Nat.{ℕ, ◌+◌, ◌*◌, ◌<◌, ◌≤◌}
use native.Mathlib.Omega.{arith}
use mir.Val.{Fits}
use mir.Syntax.{w64}
use lib.ListN.{length, take, set}
use lib.Seq.{sets, length-sets, length-take-le}
use Rattle.xml_reader.specs.Limits.{document_limit}
use Rattle.xml_distinct.specs.Repeats.{twice}
use Rattle.xml_attributes.specs.declared.Attribute.{Attribute}
use Rattle.xml_attributes.specs.declared.TagPart.{TagPart}
use Rattle.xml_attributes.specs.declared.TagPart.TheVariants.{Read, Ended}
use Rattle.xml_attributes.specs.declared.Tag.{Tag}
use Rattle.xml_attributes.specs.Chains.{items}
use Rattle.xml_attributes.specs.Parts.{part_at, attributes, repeated}
use Rattle.xml_attributes.proofs.Parts.{read_falls, read_named, read_name_within, attributes_go, attributes_stop, attributes_out}
use Rattle.xml_attributes.proofs.Keeping.{Keeps, keeps_more, length_more, count_more, kept_whole}
use Rattle.xml_attributes.specs.Listed.{listed}
use Rattle.xml_attributes.proofs.Listed.{turn, none_left}
use Rattle.xml_repeats.proofs.Twice.{repeated_twice}

-- ---- how many: those from `at` on are k and those from i on
abbrev pub Counts : List ℕ → ℕ → ℕ → ℕ → Type 0
Counts s at i k = length (items (attributes s at)) ≡ k + length (items (attributes s i))

module _ (s : List ℕ) (at i k : ℕ) (l : Counts s at i k) where
  module _ (h : i < length s) (x : TagPart) (ex : x ≡ part_at s i) where
    pub counts_more : (a : Attribute) → x ≡ Read a → Counts s at (a.value_end + 1) (k + 1)
    unfolding items
    counts_more a z = l ∙ rw (attributes_go s i x ex a z h) (omega arith)

-- a place is within the document
pub place_within : (s : List ℕ) (i : ℕ) (x : TagPart) → x ≡ part_at s i → (a : Attribute) → x ≡ Read a → length s ≤ document_limit → a.at ≤ document_limit
place_within s i x ex a z h = omega (arith, read_named s i x ex a z, read_name_within s i x ex a z)

-- ---- the loop over the iterator: it has left what stands from some place i on, and the k attributes before are counted and kept
abbrev pub Collected : List ℕ → ℕ → List ℕ → ℕ → List ℕ → List Attribute → Type 0
Collected s at starts₀ k starts rest =
    (i : ℕ) × (rest ≡ listed s i) × Counts s at i k × Keeps s at starts₀ i k starts × (length starts ≡ length starts₀) × (k ≤ i)

module _ (s : List ℕ) (at : ℕ) (starts₀ : List ℕ) (k : ℕ) (starts : List ℕ) (rest : List Attribute) (l : Collected s at starts₀ k starts rest) where
  pub collected_all : rest ≡ [] → (k ≡ length (items (attributes s at))) × (starts ≡ sets starts₀ 0 (items (attributes s at)))
  collected_all q =
      let e = none_left s l.0 (sym l.1 ∙ q) in
      (sym (l.2 ∙ rw e (omega arith)), sym (l.3 ∙ rw e))

  module _ (a : Attribute) (behind : List Attribute) (q : rest ≡ a ∷ behind) where
    here : (Read a ≡ part_at s l.0) × (behind ≡ listed s (a.value_end + 1))
    here = turn s l.0 a behind (sym l.1 ∙ q)

    pub collected_within : length s ≤ document_limit → a.at ≤ document_limit
    collected_within h = place_within s l.0 (Read a) here.0 a refl h

    pub collected_fits : length s ≤ document_limit → Fits w64 (k + 1)
    collected_fits h = omega (arith, l.5, read_falls s l.0 (Read a) here.0 a refl)

    pub collected_more : (m : List ℕ) → m ≡ set starts k a.at → Collected s at starts₀ (k + 1) m behind
    collected_more m em =
        let h : l.0 < length s = omega (arith, read_falls s l.0 (Read a) here.0 a refl) in (
          a.value_end + 1,
          here.1,
          counts_more s at l.0 k l.2 h (Read a) here.0 a refl,
          keeps_more s at starts₀ l.0 k starts l.3 h (Read a) here.0 a refl m em,
          length_more starts₀ starts m k a.at em l.4,
          count_more s l.0 k (Read a) here.0 a refl l.5,
        )

-- ---- the places decide
pub by_all_places : (s starts₀ starts bs : List ℕ) (count : ℕ) (r : Bool) → starts ≡ sets starts₀ 0 bs → count ≡ length bs → count ≤ length starts → r ≡ twice s (take count starts) → r ≡ repeated s bs
by_all_places s starts₀ starts bs count r e f h g =
    g ∙ ap (twice s) (ap (take count) e ∙ (rw f (kept_whole starts₀ bs room))) ∙ sym (repeated_twice s bs)
  where
    room : length bs ≤ length starts₀
    room = omega (arith, ap length e, length-sets starts₀ 0 bs)

pub places_room : (starts starts₀ room bs : List ℕ) (count : ℕ) → starts ≡ sets starts₀ 0 bs → count ≤ length starts → length starts₀ ≤ 2 * length room → length (take count starts) ≤ 2 * length room
places_room starts starts₀ room bs count e h g =
    omega (arith, ap length e, length-sets starts₀ 0 bs, length-take-le count starts h)
