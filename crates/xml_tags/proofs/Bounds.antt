-- Where a tag ends: behind its start, and within.
-- Assumes nothing.
use mathlib.Core.Path.{◌≡◌, subst}
use mathlib.Core.List.{List}
use Prim.Native.Nat.{ℕ, ◌+◌, ◌-◌, ◌<◌, ◌≤◌}
use Prim.Native.Char.{code}
use native.Mathlib.Omega.{arith}
use borrow.Author.Tests.{eqb-true}
use Rattle.std.specs.Prelude.{is_err, Option, Some, None, Result, Ok, Err}
use Rattle.refusals.specs.declared.Reason.TheVariants.{Malformed}
use Rattle.refusals.specs.declared.Reason.{Reason}
use lib.Dec.{eqb, ltb}
use lib.ListN.{length, get_or}
use Rattle.text_scan.specs.Choice.{◌and◌, ◌or◌}
use Rattle.text_scan.specs.Bytes.{text}
use Rattle.text_scan.specs.Lists.{stands}
use Rattle.text_scan.proofs.Tests.{pick_case}
use Rattle.text_scan.proofs.Within.{there}
use Rattle.text_scan.proofs.Lists.{text_fits}
use Rattle.xml_names.specs.Names.{space_end}
use Rattle.xml_names.proofs.Names.{space_least}
use Rattle.xml_attributes.specs.declared.Attribute.{Attribute}
use Rattle.xml_attributes.specs.declared.TagPart.{TagPart}
use Rattle.xml_attributes.specs.declared.TagPart.TheVariants.{Read, Ended}
use Rattle.xml_attributes.specs.declared.Tag.{Tag}
use Rattle.xml_attributes.specs.declared.Tag.TheVariants.{Start, Empty}
use Rattle.xml_names.specs.ElementNames.{element_end}
use Rattle.xml_attributes.specs.Attributes.{attribute_at}
use Rattle.xml_attributes.specs.Chains.{Piece, holds, ends, items, ending}
use Rattle.xml_attributes.specs.Parts.{read_at, part_to, part_at, in_chain, tag_piece_at, attributes, repeated}
use Rattle.xml_tags.specs.Tags.{past_limit, tag_answer, tag_to, tag_at}
use Rattle.xml_names.proofs.ElementNames.{element_least}
use Rattle.xml_attributes.proofs.Chains.{chain_keeps}

abbrev pub TagWithin : ℕ → ℕ → Result Tag Reason → Type 0
TagWithin at m (Ok (Start j)) = (at < j) × (j ≤ m)
TagWithin at m (Ok (Empty j)) = (at < j) × (j ≤ m)
TagWithin at m (Err k) = Unit {0}

-- the same of a part and of a piece that ends a row
abbrev PartWithin : ℕ → ℕ → TagPart → Type 0
PartWithin at m (Read a) = Unit {0}
PartWithin at m (Ended t) = TagWithin at m t

abbrev PieceWithin : ℕ → ℕ → Piece (Result Tag Reason) → Type 0
PieceWithin at m (holds b w) = Unit {0}
PieceWithin at m (ends t) = TagWithin at m t

module _ (s : List ℕ) (at : ℕ) where
  read_within : (x : Option Attribute) → PartWithin at (length s) (read_at x)
  read_within (Some a) = tt
  read_within None = tt

  part_within : (i : ℕ) → at ≤ i → PartWithin at (length s) (part_at s i)
  unfolding part_to
  part_within i h =
      let j : ℕ = space_end s i in
      pick_case (PartWithin at (length s)) (eqb (get_or s j 0) (code ">")) _ _
      (λ e. omega (arith, space_least s i, there s j 62 (omega arith) (eqb-true (get_or s j 0) 62 e)))
      (λ _. pick_case (PartWithin at (length s)) (stands (text "/>") s j) _ _
      (λ e. omega (arith, space_least s i, text_fits (text "/>") s j (omega arith) e))
      (λ _. pick_case (PartWithin at (length s)) (ltb i j) _ _ (λ _. read_within (attribute_at s j)) (λ _. tt)))

  in_chain_within : (i : ℕ) (x : TagPart) → PartWithin at (length s) x → PieceWithin at (length s) (in_chain i x)
  in_chain_within i (Read a) w = tt
  in_chain_within i (Ended t) w = w

  piece_within : (i : ℕ) (t : Result Tag Reason) → at ≤ i → i < length s → tag_piece_at s i ≡ ends t → TagWithin at (length s) t
  unfolding tag_piece_at
  piece_within i t h g e = subst (PieceWithin at (length s)) e (in_chain_within i (part_at s i) (part_within i h))

  pub ending_within : (n : ℕ) → at ≤ n → TagWithin at (length s) (ending (attributes s n))
  unfolding attributes
  ending_within n h = chain_keeps (tag_piece_at s) (Err Malformed) (TagWithin at (length s)) at (length s) piece_within tt n h

  judged_within : (m : ℕ) (bs : List ℕ) (t : Result Tag Reason) → TagWithin at (length s) t → TagWithin at (length s) (tag_answer s m bs t)
  unfolding tag_answer
  judged_within m bs t w =
      pick_case (TagWithin at (length s)) (is_err t or repeated s bs) _ _ (λ _. tt)
      (λ _. pick_case (TagWithin at (length s)) (past_limit s m bs) _ _ (λ _. tt) (λ _. w))

  pub tag_within : TagWithin at (length s) (tag_at s at)
  unfolding tag_to
  tag_within =
      let n : ℕ = element_end s (at + 1) in
      pick_case (TagWithin at (length s)) (eqb (get_or s at 0) (code "<") and ltb (at + 1) n) _ _
      (λ _. judged_within (n - (at + 1)) (items (attributes s n)) (ending (attributes s n)) (ending_within n (omega (arith, element_least s (at + 1)))))
      (λ _. tt)
