-- A tag without fault ends with '>'.
-- Assumes nothing.
use mathlib.Core.Path.{◌≡◌, sym, ◌∙◌, ap, subst}
use mathlib.Core.Bool.{true}
use mathlib.Core.List.{List, [], ◌∷◌}
use Prim.Native.Nat.{ℕ, zero, suc, ◌+◌, ◌-◌, ◌<◌}
use Prim.Native.Char.{code}
use native.Mathlib.Omega.{arith}
use borrow.Author.Tests.{eqb-true}
use lib.Dec.{eqb, ltb}
use lib.ListN.{length, drop, get_or}
use Rattle.std.specs.Prelude.{Option, Some, None, Result, Ok, Err}
use Rattle.refusals.specs.declared.Reason.TheVariants.{Malformed}
use Rattle.refusals.specs.declared.Reason.{Reason}
use lib.Seq.{get_or-drop}
use Rattle.text_scan.specs.Bytes.{text}
use Rattle.text_scan.specs.Lists.{begins, stands}
use Rattle.text_scan.proofs.Tests.{never, pick_case, and_left, and_right}
use Rattle.xml_names.specs.Names.{space_end}
use Rattle.xml_attributes.specs.declared.Attribute.{Attribute}
use Rattle.xml_attributes.specs.declared.TagPart.{TagPart}
use Rattle.xml_attributes.specs.declared.TagPart.TheVariants.{Read, Ended}
use Rattle.xml_attributes.specs.declared.Tag.{Tag}
use Rattle.xml_attributes.specs.declared.Tag.TheVariants.{Start, Empty}
use Rattle.xml_attributes.specs.Attributes.{attribute_at}
use Rattle.xml_attributes.specs.Chains.{Piece, holds, ends, ending}
use Rattle.xml_attributes.specs.Parts.{read_at, part_to, part_at, in_chain, tag_piece_at, attributes}
use Rattle.xml_attributes.proofs.Chains.{chain_keeps}

-- the bytes of a text that stands at a position
begins_byte : (t xs : List ℕ) (k : ℕ) → begins t xs ≡ true → k < length t → get_or xs k 0 ≡ get_or t k 0
unfolding begins
begins_byte [] xs k e h = absurd (omega arith)
begins_byte (t ∷ ts) [] k e h = never (sym e)
begins_byte (t ∷ ts) (x ∷ xs) zero e h = eqb-true x t (and_left (eqb x t) (begins ts xs) e)
begins_byte (t ∷ ts) (x ∷ xs) (suc k) e h = begins_byte ts xs k (and_right (eqb x t) (begins ts xs) e) (omega arith)

text_byte : (t s : List ℕ) (i k : ℕ) → stands t s i ≡ true → k < length t → get_or s (i + k) 0 ≡ get_or t k 0
text_byte t s i k e h = sym (get_or-drop i s k 0) ∙ begins_byte t (drop i s) k e h

module _ (s : List ℕ) where
  abbrev pub Closes : Result Tag Reason → Type 0
  Closes (Ok (Start m)) = get_or s (m - 1) 0 ≡ code ">"
  Closes (Ok (Empty m)) = get_or s (m - 1) 0 ≡ code ">"
  Closes (Err k) = Unit {0}

  abbrev PartCloses : TagPart → Type 0
  PartCloses (Read a) = Unit {0}
  PartCloses (Ended t) = Closes t

  abbrev PieceCloses : Piece (Result Tag Reason) → Type 0
  PieceCloses (holds b w) = Unit {0}
  PieceCloses (ends t) = Closes t

  read_closes : (x : Option Attribute) → PartCloses (read_at x)
  read_closes (Some a) = tt
  read_closes None = tt

  part_closes : (i : ℕ) → PartCloses (part_at s i)
  unfolding part_to
  part_closes i =
      let j : ℕ = space_end s i in
      pick_case PartCloses (eqb (get_or s j 0) (code ">")) _ _
      (λ e.
      let a : j + 1 - 1 ≡ j = omega arith in
      ap (λ (k : ℕ). get_or s k 0) a ∙ eqb-true (get_or s j 0) (code ">") e)
      (λ _. pick_case PartCloses (stands (text "/>") s j) _ _
      (λ e.
      let a : j + 2 - 1 ≡ j + 1 = omega arith in
      ap (λ (k : ℕ). get_or s k 0) a ∙ text_byte (text "/>") s j 1 e (omega arith))
      (λ _. pick_case PartCloses (ltb i j) _ _ (λ _. read_closes (attribute_at s j)) (λ _. tt)))

  chain_closes : (i : ℕ) (x : TagPart) → PartCloses x → PieceCloses (in_chain i x)
  chain_closes i (Read a) w = tt
  chain_closes i (Ended t) w = w

  pub ending_closes : (i : ℕ) → Closes (ending (attributes s i))
  unfolding attributes tag_piece_at
  ending_closes i =
      chain_keeps (tag_piece_at s) (Err Malformed) Closes 0 (length s) (λ k t h g e. subst PieceCloses e (chain_closes k (part_at s k) (part_closes k))) tt i (omega arith)
