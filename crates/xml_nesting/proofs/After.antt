-- After the root no element starts: a tag there is refused.
-- Assumes nothing.
use Rattle.std.specs.Prelude.{Option, None, Some, ℕ, Result, Ok, Err}
use Rattle.refusals.specs.declared.Reason.{Reason}
use mathlib.Core.Path.{◌≡◌, subst}
use mathlib.Core.List.{List}
use Prim.Native.Nat.{ℕ}
use lib.Dec.{eqb}
use lib.ListN.{length, get_or}
use Rattle.text_scan.specs.Choice.{◌or◌, ◌and◌}
use Rattle.text_scan.specs.Bytes.{text}
use Rattle.text_scan.specs.Lists.{stands}
use Rattle.text_scan.proofs.Tests.{pick_case}
use Rattle.xml_names.specs.Names.{space_end}
use Rattle.xml_markup.specs.Comments.{comment_end}
use Rattle.xml_markup.specs.Instructions.{instruction_end}
use Rattle.xml_declaration.specs.Declaration.{is_declaration, declaration_end}
use Rattle.xml_pieces.specs.declared.Kind.{Kind}
use Rattle.xml_pieces.specs.declared.Kind.TheVariants.{Text, Comment, Instruction, Declaration, Start, Empty, End}
use Rattle.xml_pieces.specs.declared.DocumentPart.TheVariants.{After}
use Rattle.xml_pieces.specs.declared.Scanned.{Scanned}
use Rattle.xml_pieces.specs.declared.Scanned.TheVariants.{Piece, Refused}
use Rattle.xml_pieces.specs.Pieces.{found, only_space, text_piece_at, bang_at, instructed, question_at, end_at, start_at, markup_at, piece_at}

-- a piece of this kind adds an element
abbrev pub Adds : Kind → Type 0
Adds Text = ⊥
Adds Comment = ⊥
Adds Instruction = ⊥
Adds Declaration = ⊥
Adds Start = Unit {0}
Adds Empty = Unit {0}
Adds End = ⊥

abbrev NoTag : Scanned → Type 0
NoTag (Piece k j) = Adds k → ⊥
NoTag (Refused n) = Unit {0}

found_none : (k : Kind) → (Adds k → ⊥) → (x : Option ℕ) → NoTag (found k x)
found_none k f (Some j) = f
found_none k f None = tt

instructed_none : (x : Result ℕ Reason) → NoTag (instructed x)
instructed_none (Ok j) = λ a. a
instructed_none (Err n) = tt

module _ (s : List ℕ) (i : ℕ) where
  space_none : (j : ℕ) → NoTag (only_space s j)
  space_none j = pick_case NoTag (eqb j (length s) or eqb (get_or s j 0) 60) _ _ (λ _ a. a) (λ _. tt)

  bang_none : NoTag (bang_at s i)
  unfolding bang_at
  bang_none =
      pick_case NoTag (stands (text "<!--") s i) _ _ (λ _. found_none Comment (λ a. a) (comment_end s i))
      (λ _. pick_case NoTag (stands (text "<!DOCTYPE") s i or stands (text "<![CDATA[") s i) _ _ (λ _. tt) (λ _. tt))

  question_none : NoTag (question_at s i)
  unfolding question_at
  question_none =
      pick_case NoTag (eqb i 0 and is_declaration s) _ _ (λ _. found_none Declaration (λ a. a) (declaration_end s)) (λ _. instructed_none (instruction_end s i))

  none_after : NoTag (piece_at s i After)
  unfolding piece_at markup_at text_piece_at end_at start_at
  none_after =
      pick_case NoTag (eqb (get_or s i 0) 60) _ _
      (λ _. pick_case NoTag (stands (text "<!") s i) _ _ (λ _. bang_none)
      (λ _. pick_case NoTag (stands (text "<?") s i) _ _ (λ _. question_none)
      (λ _. pick_case NoTag (stands (text "</") s i) _ _ (λ _. tt) (λ _. tt))))
      (λ _. space_none (space_end s i))

  pub no_tag_after : (k : Kind) (j : ℕ) → piece_at s i After ≡ Piece k j → Adds k → ⊥
  no_tag_after k j e = subst NoTag e none_after
