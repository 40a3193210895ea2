-- White space before '<' is a piece of text, in each part of the document.
-- Assumes nothing.
use Rattle.std.specs.Prelude.{Some}
use mathlib.Core.Path.{◌≡◌, refl, sym, ◌∙◌, ap}
use mathlib.Core.Bool.{Bool, true, false}
use mathlib.Core.List.{List}
use Prim.Native.Nat.{ℕ, zero, suc, ◌+◌, ◌<◌, ◌≤◌}
use Prim.Native.Char.{code}
use native.Mathlib.Omega.{arith}
use borrow.Author.Tests.{eq-eqb, ne_eqb}
use lib.Dec.{eqb}
use lib.ListN.{length, get_or}
use Rattle.text_scan.proofs.Lists.{run_goes, run_stops, run_ends}
use Rattle.text_scan.proofs.Tests.{never, or_true}
use Rattle.text_scan.proofs.Within.{inside, there}
use Rattle.xml_names.specs.Names.{is_space, space_end}
use Rattle.xml_references.specs.Runs.{text_end}
use Rattle.xml_references.proofs.Ends.{text_start, text_less, text_other}
use Rattle.xml_pieces.specs.declared.Kind.TheVariants.{Text}
use Rattle.xml_pieces.specs.declared.DocumentPart.{DocumentPart}
use Rattle.xml_pieces.specs.declared.DocumentPart.TheVariants.{Before, Inside, After}
use Rattle.xml_pieces.specs.declared.Scanned.{Scanned}
use Rattle.xml_pieces.specs.declared.Scanned.TheVariants.{Piece}
use Rattle.xml_pieces.specs.Pieces.{found, text_piece_at, piece_at}

-- a space is no other byte
not_space : (x b : ℕ) → is_space b ≡ false → is_space x ≡ true → x ≡ b → ⊥
not_space x b f e z = never (sym (sym f ∙ sym (ap is_space z) ∙ e))

module _ (s : List ℕ) where
  -- ---- text ends where it ends behind white space
  over_space : (i : ℕ) → i < length s → is_space (get_or s i 0) ≡ true → text_end s i ≡ text_end s (i + 1)
  unfolding text_end
  over_space i h e =
      text_other s i i (text_start s i) h (not_space (get_or s i 0) (code "<") refl e) (not_space (get_or s i 0) (code "]") refl e) (not_space (get_or s i 0) (code "&") refl e)

  over_spaces : (m i : ℕ) → length s ≤ i + m → text_end s i ≡ text_end s (space_end s i)
  over_spaces zero i h = ap (text_end s) (run_ends is_space s i i refl (omega arith))
  over_spaces (suc m) i h = inside (length s) i (λ g. go g (over_spaces m (i + 1) (omega arith)) (is_space (get_or s i 0)) refl) (λ g. ap (text_end s) (run_ends is_space s i i refl g))
    where
      go : i < length s → text_end s (i + 1) ≡ text_end s (space_end s (i + 1)) → (t : Bool) → t ≡ is_space (get_or s i 0) → text_end s i ≡ text_end s (space_end s i)
      go g k true q = over_space i g (sym q) ∙ k ∙ ap (text_end s) (sym (run_goes is_space s i i refl true g q refl))
      go g k false q = ap (text_end s) (run_stops is_space s i i refl false g q refl)

  module _ (at e : ℕ) (ee : e ≡ space_end s at) (h : at < e) where
    begins_space : (t : Bool) → t ≡ is_space (get_or s at 0) → is_space (get_or s at 0) ≡ true
    begins_space true q = sym q
    begins_space false q =
        absurd (inside (length s) at (λ g. omega (arith, run_stops is_space s at at refl false g q refl)) (λ g. omega (arith, run_ends is_space s at at refl g)))

    module _ (b : ℕ) (eb : b ≡ get_or s e 0) (z : b ≡ code "<") where
      ends_there : text_end s at ≡ Some e
      ends_there =
          over_spaces (length s) at (omega arith) ∙ ap (text_end s) (sym ee)
          ∙ sym (text_less s e e (text_start s e) (there s e (code "<") (omega arith) (sym eb ∙ z)) (sym eb ∙ z))

      space_text : (part : DocumentPart) → Piece Text e ≡ text_piece_at s at part
      unfolding text_piece_at
      space_text Before = rw (← ee, ← eb, eq-eqb b (code "<") z, or_true (eqb e (length s)))
      space_text Inside = sym (ap (found Text) ends_there)
      space_text After = rw (← ee, ← eb, eq-eqb b (code "<") z, or_true (eqb e (length s)))

      pub space_piece : (part : DocumentPart) → Piece Text e ≡ piece_at s at part
      unfolding piece_at
      space_piece part =
          rw (ne_eqb (get_or s at 0) (code "<") (not_space (get_or s at 0) (code "<") refl (begins_space (is_space (get_or s at 0)) refl))) (space_text part)

-- the part of the document that the code was told
pub of_part : (s : List ℕ) (at : ℕ) (p q : DocumentPart) → p ≡ q → (r : Scanned) → r ≡ piece_at s at p → r ≡ piece_at s at q
of_part s at p q e r f = f ∙ ap (piece_at s at) e
