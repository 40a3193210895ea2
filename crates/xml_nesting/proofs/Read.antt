-- The rows that are read of a document are in document order, and the elements lie in the document.
-- Assumes nothing.
use Rattle.refusals.specs.declared.Reason.TheVariants.{Malformed, PastLimit}
use mathlib.Core.Path.{◌≡◌, refl, ◌∙◌, ap, subst}
use mathlib.Core.Bool.{Bool, true, false}
use mathlib.Core.List.{List}
use Prim.Native.Nat.{ℕ, zero, suc, ◌+◌, ◌*◌, ◌<◌, ◌≤◌}
use native.Mathlib.Omega.{arith}
use borrow.Author.Tests.{ltb-true, eqb-true}
use lib.Dec.{ltb, eqb}
use lib.ListN.{length, get_or}
use Rattle.text_scan.specs.Choice.{pick, ◌and◌}
use Rattle.text_scan.specs.Turns.{on, out}
use Rattle.text_scan.proofs.Turns.{run_keeps}
use Rattle.text_scan.proofs.Tests.{and_left, and_right, pick_case}
use Rattle.text_chars.specs.Utf8.{first_bad}
use Rattle.xml_reader.specs.Limits.{document_limit, elements_limit}
use Rattle.xml_pieces.specs.declared.Kind.{Kind}
use Rattle.xml_pieces.specs.declared.Kind.TheVariants.{Text, Comment, Instruction, Declaration, Start, Empty, End}
use Rattle.xml_pieces.specs.declared.Scanned.{Scanned}
use Rattle.xml_pieces.specs.declared.Scanned.TheVariants.{Piece, Refused as Refusing}
use Rattle.xml_pieces.specs.Pieces.{piece_at}
use Rattle.xml_pieces.proofs.Within.{Within, piece_within, end_inside}
use Rattle.xml_steps.specs.Reading.{Reading, Read, refused, elements, fresh, passed, added, closed, has_element_room, adding, closing, document_part, by_piece}
use Rattle.xml_elements.specs.Elements.{at_end, turn, left, read_from, elements_of}
use Rattle.xml_steps.specs.Walked.{Sound}
use Rattle.xml_steps.proofs.Keeps.{chosen, went, never_on, gone, closing_on, piece_out}
use Rattle.xml_elements.proofs.Walks.{turn_falls, fresh_sound, part_deep, refused_never, turn_sound}
use Rattle.xml_nesting.specs.Nested.{Nested}
use Rattle.xml_nesting.proofs.After.{Adds, no_tag_after}
use Rattle.xml_nesting.proofs.InOrder.{InOrder, fresh_order, passed_order, empty_order, start_order, closed_order}

-- ---- one piece
abbrev Kept : ℕ → Reading → Type 0
Kept n r = Sound n r × InOrder r

fresh_kept : (n : ℕ) → Kept n fresh
fresh_kept n = (fresh_sound n, fresh_order)

module _ (t : Reading) where
  piece_order : (s : List ℕ) (r : Reading) (j : ℕ) → Kept (length s) r → r.at < j → (k : Kind) → (Adds k → 0 < r.count → 0 < r.depth) → (k ≡ End → 0 < r.depth) → by_piece s r (Piece k j) ≡ on t → InOrder t
  unfolding by_piece adding
  piece_order s r j w h Text f g e = subst InOrder (went (passed r j) t e) (passed_order r j w.1)
  piece_order s r j w h Comment f g e = subst InOrder (went (passed r j) t e) (passed_order r j w.1)
  piece_order s r j w h Instruction f g e = subst InOrder (went (passed r j) t e) (passed_order r j w.1)
  piece_order s r j w h Declaration f g e = subst InOrder (went (passed r j) t e) (passed_order r j w.1)
  piece_order s r j w h Start f g e =
      subst InOrder (chosen (has_element_room r) (added r j (r.depth + 1) r.count) t (refused PastLimit r.at) e).1 (start_order (length s) r j w.0 w.1 h (f tt))
  piece_order s r j w h Empty f g e =
      subst InOrder (chosen (has_element_room r) (added r j r.depth r.top) t (refused PastLimit r.at) e).1 (empty_order (length s) r j w.0 w.1 h (f tt))
  piece_order s r j w h End f g e =
      subst InOrder (closing_on s r t j e) (closed_order (length s) r j w.0 w.1 h (g refl))

-- ---- one turn
-- a tag adds an element inside the root, or the root
tag_deep : (s : List ℕ) (i j count depth : ℕ) (k : Kind) → piece_at s i (document_part count depth) ≡ Piece k j → Adds k → 0 < count → 0 < depth
tag_deep s i j count (suc depth) k e a h = omega arith
tag_deep s i j zero zero k e a h = absurd (omega arith)
tag_deep s i j (suc count) zero k e a h = absurd (no_tag_after s i k j e a)

end_deep : (s : List ℕ) (i j count depth : ℕ) (k : Kind) → piece_at s i (document_part count depth) ≡ Piece k j → k ≡ End → 0 < depth
end_deep s i j count depth k e q =
    part_deep count depth (end_inside s i j (document_part count depth) (e ∙ ap (λ (y : Kind). Piece y j) q)).0

pub turn_order : (s : List ℕ) (r t : Reading) → Kept (length s) r → turn s r ≡ on t → InOrder t
unfolding turn
turn_order s r t w e = go (ltb r.at (length s)) refl (piece_at s r.at (document_part r.count r.depth)) refl e
  where
    go : (b : Bool) → ltb r.at (length s) ≡ b → (x : Scanned) → piece_at s r.at (document_part r.count r.depth) ≡ x → pick b (by_piece s r x) (out (at_end s r)) ≡ on t → InOrder t
    go true q (Piece k j) ex e =
        let n : Within r.at (length s) (Piece k j) = subst (Within r.at (length s)) ex (piece_within s r.at (document_part r.count r.depth) (ltb-true r.at (length s) q)) in
        piece_order t s r j w n.0 k (tag_deep s r.at j r.count r.depth k ex) (end_deep s r.at j r.count r.depth k ex) e
    go true q (Refusing n) ex e = refused_never s r t n e
    go false q x ex e = never_on (at_end s r) t e

-- ---- all pieces
-- the rows of a document that is not refused
pub record Rows (s : List ℕ) (n : ℕ) (rows : List ℕ) : Type 0 where
  pub rooted : 0 < n
  pub few : n ≤ elements_limit
  pub wide : length rows ≡ 4 * n
  pub low : (k : ℕ) → get_or rows k 0 ≤ length s
  pub ordered : Nested rows n

abbrev ReadRows : List ℕ → Read → Type 0
ReadRows s (refused n place) = Unit {0}
ReadRows s (elements n rows) = Rows s n rows

end_rows : (s : List ℕ) (r : Reading) → Kept (length s) r → ReadRows s (at_end s r)
end_rows s r w =
    pick_case (ReadRows s) (eqb r.depth 0 and ltb 0 r.count) _ _
    (λ e.
    let z : r.depth ≡ 0 = eqb-true r.depth 0 (and_left (eqb r.depth 0) (ltb 0 r.count) e) in
    record {
      rooted = ltb-true 0 r.count (and_right (eqb r.depth 0) (ltb 0 r.count) e);
      few = w.0.few;
      wide = w.0.wide;
      low = λ k. omega (arith, w.0.low k, w.0.within);
      ordered =
          record {
            room = omega (arith, w.0.wide);
            root = omega (arith, w.0.above 0);
            earlier = w.1.earlier;
            rises = w.1.rises;
            ends = w.1.ends;
            nested = λ k h g. w.1.nested k h g (rw z);
          };
    })
    (λ _. tt)

turn_rows : (s : List ℕ) (r : Reading) (x : Read) → Kept (length s) r → turn s r ≡ out x → ReadRows s x
unfolding turn
turn_rows s r x w e = go (ltb r.at (length s)) e
  where
    go : (b : Bool) → pick b (by_piece s r (piece_at s r.at (document_part r.count r.depth))) (out (at_end s r)) ≡ out x → ReadRows s x
    go true e = piece_out (ReadRows s) (λ n place. tt) s r x (piece_at s r.at (document_part r.count r.depth)) e
    go false e = subst (ReadRows s) (gone (at_end s r) x e) (end_rows s r w)

read_rows : (s : List ℕ) → ReadRows s (elements_of s)
unfolding elements_of read_from
read_rows s =
    pick_case (ReadRows s) (ltb document_limit (length s)) _ _ (λ _. tt)
    (λ _. pick_case (ReadRows s) (ltb (first_bad s) (length s)) _ _ (λ _. tt)
    (λ _. run_keeps (turn s) (refused Malformed (length s)) (left s) (turn_falls s) (Kept (length s)) (ReadRows s) (λ r t w e. (turn_sound s r t w.0 e, turn_order s r t w e)) (λ r x w e. turn_rows s r x w e) fresh (fresh_kept (length s))))

pub rows_read : (s : List ℕ) (n : ℕ) (rows : List ℕ) → elements_of s ≡ elements n rows → Rows s n rows
rows_read s n rows e = subst (ReadRows s) e (read_rows s)
