-- The elements of a document that is read are whole: piece by piece, to the end.
-- Assumes nothing.
use Rattle.std.specs.Prelude.{Option, None, Some, ℕ, Result, Ok, Err}
use Rattle.refusals.specs.declared.Reason.TheVariants.{Malformed, PastLimit}
use Rattle.refusals.specs.declared.Reason.{Reason}
use mathlib.Core.Path.{◌≡◌, refl, sym, ◌∙◌, ap, subst}
use mathlib.Core.Bool.{Bool, true, false}
use mathlib.Core.List.{List}
use Prim.Native.Nat.{ℕ, zero, suc, ◌+◌, ◌-◌, ◌<◌, ◌≤◌}
use native.Mathlib.Omega.{arith}
use borrow.Author.Tests.{ltb-true, ltb-false, eqb-true}
use lib.Dec.{eqb, ltb}
use lib.ListN.{length, get_or}
use Rattle.text_scan.specs.Choice.{pick, ◌or◌, ◌and◌}
use Rattle.text_scan.specs.Bytes.{text}
use Rattle.text_scan.specs.Lists.{stands}
use Rattle.text_scan.specs.Turns.{on, out}
use Rattle.text_scan.proofs.Tests.{pick_case, and_left}
use Rattle.text_scan.proofs.Turns.{run_keeps}
use Rattle.text_chars.specs.Utf8.{first_bad}
use Rattle.xml_reader.specs.Limits.{document_limit}
use Rattle.xml_names.specs.Names.{space_end}
use Rattle.xml_references.specs.Runs.{text_end}
use Rattle.xml_markup.specs.Comments.{comment_end}
use Rattle.xml_markup.specs.Instructions.{instruction_end}
use Rattle.xml_declaration.specs.Declaration.{is_declaration, declaration_end}
use Rattle.xml_attributes.specs.declared.Tag.{Tag}
use Rattle.xml_attributes.specs.declared.Tag.TheVariants.{Start as Opens, Empty as Stands}
use Rattle.xml_tags.specs.Tags.{tag_at}
use Rattle.xml_tags.specs.EndTags.{end_tag_end}
use Rattle.xml_pieces.specs.declared.Kind.{Kind}
use Rattle.xml_pieces.specs.declared.Kind.TheVariants.{Text, Comment, Instruction, Declaration, Start, Empty, End}
use Rattle.xml_pieces.specs.declared.DocumentPart.{DocumentPart}
use Rattle.xml_pieces.specs.declared.DocumentPart.TheVariants.{Before, Inside, After}
use Rattle.xml_pieces.specs.declared.Scanned.{Scanned}
use Rattle.xml_pieces.specs.declared.Scanned.TheVariants.{Piece, Refused}
use Rattle.xml_pieces.specs.Pieces.{found, only_space, text_piece_at, bang_at, instructed, question_at, end_at, tagged, start_at, markup_at, piece_at}
use Rattle.xml_pieces.proofs.Within.{Within, piece_within, end_inside}
use Rattle.xml_steps.specs.Reading.{Reading, Read, refused, elements, fresh, first_of, after_of, passed, added, closed, has_element_room, is_named, content_fits, adding, closing, document_part, by_piece}
use Rattle.xml_steps.specs.Walked.{Sound}
use Rattle.xml_steps.proofs.Keeps.{chosen, went, never_on, gone, closing_on, piece_out}
use Rattle.xml_elements.specs.Elements.{at_end, turn, left, read_from, elements_of}
use Rattle.xml_elements.proofs.Walks.{turn_falls, fresh_sound, part_deep, refused_never, turn_sound}
use Rattle.xml_nesting.proofs.InOrder.{InOrder, fresh_order}
use Rattle.xml_nesting.proofs.Read.{turn_order}
use Rattle.xml_agreement.proofs.Contents.{Moved}
use Rattle.xml_agreement.proofs.Reach.{in_range, reach_text, reach_comment, reach_instruction, ends_at, parent_start, parent_empty}
use Rattle.xml_agreement.proofs.Whole.{Whole, State, fresh_state, passed_state, empty_state, start_state, closed_state}

-- ---- a piece that is a tag, by the tag
module _ (s : List ℕ) (i : ℕ) where
  abbrev TagAt : Scanned → Type 0
  TagAt (Piece Text j) = Unit {0}
  TagAt (Piece Comment j) = Unit {0}
  TagAt (Piece Instruction j) = Unit {0}
  TagAt (Piece Declaration j) = Unit {0}
  TagAt (Piece Start j) = tag_at s i ≡ Ok (Opens j)
  TagAt (Piece Empty j) = tag_at s i ≡ Ok (Stands j)
  TagAt (Piece End j) = end_tag_end s i ≡ Some j
  TagAt (Refused n) = Unit {0}

  text_no_tag : (x : Option ℕ) → TagAt (found Text x)
  text_no_tag (Some j) = tt
  text_no_tag None = tt

  comment_no_tag : (x : Option ℕ) → TagAt (found Comment x)
  comment_no_tag (Some j) = tt
  comment_no_tag None = tt

  declaration_no_tag : (x : Option ℕ) → TagAt (found Declaration x)
  declaration_no_tag (Some j) = tt
  declaration_no_tag None = tt

  is_end_tag : (x : Option ℕ) → end_tag_end s i ≡ x → TagAt (found End x)
  is_end_tag (Some j) e = e
  is_end_tag None e = tt

  instruction_no_tag : (x : Result ℕ Reason) → TagAt (instructed x)
  instruction_no_tag (Ok j) = tt
  instruction_no_tag (Err n) = tt

  space_no_tag : (j : ℕ) → TagAt (only_space s j)
  space_no_tag j = pick_case TagAt (eqb j (length s) or eqb (get_or s j 0) 60) _ _ (λ _. tt) (λ _. tt)

  bang_no_tag : TagAt (bang_at s i)
  unfolding bang_at
  bang_no_tag =
      pick_case TagAt (stands (text "<!--") s i) _ _ (λ _. comment_no_tag (comment_end s i))
      (λ _. pick_case TagAt (stands (text "<!DOCTYPE") s i or stands (text "<![CDATA[") s i) _ _ (λ _. tt) (λ _. tt))

  question_no_tag : TagAt (question_at s i)
  unfolding question_at
  question_no_tag =
      pick_case TagAt (eqb i 0 and is_declaration s) _ _ (λ _. declaration_no_tag (declaration_end s)) (λ _. instruction_no_tag (instruction_end s i))

  is_tag_lem : (t : Result Tag Reason) → tag_at s i ≡ t → TagAt (tagged t)
  is_tag_lem (Ok (Opens j)) e = e
  is_tag_lem (Ok (Stands j)) e = e
  is_tag_lem (Err n) e = tt

  text_piece : (p : DocumentPart) → TagAt (text_piece_at s i p)
  unfolding text_piece_at
  text_piece Before = space_no_tag (space_end s i)
  text_piece Inside = text_no_tag (text_end s i)
  text_piece After = space_no_tag (space_end s i)

  end_piece : (p : DocumentPart) → TagAt (end_at s i p)
  unfolding end_at
  end_piece Before = tt
  end_piece Inside = is_end_tag (end_tag_end s i) refl
  end_piece After = tt

  start_piece : (p : DocumentPart) → TagAt (start_at s i p)
  unfolding start_at
  start_piece Before = is_tag_lem (tag_at s i) refl
  start_piece Inside = is_tag_lem (tag_at s i) refl
  start_piece After = tt

  piece_tag : (p : DocumentPart) → TagAt (piece_at s i p)
  unfolding piece_at markup_at
  piece_tag p =
      pick_case TagAt (eqb (get_or s i 0) 60) _ _
      (λ _. pick_case TagAt (stands (text "<!") s i) _ _ (λ _. bang_no_tag)
      (λ _. pick_case TagAt (stands (text "<?") s i) _ _ (λ _. question_no_tag)
      (λ _. pick_case TagAt (stands (text "</") s i) _ _ (λ _. end_piece p) (λ _. start_piece p))))
      (λ _. text_piece p)

-- ---- one piece
part_inside : (count depth : ℕ) → 0 < depth → document_part count depth ≡ Inside
part_inside count zero h = absurd (omega arith)
part_inside count (suc depth) h = refl

abbrev Kept : List ℕ → Reading → Type 0
Kept s r = Sound (length s) r × InOrder r × State s r

module _ (s : List ℕ) (r t : Reading) (w : Kept s r) (h : r.at < length s) (j : ℕ) (lt : r.at < j) where
  closing_parts : closing s r j ≡ on t → (is_named s r ≡ true) × (content_fits r ≡ true)
  unfolding closing
  closing_parts e = go (is_named s r) refl (content_fits r) refl e
    where
      go : (a : Bool) → is_named s r ≡ a → (b : Bool) → content_fits r ≡ b → pick a (pick b (on (closed r j)) (out (refused PastLimit r.at))) (out (refused Malformed r.at)) ≡ on t → (is_named s r ≡ true) × (content_fits r ≡ true)
      go true x true y e = (x, y)
      go true x false y e = never_on (refused PastLimit r.at) t e
      go false x b y e = never_on (refused Malformed r.at) t e

  -- an XML declaration stands at byte 0 only, where no element is open
  no_declaration : {A : Type 0} → 0 < r.depth → piece_at s r.at Inside ≡ Piece Declaration j → j ≤ length s → A
  no_declaration deep q k =
      let some : 0 < r.at = omega (arith, w.0.counted, w.0.shallow) in
      absurd (subst (Moved s (r.at - 1) (length s - (r.at - 1)) (omega arith) (r.at - (r.at - 1)) (omega arith) (omega arith)) q
      (in_range s r.at j h lt (r.at - 1) (length s - (r.at - 1)) (omega arith) (omega arith) (omega arith)))

  module _ (k : Kind) (ex : piece_at s r.at (document_part r.count r.depth) ≡ Piece k j) (low : j ≤ length s) where
    inner : 0 < r.depth → piece_at s r.at Inside ≡ Piece k j
    inner deep = ap (piece_at s r.at) (sym (part_inside r.count r.depth deep)) ∙ ex

  piece_state : (k : Kind) → piece_at s r.at (document_part r.count r.depth) ≡ Piece k j → j ≤ length s → TagAt s r.at (Piece k j) → (k ≡ End → 0 < r.depth) → by_piece s r (Piece k j) ≡ on t → State s t
  unfolding by_piece adding
  piece_state Text x low f deep e =
      subst (State s) (went (passed r j) t e) (passed_state s r j w.0 lt w.2 (λ o. reach_text s r.at j h lt (inner Text x low o)))
  piece_state Comment x low f deep e =
      subst (State s) (went (passed r j) t e) (passed_state s r j w.0 lt w.2 (λ o. reach_comment s r.at j h lt (inner Comment x low o)))
  piece_state Instruction x low f deep e =
      subst (State s) (went (passed r j) t e) (passed_state s r j w.0 lt w.2 (λ o. reach_instruction s r.at j h lt (inner Instruction x low o)))
  piece_state Declaration x low f deep e =
      subst (State s) (went (passed r j) t e) (passed_state s r j w.0 lt w.2 (λ o. no_declaration o (inner Declaration x low o) low))
  piece_state Start x low f deep e =
      subst (State s) (chosen (has_element_room r) (added r j (r.depth + 1) r.count) t (refused PastLimit r.at) e).1
      (start_state s r j w.0 lt w.2 (λ o a y. parent_start s a r.at j h lt y (inner Start x low o)) f)
  piece_state Empty x low f deep e =
      subst (State s) (chosen (has_element_room r) (added r j r.depth r.top) t (refused PastLimit r.at) e).1
      (empty_state s r j w.0 lt w.2 (λ o a y. parent_empty s a r.at j h lt y (inner Empty x low o)) f)
  piece_state End x low f deep e =
      subst (State s) (closing_on s r t j e) (closed_state s r j w.0 lt w.2 w.1 (deep refl) (ends_at s r.at j h lt (inner End x low (deep refl)) f) (closing_parts e).0 (closing_parts e).1)

end_deep : (s : List ℕ) (i j count depth : ℕ) (k : Kind) → piece_at s i (document_part count depth) ≡ Piece k j → k ≡ End → 0 < depth
end_deep s i j count depth k e q =
    part_deep count depth (end_inside s i j (document_part count depth) (e ∙ ap (λ (y : Kind). Piece y j) q)).0

turn_state : (s : List ℕ) (r t : Reading) → Kept s r → turn s r ≡ on t → State s t
unfolding turn
turn_state s r t w e = go (ltb r.at (length s)) refl (piece_at s r.at (document_part r.count r.depth)) refl e
  where
    go : (b : Bool) → ltb r.at (length s) ≡ b → (x : Scanned) → piece_at s r.at (document_part r.count r.depth) ≡ x → pick b (by_piece s r x) (out (at_end s r)) ≡ on t → State s t
    go true q (Piece k j) ex e =
        let h : r.at < length s = ltb-true r.at (length s) q in
        let n : Within r.at (length s) (Piece k j) = subst (Within r.at (length s)) ex (piece_within s r.at (document_part r.count r.depth) h) in
        piece_state s r t w h j n.0 k ex n.1 (subst (TagAt s r.at) ex (piece_tag s r.at (document_part r.count r.depth))) (end_deep s r.at j r.count r.depth k ex) e
    go true q (Refused n) ex e = refused_never s r t n e
    go false q x ex e = never_on (at_end s r) t e

-- ---- all pieces
abbrev ReadWhole : List ℕ → Read → Type 0
ReadWhole s (refused n place) = Unit {0}
ReadWhole s (elements n rows) = ((k : ℕ) → k < n → Whole s (first_of rows k) (after_of rows k)) × (length s ≤ first_bad s)

module _ (s : List ℕ) (sound : length s ≤ first_bad s) where
  end_whole : (r : Reading) → Kept s r → ReadWhole s (at_end s r)
  end_whole r w =
      pick_case (ReadWhole s) (eqb r.depth 0 and ltb 0 r.count) _ _
      (λ e.
      let z : r.depth ≡ 0 = eqb-true r.depth 0 (and_left (eqb r.depth 0) (ltb 0 r.count) e) in
      ((λ k h. w.2.done k h (rw z)), sound))
      (λ _. tt)

  turn_whole : (r : Reading) (x : Read) → Kept s r → turn s r ≡ out x → ReadWhole s x
  unfolding turn
  turn_whole r x w e = go (ltb r.at (length s)) e
    where
      go : (b : Bool) → pick b (by_piece s r (piece_at s r.at (document_part r.count r.depth))) (out (at_end s r)) ≡ out x → ReadWhole s x
      go true e = piece_out (ReadWhole s) (λ n place. tt) s r x (piece_at s r.at (document_part r.count r.depth)) e
      go false e = subst (ReadWhole s) (gone (at_end s r) x e) (end_whole r w)

  from_fresh : ReadWhole s (read_from s fresh)
  unfolding read_from
  from_fresh =
      run_keeps (turn s) (refused Malformed (length s)) (left s) (turn_falls s) (Kept s) (ReadWhole s)
      (λ r t w e. (turn_sound s r t w.0 e, turn_order s r t (w.0, w.1) e, turn_state s r t w e)) turn_whole fresh (fresh_sound (length s), fresh_order, fresh_state s)

all_whole : (s : List ℕ) → ReadWhole s (elements_of s)
unfolding elements_of
all_whole s =
    pick_case (ReadWhole s) (ltb document_limit (length s)) _ _ (λ _. tt)
    (λ _. pick_case (ReadWhole s) (ltb (first_bad s) (length s)) _ _ (λ _. tt)
    (λ e. from_fresh s (ltb-false (first_bad s) (length s) e)))

module _ (s : List ℕ) (n : ℕ) (rows : List ℕ) (read : elements_of s ≡ elements n rows) where
  pub whole_read : (k : ℕ) → k < n → Whole s (first_of rows k) (after_of rows k)
  whole_read = (subst (ReadWhole s) read (all_whole s)).0

  pub sound_read : length s ≤ first_bad s
  sound_read = (subst (ReadWhole s) read (all_whole s)).1
