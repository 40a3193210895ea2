-- The pieces of a content that end inside a range of the document are the same in both, and so is what they say.
-- Assumes nothing.
use Rattle.std.specs.Prelude.{Option, None, Some, ℕ, Result, Ok, Err}
use Rattle.refusals.specs.declared.Reason.TheVariants.{Unsupported, Malformed}
use Rattle.refusals.specs.declared.Reason.{Reason}
use mathlib.Core.Path.{◌≡◌, refl, ◌∙◌, ap, subst}
use mathlib.Core.Bool.{Bool, true, false}
use mathlib.Core.List.{List}
use Prim.Native.Nat.{ℕ, ◌+◌, ◌-◌, ◌<◌, ◌≤◌}
use Prim.Native.Char.{code}
use native.Mathlib.Omega.{arith}
use borrow.Author.Tests.{ne_eqb}
use lib.Dec.{eqb}
use lib.ListN.{length, get_or}
use Rattle.text_scan.specs.Choice.{pick, ◌or◌}
use Rattle.text_scan.specs.Bytes.{text}
use Rattle.text_scan.specs.Lists.{stands}
use Rattle.text_scan.proofs.Tests.{pick_case}
use Rattle.xml_references.specs.Runs.{text_end}
use Rattle.xml_references.proofs.Bounds.{text_ahead}
use Rattle.xml_markup.specs.Comments.{comment_end}
use Rattle.xml_markup.specs.Instructions.{instruction_end}
use Rattle.xml_attributes.specs.declared.Tag.{Tag}
use Rattle.xml_attributes.specs.declared.Tag.TheVariants.{Start as Opens, Empty as Stands}
use Rattle.xml_tags.specs.Tags.{tag_at}
use Rattle.xml_tags.specs.EndTags.{end_tag_end}
use Rattle.xml_pieces.specs.declared.Kind.TheVariants.{Text, Comment, Instruction, Declaration, Start, Empty, End}
use Rattle.xml_pieces.specs.declared.DocumentPart.TheVariants.{Inside}
use Rattle.xml_pieces.specs.declared.Scanned.{Scanned}
use Rattle.xml_pieces.specs.declared.Scanned.TheVariants.{Piece, Refused}
use Rattle.xml_pieces.specs.Pieces.{found, text_piece_at, bang_at, instructed, question_at, end_at, tagged, start_at, markup_at, piece_at}
use Rattle.xml_pieces.proofs.Within.{Behind, end_tag_behind}
use Rattle.xml_texts.specs.declared.Content.TheVariants.{Said, Dropped, Ended, Other}
use Rattle.xml_texts.specs.Texts.{content_of, content_at}
use Rattle.xml_agreement.proofs.Range.{range, byte, text_same, text_none}
use Rattle.xml_markup.proofs.Comments.{comment_none}
use Rattle.xml_agreement.proofs.Values.{no_place}
use Rattle.xml_agreement.proofs.Walks.{text_end_same, comment_long, comment_same}
use Rattle.xml_agreement.proofs.Pieces.{instruction_long, instruction_same, end_tag_same}

module _ (s : List ℕ) (d n : ℕ) (fits : d + n ≤ length s) where
  abbrev r : List ℕ
  r = range s d n fits

  module _ (i : ℕ) (some : 0 < i) (h : i < n) where
    abbrev pub Moved : Scanned → Type 0
    Moved (Piece Text m) = m ≤ d + n → content_at r i ≡ Said (m - d)
    Moved (Piece Comment m) = m ≤ d + n → content_at r i ≡ Dropped (m - d)
    Moved (Piece Instruction m) = m ≤ d + n → content_at r i ≡ Dropped (m - d)
    Moved (Piece Declaration m) = ⊥
    Moved (Piece Start m) = content_at r i ≡ Other
    Moved (Piece Empty m) = content_at r i ≡ Other
    Moved (Piece End m) = m ≤ d + n → content_at r i ≡ Ended
    Moved (Refused k) = Unit {0}

    here : get_or r i 0 ≡ get_or s (d + i) 0
    here = byte s d n fits i h

    back : (m : ℕ) → d + i ≤ m → m ≡ d + (m - d)
    back m l = omega arith

    text_moved : eqb (get_or s (d + i) 0) (code "<") ≡ false → (x : Option ℕ) → text_end s (d + i) ≡ x → Moved (found Text x)
    unfolding content_at piece_at text_piece_at
    text_moved b (Some m) q = λ l.
        let k : m ≡ d + (m - d) = back m (text_ahead s (d + i) (omega arith) m q) in
        rw (here, b, text_end_same s d n fits (m - d) (omega arith) i (omega arith) (q ∙ ap Some k))
    text_moved b None q = tt

    module _ (b : eqb (get_or s (d + i) 0) (code "<") ≡ true) where
      comment_moved : stands (text "<!") s (d + i) ≡ true → (x : Option ℕ) → comment_end s (d + i) ≡ x → Moved (found Comment x)
      unfolding content_at piece_at markup_at bang_at
      comment_moved a (Some m) q = λ l.
          let f : d + i + 3 ≤ m = comment_long s (d + i) m q in
          let k : m ≡ d + (m - d) = back m (omega arith) in
          let e : comment_end r i ≡ Some (m - d) = comment_same s d n fits (m - d) (omega arith) i (q ∙ ap Some k) in
          let z : stands (text "<!") r i ≡ true = text_same s d n fits (text "<!") i (omega arith) ∙ a in
          rw (here, b, z) (go (stands (text "<!--") r i) refl e)
        where
          go : (t : Bool) → stands (text "<!--") r i ≡ t → comment_end r i ≡ Some (m - d) → content_of (pick t (found Comment (comment_end r i)) (pick (stands (text "<!DOCTYPE") r i or stands (text "<![CDATA[") r i) (Refused Unsupported) (Refused Malformed))) ≡ Dropped (m - d)
          go true y e = rw e
          go false y e = no_place (m - d) (comment_none r i y ∙ e)
      comment_moved a None q = tt

      module _ (a : stands (text "<!") s (d + i) ≡ false) where
        bang_none : stands (text "<!") r i ≡ false
        bang_none = text_none s d n fits (text "<!") i a

        instruction_moved : stands (text "<?") s (d + i) ≡ true → (x : Result ℕ Reason) → instruction_end s (d + i) ≡ x → Moved (instructed x)
        unfolding content_at piece_at markup_at question_at
        instruction_moved c (Ok m) q = λ l.
            let f : d + i + 2 ≤ m = instruction_long s (d + i) m q in
            let k : m ≡ d + (m - d) = back m (omega arith) in
            let e : instruction_end r i ≡ Ok (m - d) = instruction_same s d n fits i (m - d) (omega arith) (q ∙ ap Ok k) in
            let z : stands (text "<?") r i ≡ true = text_same s d n fits (text "<?") i (omega arith) ∙ c in
            rw (here, b, bang_none, z, ne_eqb i 0 (λ y. omega arith), e)
        instruction_moved c (Err m) q = tt

        question_moved : stands (text "<?") s (d + i) ≡ true → Moved (question_at s (d + i))
        unfolding question_at
        question_moved c = rw (ne_eqb (d + i) 0 (λ y. omega arith)) (instruction_moved c (instruction_end s (d + i)) refl)

        module _ (c : stands (text "<?") s (d + i) ≡ false) where
          question_none : stands (text "<?") r i ≡ false
          question_none = text_none s d n fits (text "<?") i c

          end_moved : stands (text "</") s (d + i) ≡ true → (x : Option ℕ) → end_tag_end s (d + i) ≡ x → Moved (found End x)
          unfolding content_at piece_at markup_at end_at
          end_moved o (Some m) q = λ l.
              let f : d + i + 2 ≤ m = subst (Behind (d + i)) q (end_tag_behind s (d + i)) in
              let k : m ≡ d + (m - d) = back m (omega arith) in
              let e : end_tag_end r i ≡ Some (m - d) = end_tag_same s d n fits i (m - d) (omega arith) (q ∙ ap Some k) in
              let z : stands (text "</") r i ≡ true = text_same s d n fits (text "</") i (omega arith) ∙ o in
              rw (here, b, bang_none, question_none, z, e)
          end_moved o None q = tt

          child_moved : stands (text "</") s (d + i) ≡ false → content_at r i ≡ Other
          unfolding content_at piece_at markup_at start_at
          child_moved o = rw (here, b, bang_none, question_none, text_none s d n fits (text "</") i o) (go (tag_at r i))
            where
              go : (t : Result Tag Reason) → content_of (tagged t) ≡ Other
              go (Ok (Opens m)) = refl
              go (Ok (Stands m)) = refl
              go (Err k) = refl

          tag_moved : stands (text "</") s (d + i) ≡ false → (t : Result Tag Reason) → Moved (tagged t)
          tag_moved o (Ok (Opens m)) = child_moved o
          tag_moved o (Ok (Stands m)) = child_moved o
          tag_moved o (Err k) = tt

    pub piece_moved : Moved (piece_at s (d + i) Inside)
    unfolding piece_at markup_at bang_at end_at start_at text_piece_at
    piece_moved =
        pick_case Moved (eqb (get_or s (d + i) 0) (code "<")) _ _
        (λ b. pick_case Moved (stands (text "<!") s (d + i)) _ _
        (λ a. pick_case Moved (stands (text "<!--") s (d + i)) _ _ (λ _. comment_moved b a (comment_end s (d + i)) refl)
        (λ _. pick_case Moved (stands (text "<!DOCTYPE") s (d + i) or stands (text "<![CDATA[") s (d + i)) _ _ (λ _. tt) (λ _. tt)))
        (λ a. pick_case Moved (stands (text "<?") s (d + i)) _ _ (λ c. question_moved b a c)
        (λ c. pick_case Moved (stands (text "</") s (d + i)) _ _ (λ o. end_moved b a c o (end_tag_end s (d + i)) refl) (λ o. tag_moved b a c o (tag_at s (d + i))))))
        (λ b. text_moved b (text_end s (d + i)) refl)
