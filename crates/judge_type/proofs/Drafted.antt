-- The draft of a document is its notes, as they stand in the front of a room; and its type.
-- Assumes nothing.
use mathlib.Core.Path.{◌≡◌, refl, ◌∙◌, ap}
use mathlib.Core.List.{List}
use Prim.Native.Nat.{ℕ, zero, suc, ◌-◌, ◌*◌, ◌/◌, ◌<◌, ◌≤◌}
use native.Mathlib.Omega.{arith}
use lib.ListN.{length, take, get_or-eq_default}
use Rattle.xml_steps.specs.Reading.{parent_of}
use Rattle.xml_nesting.specs.Nested.{Nested}
use Rattle.judge_paths.specs.declared.DocumentType.{DocumentType}
use Rattle.judge_paths.specs.declared.DocumentType.TheVariants.{Neither}
use Rattle.judge_notes.specs.Notes.{notes_of, noted}
use Rattle.judge_notes.proofs.Noted.{notes_length, note_parent, note_first, note_after, noted_front}
use Rattle.judge_draft.specs.Drafts.{draft}
use Rattle.judge_header.specs.declared.Header.{Header}
use Rattle.judge_header.specs.Header.{header_of, type_of}
use Rattle.judge_type.specs.Drafted.{draft_as, type_in}
use Rattle.judge_type.proofs.Ordered.{draft_full}

module _ (s rows : List ℕ) (t : DocumentType) (o : Nested rows (length rows / 4)) where
  -- the notes are in document order as the rows are
  its_root : (n : ℕ) → length rows / 4 ≡ n → parent_of (notes_of s rows t) 0 ≡ 0
  its_root zero e = get_or-eq_default (notes_of s rows t) 0 (omega (arith, e, notes_length s rows t))
  its_root (suc n) e = note_parent s rows t 0 (omega (arith, e)) ∙ o.root

  in_order : Nested (notes_of s rows t) (length rows / 4)
  in_order = record {
    room = omega (arith, notes_length s rows t);
    root = its_root (length rows / 4) refl;
    earlier = λ k g h. rw (note_parent s rows t k h) (o.earlier k g h);
    rises = λ j k g h.
        let i : j < length rows / 4 = omega arith in
        rw (note_first s rows t j i, note_first s rows t k h) (o.rises j k g h);
    ends = λ k h. rw (note_first s rows t k h, note_after s rows t k h) (o.ends k h);
    nested = λ k g h.
        let i : parent_of rows k < length rows / 4 = omega (arith, o.earlier k g h) in
        rw (note_parent s rows t k h, note_after s rows t k h, note_after s rows t (parent_of rows k) i) (o.nested k g h);
  }

  module _ (old : List ℕ) (room : 4 * (length rows / 4) ≤ length old) (notes : List ℕ) (e : notes ≡ noted s rows t old) where
    pub draft_is : draft s (take (4 * (length rows / 4) - 0) notes) ≡ draft_as t s rows
    unfolding draft_as
    draft_is =
        let i : 4 * (length rows / 4) - 0 ≡ 4 * (length rows / 4) = omega arith in
        rw i (ap (draft s) (ap (take (4 * (length rows / 4))) e ∙ noted_front s rows t old old room))
        ∙ draft_full (notes_of s rows t) (length rows / 4) in_order (notes_length s rows t) s

-- its type
pub type_is : (s rows : List ℕ) → Nested rows (length rows / 4) → (old : List ℕ) → 4 * (length rows / 4) ≤ length old → (notes : List ℕ) → notes ≡ noted s rows Neither old → (h : Header) → h ≡ header_of (draft s (take (4 * (length rows / 4) - 0) notes)) → (r : DocumentType) → r ≡ type_of (draft s (take (4 * (length rows / 4) - 0) notes)) h → r ≡ type_in s rows
unfolding type_in
type_is s rows o old room notes e h f r g =
    let i = draft_is s rows Neither o old room notes e in
    g ∙ rw (f, i)
