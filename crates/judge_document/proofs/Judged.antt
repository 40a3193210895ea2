-- The findings of a document that was read: its draft with its notes and type.
-- Assumes nothing.
use Rattle.std.specs.Prelude.{Result}
use Rattle.refusals.specs.declared.Refusal.{Refusal}
use mathlib.Core.Path.{◌≡◌, refl, ◌∙◌, ap, subst}
use mathlib.Core.List.{List}
use Prim.Native.Nat.{ℕ, ◌-◌, ◌*◌, ◌/◌, ◌≤◌}
use lib.ListN.{length, take}
use Rattle.xml_nesting.specs.Nested.{Nested}
use Rattle.table_file.specs.Accepted.{Tables}
use Rattle.judge_input.specs.declared.Sections.{Sections}
use Rattle.judge_input.specs.Input.{section_tables}
use Rattle.judge_paths.specs.declared.DocumentType.{DocumentType}
use Rattle.judge_notes.specs.Notes.{noted}
use Rattle.judge_draft.specs.Drafts.{draft}
use Rattle.judge_answers.specs.declared.Places.{Places}
use Rattle.judge_answers.specs.Answers.{tables_at}
use Rattle.judge_findings.specs.Listed.{findings_of}
use Rattle.judge_findings.specs.Room.{FindingsLeft}
use Rattle.judge_type.specs.Drafted.{draft_as, type_in, draft_of}
use Rattle.judge_type.proofs.Drafted.{draft_is}
use Rattle.judge_document.specs.Typed.{places_for}

-- ---- by its notes
pub typed_left : (s rows : List ℕ) → Nested rows (length rows / 4) → (t : DocumentType) (old : List ℕ) → 4 * (length rows / 4) ≤ length old → (notes : List ℕ) → notes ≡ noted s rows t old → (u : Tables) (list : List ℕ) (r : Result ℕ Refusal) (after : List ℕ) → FindingsLeft (findings_of (draft s (take (4 * (length rows / 4) - 0) notes)) u) list r after → FindingsLeft (findings_of (draft_as t s rows) u) list r after
typed_left s rows o t old room notes e u list r after f = subst (λ d. FindingsLeft (findings_of d u) list r after) (draft_is s rows t o old room notes e) f

-- ---- by its type, which changes no row
same_tables : (s : List ℕ) (x : Sections) (t : DocumentType) → tables_at s (places_for x t) ≡ section_tables s x
unfolding places_for
same_tables s x t = refl

module _ (s rows : List ℕ) (t : DocumentType) (e : t ≡ type_in s rows) (u : List ℕ) (x : Sections) (q : Places) (f : q ≡ places_for x t) (list : List ℕ) where
  its_draft : draft_as q.kind s rows ≡ draft_of s rows
  unfolding draft_of places_for
  its_draft = rw (f, e)

  its_tables : tables_at u q ≡ section_tables u x
  its_tables = ap (tables_at u) f ∙ same_tables u x t

  pub judged_left : (r : Result ℕ Refusal) (after : List ℕ) → FindingsLeft (findings_of (draft_as q.kind s rows) (tables_at u q)) list r after → FindingsLeft (findings_of (draft_of s rows) (section_tables u x)) list r after
  judged_left r after g = rw (← its_draft, ← its_tables) g
