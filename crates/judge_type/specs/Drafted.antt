-- The draft of a document and its element table.
-- Assumes nothing.
use Rattle.std.specs.Prelude.{ℕ, List}
use Rattle.judge_paths.specs.declared.DocumentType.{DocumentType}
use Rattle.judge_paths.specs.declared.DocumentType.TheVariants.{Neither}
use Rattle.judge_notes.specs.Notes.{notes_of}
use Rattle.judge_draft.specs.Drafts.{Draft, full_draft}
use Rattle.judge_header.specs.Header.{header_of, type_of}

-- as a draft of this type
unfoldable pub draft_as : DocumentType → List ℕ → List ℕ → Draft
draft_as t s rows = full_draft s (notes_of s rows t)

-- the type is told by the header, which is the same for all types: nothing outside author depends on the type
unfoldable pub type_in : List ℕ → List ℕ → DocumentType
type_in s rows = type_of (draft_as Neither s rows) (header_of (draft_as Neither s rows))

unfoldable pub draft_of : List ℕ → List ℕ → Draft
draft_of s rows = draft_as (type_in s rows) s rows
