-- The notes of a document: of each element its role, its parent, its first byte and the byte after its end, in document order.
-- Assumes nothing.
use Rattle.std.specs.Prelude.{ℕ, zero, suc, ◌+◌, ◌*◌, ◌/◌, List, [], ◌++◌, leb, length, drop}
use Rattle.text_scan.specs.Choice.{pick}
use Rattle.xml_steps.specs.Reading.{element_row, parent_of, first_of, after_of}
use Rattle.judge_paths.specs.declared.DocumentType.{DocumentType}
use Rattle.judge_paths.specs.Paths.{role_of}

-- of the elements k, k + 1, .., m of them
unfoldable pub notes_from : List ℕ → List ℕ → DocumentType → ℕ → ℕ → List ℕ
notes_from s rows t k zero = []
notes_from s rows t k (suc m) =
    element_row (role_of s rows t k) (parent_of rows k) (first_of rows k) (after_of rows k) ++ notes_from s rows t (k + 1) m

-- of all elements, each of which has a row of four numbers
unfoldable pub notes_of : List ℕ → List ℕ → DocumentType → List ℕ
notes_of s rows t = notes_from s rows t 0 (length rows / 4)

-- in the front of a run that has room for them, with what stood behind
unfoldable pub noted : List ℕ → List ℕ → DocumentType → List ℕ → List ℕ
noted s rows t old =
    pick (leb (4 * (length rows / 4)) (length old)) (notes_of s rows t ++ drop (4 * (length rows / 4)) old) old
