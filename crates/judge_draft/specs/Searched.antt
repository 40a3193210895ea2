-- The elements below an element as the code looks for them, and no definition of document 01: those that follow it, up to the first that
-- starts at or behind its end. In a table in document order these are all that stand there (`judge_type/proofs/Ordered`).
-- Assumes nothing.
use Rattle.std.specs.Prelude.{ℕ, zero, suc, ◌+◌, ◌-◌, ◌/◌, Bool, List, [], ◌∷◌, eqb, ltb, length}
use Rattle.text_scan.specs.Choice.{pick, ◌and◌}
use Rattle.xml_steps.specs.Reading.{first_of, after_of}
use Rattle.judge_draft.specs.Below.{ancestor_in}

-- of the elements k, k + 1, .., m of them
unfoldable pub within : List ℕ → ℕ → (ℕ → Bool) → ℕ → ℕ → ℕ → List ℕ
within notes levels p n k zero = []
within notes levels p n k (suc m) =
    pick (ltb (first_of notes k) (after_of notes n))
    (pick (eqb (ancestor_in notes levels k) n and p k) (k ∷ within notes levels p n (k + 1) m) (within notes levels p n (k + 1) m))
    []

-- of all elements from k on
unfoldable pub searched_from : List ℕ → ℕ → (ℕ → Bool) → ℕ → ℕ → List ℕ
searched_from notes levels p n k = within notes levels p n k (length notes / 4 - k)

-- those below n
unfoldable pub searched : List ℕ → ℕ → (ℕ → Bool) → ℕ → List ℕ
searched notes levels p n = searched_from notes levels p n (n + 1)
