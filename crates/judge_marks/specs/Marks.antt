-- The mark of an element: the procedures that are broken there, as the binary digits of a number, of those that can be found at its role, the first
-- one's lowest. For the code's own functions: no contract of a check cites it.
-- Assumes nothing.
use Rattle.std.specs.Prelude.{ℕ, zero, suc, ◌+◌, ◌*◌, ◌/◌, ◌%◌, Bool, true, false, List, [], ◌∷◌, ◌++◌, ltb, eqb, length, take}
use Rattle.text_scan.specs.Choice.{pick}
use Rattle.list_findings.specs.declared.Finding.{Finding}
use Rattle.judge_draft.specs.Drafts.{Draft, draft, role}
use Rattle.judge_procedures.specs.Procedures.{asked_at}
use Rattle.judge_asked.specs.Asked.{asked_row}
use Rattle.judge_findings.specs.Listed.{finding}

abbrev pub bit : Bool → ℕ
bit true = 1
bit false = 0

-- a digit more, below the others; a number has room for 63
unfoldable pub pushed : ℕ → Bool → ℕ
pushed m b = pick (ltb m 4611686018427387904) (2 * m + bit b) 0

-- the digits of these procedures
unfoldable pub mark_by : (ℕ → ℕ → Bool) → ℕ → List ℕ → ℕ
mark_by b n [] = 0
mark_by b n (p ∷ ps) = pushed (mark_by b n ps) (b n p)

unfoldable pub mark_of : Draft → (ℕ → ℕ → Bool) → ℕ → ℕ
mark_of d b n = mark_by b n (asked_at (role d n))

-- of the elements n, n + 1, .., k of them
unfoldable pub marks_of : Draft → (ℕ → ℕ → Bool) → ℕ → ℕ → List ℕ
marks_of d b n zero = []
marks_of d b n (suc k) = mark_of d b n ∷ marks_of d b (n + 1) k

-- ---- read again
-- how many of the k lowest digits are 1
unfoldable pub ones : ℕ → ℕ → ℕ
ones zero m = 0
ones (suc k) m = m % 2 + ones k (m / 2)

-- the records of element n that the digits of these procedures tell of
unfoldable pub marked : Draft → ℕ → List ℕ → ℕ → List Finding
marked d n [] m = []
marked d n (p ∷ ps) m = pick (eqb (m % 2) 1) (finding d n p ∷ marked d n ps (m / 2)) (marked d n ps (m / 2))

unfoldable pub marked_at : Draft → ℕ → ℕ → List Finding
marked_at d n m = marked d n (asked_row (role d n)) m

-- of the elements n, n + 1, ..
unfoldable pub marked_from : Draft → ℕ → List ℕ → List Finding
marked_from d n [] = []
marked_from d n (m ∷ ms) = marked_at d n m ++ marked_from d (n + 1) ms

-- of all elements, whose marks stand in the front of a run
unfoldable pub marked_in : List ℕ → List ℕ → List ℕ → List Finding
marked_in s notes marks = marked_from (draft s notes) 0 (take (length notes / 4) marks)
