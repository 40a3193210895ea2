-- The elements that stand below an element, told of the notes of a draft: what the procedures count.
-- Assumes nothing.
use Rattle.std.specs.Prelude.{ℕ, zero, suc, ◌+◌, ◌/◌, Bool, List, [], ◌∷◌, eqb, length}
use Rattle.text_scan.specs.Choice.{pick, ◌and◌, not}
use Rattle.xml_steps.specs.Reading.{parent_of}

-- the parent's parent, and so on, so many levels up
unfoldable pub ancestor_in : List ℕ → ℕ → ℕ → ℕ
ancestor_in notes zero k = k
ancestor_in notes (suc levels) k = ancestor_in notes levels (parent_of notes k)

-- k stands so many levels below n. The root, whose parent is told as itself, does not stand below itself; of two levels or more, what stands fewer levels
-- below the root is taken too. Only the labeler is looked for so, and its role stands three levels below the root alone
abbrev pub stands_below : List ℕ → ℕ → ℕ → ℕ → Bool
stands_below notes levels n k = eqb (ancestor_in notes levels k) n and not (eqb k n)

-- of the numbers k, k + 1, .., m of them, those with a property
unfoldable pub those : (ℕ → Bool) → ℕ → ℕ → List ℕ
those p k zero = []
those p k (suc m) = pick (p k) (k ∷ those p (k + 1) m) (those p (k + 1) m)

-- of all elements, those that stand so many levels below n and have a property
unfoldable pub all_below : List ℕ → ℕ → (ℕ → Bool) → ℕ → List ℕ
all_below notes levels p n = those (λ k. stands_below notes levels n k and p k) 0 (length notes / 4)
