-- Byte strings as lists: all bytes of a class, two strings byte by byte, a text at a position, and where a run ends.
-- Assumes nothing.
use Rattle.std.specs.Prelude.{ℕ, ◌+◌, Bool, true, false, List, [], ◌∷◌, eqb, drop}
use Rattle.text_scan.specs.Choice.{pick, ◌or◌, ◌and◌}

-- each element has the property
unfoldable pub every : (ℕ → Bool) → List ℕ → Bool
every p [] = true
every p (x ∷ xs) = p x and every p xs

-- some element has the property
unfoldable pub some : (ℕ → Bool) → List ℕ → Bool
some p [] = false
some p (x ∷ xs) = p x or some p xs

-- as many elements on both sides, and each pair satisfies the test
unfoldable pub pairs : (ℕ → ℕ → Bool) → List ℕ → List ℕ → Bool
pairs f [] [] = true
pairs f [] (y ∷ ys) = false
pairs f (x ∷ xs) [] = false
pairs f (x ∷ xs) (y ∷ ys) = f x y and pairs f xs ys

-- the second list begins with the first
unfoldable pub begins : List ℕ → List ℕ → Bool
begins [] xs = true
begins (t ∷ ts) [] = false
begins (t ∷ ts) (x ∷ xs) = eqb x t and begins ts xs

-- the text t stands in s at position i
abbrev pub stands : List ℕ → List ℕ → ℕ → Bool
stands t s i = begins t (drop i s)

-- the position after the longest run of elements with the property, where the list starts at position i
unfoldable pub run_end : (ℕ → Bool) → ℕ → List ℕ → ℕ
run_end p i [] = i
run_end p i (x ∷ xs) = pick (p x) (run_end p (i + 1) xs) i

-- the same from position i of s on
abbrev pub run_from : (ℕ → Bool) → List ℕ → ℕ → ℕ
run_from p s i = run_end p i (drop i s)
