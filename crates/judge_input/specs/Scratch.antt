-- The scratch area after an unrefused check (document 01, "Reading the document").
-- Assumes nothing.
use Rattle.std.specs.Prelude.{ℕ, zero, suc, List, [], ◌∷◌, ◌++◌, drop}
use Rattle.xml_reader.specs.Limits.{scratch_limit}

unfoldable pub zeros : ℕ → List ℕ
zeros zero = []
zeros (suc m) = 0 ∷ zeros m

-- the first 4,096 bytes are zero, the others unchanged
unfoldable pub cleared : List ℕ → List ℕ
cleared scratch = zeros scratch_limit ++ drop scratch_limit scratch
