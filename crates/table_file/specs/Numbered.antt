-- What is answered of a tables file, in document 01's numbers.
-- Assumes nothing.
use Rattle.std.specs.Prelude.{Result, Ok, Err, [], ◌∷◌}
use Rattle.text_scan.specs.Numbered.{Numbered, numbered}
use Rattle.table_file.specs.declared.Sections.{Sections}
use Rattle.table_file.specs.declared.BadLine.{BadLine}

-- of each section where its rows start and how many there are; or 4 with the place
abbrev pub numbered_file : Result Sections BadLine → Numbered
numbered_file (Ok t) =
    numbered 0 (t.codes.first ∷ t.codes.count ∷ t.names.first ∷ t.names.count ∷ t.history.first ∷ t.history.count ∷ [])
numbered_file (Err e) = numbered 4 (e.place ∷ [])
