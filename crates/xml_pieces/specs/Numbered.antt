-- The answer for the piece at a place in document 01's numbers.
-- Assumes nothing.
use Rattle.std.specs.Prelude.{ℕ, [], ◌∷◌}
use Rattle.refusals.specs.Numbers.{number_of}
use Rattle.text_scan.specs.Numbered.{Numbered, numbered}
use Rattle.xml_pieces.specs.declared.Scanned.{Scanned}
use Rattle.xml_pieces.specs.declared.Scanned.TheVariants.{Piece, Refused}

-- the place after it; or 6, 7 or 8 with the place of the piece
abbrev pub numbered_piece : ℕ → Scanned → Numbered
numbered_piece at (Piece kind after) = numbered 0 (after ∷ [])
numbered_piece at (Refused reason) = numbered (number_of reason) (at ∷ [])
