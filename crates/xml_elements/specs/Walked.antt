-- What the contracts of the private functions speak of, and no definition of document 01.
-- Assumes nothing.
use Rattle.std.specs.Prelude.{ℕ, ◌*◌, List, take, Result, Ok, Err}
use Rattle.refusals.specs.declared.Reason.TheVariants.{Malformed}
use Rattle.refusals.specs.declared.Reason.{Reason}
use Rattle.refusals.specs.declared.Refusal.{Refusal}
use Rattle.refusals.specs.Numbers.{refuses}
use Rattle.xml_reader.specs.declared.Reader.{Reader}
use Rattle.xml_pieces.specs.declared.Scanned.{Scanned}
use Rattle.xml_pieces.specs.declared.Scanned.TheVariants.{Piece, Refused as Refusing}
use Rattle.xml_steps.specs.Reading.{Read, refused, elements}

unfoldable pub read_of : Result ℕ Refusal → List ℕ → Read
read_of (Ok n) numbers = elements n (take (4 * n) numbers)
read_of (Err p) numbers = refused p.reason p.value

-- the answer of a piece or a step that was refused; no other comes there
abbrev pub piece_refused : Scanned → ℕ → Result ℕ Refusal
piece_refused (Piece kind after) at = refuses Malformed at
piece_refused (Refusing n) at = refuses n at

abbrev pub stop_of : Result Reader Reason → ℕ → Result ℕ Refusal
stop_of (Ok d) at = refuses Malformed at
stop_of (Err n) at = refuses n at
