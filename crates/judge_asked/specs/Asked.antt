-- The procedures that can be found at a role, in a row of the code's table. For the code's own functions: no contract of a check cites it.
-- Assumes nothing.
use Rattle.std.specs.Prelude.{ℕ, zero, suc, List, [], ◌∷◌}
use Rattle.judge_paths.specs.Roles.{Title, Br, Author, Component, StructuredBody, Time, ContactPerson, PersonName, StreetAddressLine, City, State, PostalCode, Country, Performance, ActDefinition}
use Rattle.judge_procedures.specs.Procedures.{asked_at}

-- the most procedures of one role that the code has room for
abbrev pub most : ℕ
most = 16

-- a list of procedures, with zeros behind them up to k
unfoldable pub padded : ℕ → List ℕ → List ℕ
padded zero ps = []
padded (suc k) [] = 0 ∷ padded k []
padded (suc k) (p ∷ ps) = p ∷ padded k ps

abbrev pub asked_row : ℕ → List ℕ
asked_row r = padded most (asked_at r)

-- roles without procedures of their own, whose elements list neither a code nor an extension
abbrev pub plain_roles : List ℕ
plain_roles =
    StreetAddressLine ∷ City ∷ State ∷ PostalCode ∷ Country ∷ ContactPerson ∷ PersonName ∷ Performance ∷ ActDefinition ∷ Title ∷ Br ∷ Author ∷ Component
    ∷ StructuredBody ∷ Time ∷ []
