-- Findings (document 01, "The procedures", its last paragraph): the record, the order, a list of records as a run of numbers; and
-- the class of a procedure ("Merging"). A record's width and the last procedure are named here and in the code's constants.
-- Assumes nothing.
use Rattle.std.specs.Prelude.{ℕ, ◌+◌, Bool, false, List, [], ◌∷◌, ◌++◌, ltb, eqb, length, take, drop, get_or, set}
use Rattle.text_scan.specs.Choice.{pick, ◌or◌, ◌and◌, between}
use Rattle.list_findings.specs.declared.Finding.{Finding}
use Rattle.list_findings.specs.declared.Class.{Class}
use Rattle.list_findings.specs.declared.Class.TheVariants.{DocumentOnly, Both, Either}

-- the numbers of a record, and the last procedure
abbrev pub width : ℕ
width = 3

abbrev pub last_procedure : ℕ
last_procedure = 38

-- the procedures whose findings stay where both lists have them, and where either has; all others stand in both
abbrev pub kept_by_both : List ℕ
kept_by_both = 8 ∷ 18 ∷ 34 ∷ []

abbrev pub kept_by_either : List ℕ
kept_by_either = 6 ∷ 12 ∷ 21 ∷ 22 ∷ []

abbrev pub is_among : List ℕ → ℕ → Bool
is_among [] p = false
is_among (q ∷ qs) p = eqb p q or is_among qs p

unfoldable pub class_of : ℕ → Class
class_of p = pick (is_among kept_by_both p) Both (pick (is_among kept_by_either p) Either DocumentOnly)

-- a procedure of 1 to the last, and a start below its end
abbrev pub is_valid : Finding → Bool
is_valid r = between 1 last_procedure r.procedure and ltb r.first r.after

-- the order: first byte, then procedure
abbrev pub precedes : Finding → Finding → Bool
precedes x y = ltb x.first y.first or (eqb x.first y.first and ltb x.procedure y.procedure)

-- a run of numbers as records; what is left at the end is no record
unfoldable pub records : List ℕ → List Finding
records [] = []
records (p ∷ []) = []
records (p ∷ f ∷ []) = []
records (p ∷ f ∷ e ∷ s) = record { procedure = p; first = f; after = e } ∷ records s

-- the first n of them
abbrev pub first_records : List ℕ → ℕ → List Finding
first_records s n = take n (records s)

-- records as a run of numbers
unfoldable pub flat : List Finding → List ℕ
flat [] = []
flat (r ∷ rs) = r.procedure ∷ r.first ∷ r.after ∷ flat rs

-- findings from the front of a list, the rest unchanged
abbrev pub filled : List Finding → List ℕ → List ℕ
filled rs out = flat rs ++ drop (length (flat rs)) out

-- the record at position k, and the run with a record stored there
abbrev pub record_at : List ℕ → ℕ → Finding
record_at s k = record { procedure = get_or s k 0; first = get_or s (k + 1) 0; after = get_or s (k + 2) 0 }

abbrev pub stored : List ℕ → ℕ → Finding → List ℕ
stored s k r = set (set (set s k r.procedure) (k + 1) r.first) (k + 2) r.after
