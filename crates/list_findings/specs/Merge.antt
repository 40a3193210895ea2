-- Merging (document 01, "Merging", and refusals 11 to 13): two lists of findings are walked together in their order. What is met is a
-- finding of one list alone, or one of each list with the same procedure and first byte, and is kept, left out or a fault.
-- Assumes nothing.
use Rattle.std.specs.Prelude.{ℕ, ◌+◌, ◌/◌, ◌%◌, ◌≡◌, List, [], ◌∷◌, map, leb, eqb, length, Option, None, Some, Result, Ok}
use Rattle.refusals.specs.declared.Reason.TheVariants.{ShortList, BadList, NoMerge}
use Rattle.refusals.specs.declared.Reason.{Reason}
use Rattle.refusals.specs.declared.Refusal.{Refusal}
use Rattle.refusals.specs.Numbers.{refuses}
use Rattle.text_scan.specs.Choice.{pick, ◌and◌}
use Rattle.list_findings.specs.declared.Finding.{Finding}
use Rattle.list_findings.specs.declared.Class.{Class}
use Rattle.list_findings.specs.declared.Class.TheVariants.{DocumentOnly, Both, Either}
use Rattle.list_findings.specs.Findings.{width, class_of, is_valid, precedes, records, filled}

-- ---- refusal 12: a list that is no list of findings
-- the number, from n on, of the first record that is not valid or does not stand behind the record before it, l
unfoldable pub bad_after : ℕ → Finding → List Finding → Option ℕ
bad_after n l [] = None
bad_after n l (r ∷ rs) = pick (is_valid r and precedes l r) (bad_after (n + 1) r rs) (Some n)

-- what stands before the first record: procedure 0 at byte 0, which precedes all that are valid
abbrev pub origin : Finding
origin = record { procedure = 0; first = 0; after = 0 }

-- the first that is found
abbrev pub or_else : Option ℕ → Option ℕ → Option ℕ
or_else (Some n) f = Some n
or_else None f = f

-- a record at the end that is not whole
abbrev pub partial : List ℕ → Option ℕ
partial s = pick (eqb (length s % width) 0) None (Some (length s / width))

-- the number from 0 of the first bad record of a run of numbers
unfoldable pub first_bad_record : List ℕ → Option ℕ
first_bad_record s = or_else (bad_after 0 origin (records s)) (partial s)

-- ---- what two lists meet
pub data Met : Type 0 where
  alone : Finding → Met
  twice : Finding → Finding → Met

-- x, the next of the first list, among the findings of the second; `rest` is what the findings after x meet
unfoldable pub among : Finding → (List Finding → List Met) → List Finding → List Met
among x rest [] = alone x ∷ rest []
among x rest (y ∷ ys) =
    pick (precedes x y) (alone x ∷ rest (y ∷ ys))
    (pick (precedes y x) (alone y ∷ among x rest ys) (twice x y ∷ rest ys))

unfoldable pub met : List Finding → List Finding → List Met
met [] b = map alone b
met (x ∷ xs) b = among x (met xs) b

-- ---- what becomes of it: kept, left out, or a fault at this first byte
pub data Verdict : Type 0 where
  keep : Finding → Verdict
  leave : Verdict
  fault : ℕ → Verdict

abbrev pub of_alone : Class → Finding → Verdict
of_alone DocumentOnly r = fault r.first
of_alone Both r = leave
of_alone Either r = keep r

-- by the procedure's class alone; two ends are a fault
unfoldable pub verdict : (ℕ → Class) → Met → Verdict
verdict class (alone r) = of_alone (class r.procedure) r
verdict class (twice r q) = pick (eqb r.after q.after) (keep r) (fault r.first)

abbrev pub keeping : Verdict → List Finding → List Finding
keeping (keep r) rs = r ∷ rs
keeping leave rs = rs
keeping (fault at) rs = rs

abbrev pub faulting : Verdict → Option ℕ → Option ℕ
faulting (keep r) f = f
faulting leave f = f
faulting (fault at) f = Some at

unfoldable pub kept : (ℕ → Class) → List Met → List Finding
kept class [] = []
kept class (m ∷ ms) = keeping (verdict class m) (kept class ms)

unfoldable pub fault_of : (ℕ → Class) → List Met → Option ℕ
fault_of class [] = None
fault_of class (m ∷ ms) = faulting (verdict class m) (fault_of class ms)

-- the merged list, and refusal 13: the first fault, which has the least first byte
abbrev pub merged : List Finding → List Finding → List Finding
merged a b = kept class_of (met a b)

abbrev pub first_fault : List Finding → List Finding → Option ℕ
first_fault a b = fault_of class_of (met a b)

-- ---- the answer, and what the third list holds then
pub record Merging : Type 0 where
  pub answer : Result ℕ Refusal
  pub list : List ℕ

-- a refusal with this number where something is found, which leaves the third list as it was
abbrev pub merge_refused : Reason → Option ℕ → List ℕ → Merging → Merging
merge_refused number (Some place) out otherwise = record { answer = refuses number place; list = out }
merge_refused number None out otherwise = otherwise

-- refusal 11: how many findings there are, where the room is for fewer
abbrev pub too_many : List Finding → List ℕ → Option ℕ
too_many rs out = pick (leb (length rs) (length out / width)) None (Some (length rs))

-- 12 of the first list, 12 of the second, 13, 11, in this order
unfoldable pub merge_of : List ℕ → List ℕ → List ℕ → Merging
merge_of a b out =
    merge_refused BadList (first_bad_record a) out
    (merge_refused BadList (first_bad_record b) out
    (merge_refused NoMerge (first_fault (records a) (records b)) out
    (merge_refused ShortList (too_many (merged (records a) (records b)) out) out
    (record { answer = Ok (length (merged (records a) (records b))); list = filled (merged (records a) (records b)) out }))))

-- the contract of the merge
pub record IsMerged (a b out : List ℕ) (answer : Result ℕ Refusal) (after : List ℕ) : Type 0 where
  pub answers : answer ≡ (merge_of a b out).answer
  pub leaves : after ≡ (merge_of a b out).list
