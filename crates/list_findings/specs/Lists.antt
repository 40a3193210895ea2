-- Lists of findings, in the words in which the laws of the merge are told: order, membership, and the faults of two lists.
-- Assumes nothing.
use Rattle.std.specs.Prelude.{ℕ, ◌≤◌, ◌≡◌, Bool, true, false, List, [], ◌∷◌, eqb, Option, None, Some}
use Rattle.text_scan.specs.Choice.{◌or◌, ◌and◌}
use Rattle.list_findings.specs.declared.Finding.{Finding}
use Rattle.list_findings.specs.declared.Class.{Class}
use Rattle.list_findings.specs.declared.Class.TheVariants.{DocumentOnly, Both, Either}
use Rattle.list_findings.specs.Findings.{precedes, is_valid}

-- l precedes the first of a list
abbrev pub Before : Finding → List Finding → Type 0
Before l [] = Unit {0}
Before l (r ∷ rs) = precedes l r ≡ true

-- each precedes the next, so that none stands twice
abbrev pub Ordered : List Finding → Type 0
Ordered [] = Unit {0}
Ordered (r ∷ rs) = Before r rs × Ordered rs

-- each finding of a list has the property
abbrev pub All : (Finding → Type 0) → List Finding → Type 0
All P [] = Unit {0}
All P (r ∷ rs) = P r × All P rs

-- a list that the merge takes: ordered, each finding valid
pub record Good (rs : List Finding) : Type 0 where
  pub ordered : Ordered rs
  pub valid : All (λ r. is_valid r ≡ true) rs

-- a finding is in a list
abbrev pub same : Finding → Finding → Bool
same x y = eqb x.procedure y.procedure and eqb x.first y.first and eqb x.after y.after

unfoldable pub has : Finding → List Finding → Bool
has r [] = false
has r (x ∷ xs) = same r x or has r xs

-- where a finding of this class stays: by whether the first list has it, and the second
abbrev pub stays : Class → Bool → Bool → Bool
stays DocumentOnly a b = a and b
stays Both a b = a and b
stays Either a b = a or b

-- one procedure and first byte
pub record Keyed (x y : Finding) : Type 0 where
  pub firsts : x.first ≡ y.first
  pub procedures : x.procedure ≡ y.procedure

-- no finding of the list has this procedure and first byte
abbrev pub Lacks : List Finding → Finding → Type 0
Lacks rs r = (q : Finding) → has q rs ≡ true → Keyed r q → ⊥

-- a fault of two lists at a first byte: a document-only finding in one alone, or two ends of one procedure and first byte
pub data FaultAt (class : ℕ → Class) (a b : List Finding) (at : ℕ) : Type 0 where
  in_first : (r : Finding) → has r a ≡ true → Lacks b r → class r.procedure ≡ DocumentOnly → r.first ≡ at → FaultAt class a b at
  in_second : (r : Finding) → has r b ≡ true → Lacks a r → class r.procedure ≡ DocumentOnly → r.first ≡ at → FaultAt class a b at
  two_ends : (r q : Finding) → has r a ≡ true → has q b ≡ true → Keyed r q → (r.after ≡ q.after → ⊥) → r.first ≡ at → FaultAt class a b at

-- the least first byte at which two lists have a fault; nothing where they have none
abbrev pub Least : (ℕ → Class) → List Finding → List Finding → Option ℕ → Type 0
Least class a b (Some at) = FaultAt class a b at × ((t : ℕ) → FaultAt class a b t → at ≤ t)
Least class a b None = (t : ℕ) → FaultAt class a b t → ⊥
