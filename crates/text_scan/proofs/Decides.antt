-- That a contract decides what a function answers and leaves: what is told of two outcomes that it allows for the same arguments is the same. Such a law is over the
-- contract itself, as the prover has it (`Reads.Post` of the function): it breaks where the contract says less.
-- Assumes nothing.
use Prim.Native.Nat.{ℕ}
use mathlib.Core.Path.{◌≡◌, sym, ◌∙◌}
use mathlib.Core.List.{List}
use contract.Lifetimes.{Lfts}
use denote.Triple.Clauses.{AtExit}
use borrow.Fn.Kinds.{ParamKind, ResultKind, Dens, res_t, ended_of, Out}

-- what is told of the result and of what is lent, as it is at the end
abbrev pub Decides : {B : Type 0} {n : ℕ} (ps : List (ParamKind n)) (r : ResultKind n) → Out n ps r → ((κs : Lfts n) → (res_t r κs).Denot → AtExit (ended_of n ps r) κs → B) → Type 0
Decides {n = n} ps r post told =
    (κs : Lfts n) (a : Dens κs ps) (x y : (res_t r κs).Denot) (s t : AtExit (ended_of n ps r) κs) → post κs a x s → post κs a y t → told κs x s ≡ told κs y t

-- the answer
abbrev pub Answers : {n : ℕ} (ps : List (ParamKind n)) (r : ResultKind n) → Out n ps r → Type 0
Answers {n = n} ps r post =
    (κs : Lfts n) (a : Dens κs ps) (x y : (res_t r κs).Denot) (s t : AtExit (ended_of n ps r) κs) → post κs a x s → post κs a y t → x ≡ y

-- of an equation with a definition
pub only : {A : Type 0} {d r r' : A} → r ≡ d → r' ≡ d → r ≡ r'
only p q = p ∙ sym q
