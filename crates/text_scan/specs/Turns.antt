-- A walk with a state: at each turn `f` says of the state either the next one, or the answer.
-- Assumes nothing.
use Rattle.std.specs.Prelude.{ℕ, zero, suc}

pub data Turn (S R : Type 0) : Type 0 where
  on : S → Turn S R
  out : R → Turn S R

-- n turns from s on at the most; e where they do not suffice
unfoldable pub turns : {S R : Type 0} → (S → Turn S R) → R → ℕ → S → R
turns f e zero s = e
turns f e (suc n) s = elim (f s) [ on t ↦ turns f e n t | out r ↦ r ]

-- all turns from s on, where the measure m of a state falls at each turn
unfoldable pub run : {S R : Type 0} → (S → Turn S R) → R → (S → ℕ) → S → R
run f e m s = turns f e (suc (m s)) s
