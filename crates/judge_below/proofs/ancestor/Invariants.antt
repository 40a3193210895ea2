-- `judge_below::ancestor` meets its contract.
use Rattle.judge_below.specs.Chosen.{ancestor}
use Rattle.judge_draft.specs.Drafts.{lent}
use Prim.Native.Nat.{◌-◌}
use mathlib.Core.Path.{◌≡◌}
use Rattle.judge_below.proofs.ancestor.Given as goal

abbrev pub invariant-loop : goal.invariant-loop
invariant-loop l = ancestor (lent l.draft) l.levels l.k ≡ ancestor (lent l.draft) (l.levels - l.counter) l.at
