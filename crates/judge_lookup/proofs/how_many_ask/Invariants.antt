-- `judge_lookup::how_many_ask` meets its contract. The invariant: what was found and what is left from n on make the answer.
use mathlib.Core.Path.{◌≡◌}
use Prim.Native.Nat.{◌+◌, ◌≤◌}
use Rattle.judge_lookup.specs.Serving.{asking}
use Rattle.judge_lookup.proofs.Asking.{left}
use Rattle.judge_lookup.proofs.how_many_ask.Given as goal

abbrev pub invariant-loop-n : goal.invariant-loop-n
invariant-loop-n l = (asking l.notes ≡ l.found + left l.notes l.n) × (l.found ≤ l.n)
