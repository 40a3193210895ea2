-- `judge_notes::fill_all` meets its contract.
use Prim.Native.Nat.{◌*◌}
use mathlib.Core.Path.{◌≡◌}
use lib.ListN.{length}
use Rattle.judge_paths.specs.Paths.{role_of}
use Rattle.judge_notes.proofs.Noted.{Stored}
use Rattle.judge_notes.proofs.fill_all.Given as goal

abbrev pub invariant-loop-k : goal.invariant-loop-k
invariant-loop-k l = (length l.notes ≡ length l.initial.notes) × Stored l.document l.elements l.kind l.initial.notes l.notes (4 * l.k) × (l.above ≡ role_of l.document l.elements l.kind l.parent)
