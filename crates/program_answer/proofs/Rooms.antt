-- What is printed stands within its room: what a caller needs to lend the front of it.
-- Assumes nothing.
use mathlib.Core.Path.{◌≡◌, sym}
use mathlib.Core.List.{List}
use Prim.Native.Nat.{ℕ, ◌≤◌}
use lib.ListN.{length, take}
use lib.Seq.{length-take-le}
use Rattle.judge_check.specs.Check.{Outcome}
use Rattle.program_texts.proofs.Puts.{put_within}
use Rattle.program_answer.specs.Small.{Prints}

module _ (x : Outcome) (r : ℕ) (table list old out : List ℕ) (p : Prints x r table list old out) where
  pub printed_within : r ≤ length out
  printed_within = put_within old out _ r p.prints

  pub printed_front : r ≡ length (take r out)
  printed_front = sym (length-take-le r out printed_within)
