-- `text_chars::plain_block` meets its contract. The invariant: whether the k bytes from i on are plain.
use mathlib.Core.Path.{◌≡◌}
use Rattle.text_chars.specs.Blocks.{plains}
use Rattle.text_chars.proofs.plain_block.Given as goal

abbrev pub invariant-loop-k : goal.invariant-loop-k
invariant-loop-k l = l.all ≡ plains l.s l.i l.k
