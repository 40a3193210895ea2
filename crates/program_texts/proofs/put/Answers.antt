use native.Mathlib.Omega.{arith}
use Rattle.program_texts.proofs.Puts.{part_put}
use Rattle.program_texts.proofs.put.Goals as goal

pub returns : goal.returns
returns c = part_put c.args.out.now c.args.text.now c.copy_from_slice.new.self c.args.at (omega arith) c.copy_from_slice.ensures.after
