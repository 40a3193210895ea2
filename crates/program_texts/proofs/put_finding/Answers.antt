use native.Mathlib.Omega.{arith}
use Rattle.program_texts.proofs.Puts.{line_put}
use Rattle.program_texts.proofs.put_finding.Goals as goal

pub returns : goal.returns
returns c = (search line_put, omega arith)
