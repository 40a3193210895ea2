use mathlib.Core.Path.{sym}
use native.Mathlib.Omega.{arith}
use lib.Seq.{length-take-le}
use Rattle.text_encode.proofs.Forms.{encoded_most}
use Rattle.program_chars.proofs.good.Goals as goal

pub slice_bounds-bytes-end : goal.slice_bounds-bytes-end
slice_bounds-bytes-end c = omega (arith, encoded_most c.args.c)

pub slice_bounds-at-end : goal.slice_bounds-at-end
slice_bounds-at-end c = sym (length-take-le _ _ (omega (arith, encoded_most c.args.c)))
