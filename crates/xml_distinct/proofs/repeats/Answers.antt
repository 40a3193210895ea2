use Rattle.xml_distinct.proofs.Counting.{front_twice, rest_twice, front_room}
use Rattle.xml_distinct.proofs.Leaving.{few_left, front_left, rest_left}
use mathlib.Core.Path.{sym}
use native.Mathlib.Omega.{arith}
use lib.Seq.{length-take-le}
use borrow.Author.Rules.{rules}
use Rattle.xml_distinct.proofs.repeats.Goals as goal

pub returns-then-starts-le256 : goal.returns-then-starts-le256
returns-then-starts-le256 c = (search rules, search few_left)

pub slice_bounds-repeats_sorted-end-2 : goal.slice_bounds-repeats_sorted-end-2
slice_bounds-repeats_sorted-end-2 c = sym (length-take-le 256 c.args.starts.now (omega arith))

pub repeats_sorted-requires-2 : goal.repeats_sorted-requires-2
repeats_sorted-requires-2 c = search front_room

pub returns-then-repeats_sorted : goal.returns-then-repeats_sorted
returns-then-repeats_sorted c = (search front_twice, search front_left)

pub returns : goal.returns
returns c = (search rest_twice, search rest_left)
