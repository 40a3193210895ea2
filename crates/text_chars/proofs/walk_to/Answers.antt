use Rattle.text_chars.proofs.Walked.{ascii, goes, falls, stops, comes, room}
use Rattle.text_chars.proofs.walk_to.Goals as goal

pub loop-i-preserved-then-b-lt128 : goal.loop-i-preserved-then-b-lt128
loop-i-preserved-then-b-lt128 c = search ascii

pub returns-in_default : goal.returns-in_default
returns-in_default c = stops c.args.s.now _ _ c.args.end c.loop-i.invariant c.loop-i-test.true c.requires c.in_default.ensures

pub overflow_add-i-in-loop-i : goal.overflow_add-i-in-loop-i
overflow_add-i-in-loop-i c = search (room c.args.s.now c.loop-i.i 0 c.args.end c.in-Some.w c.loop-i-test.true c.requires c.in-Some.ensures)

pub loop-i-preserved : goal.loop-i-preserved
loop-i-preserved c = goes c.args.s.now _ _ c.args.end _ c.loop-i-test.true c.requires c.in-Some.ensures c.loop-i.invariant

pub loop-i-smaller : goal.loop-i-smaller
loop-i-smaller c = falls c.args.s.now c.loop-i.i 0 c.args.end c.in-Some.w c.loop-i-test.true c.requires c.in-Some.ensures

pub returns : goal.returns
returns c = search comes
