use Rattle.text_scan.proofs.Lists.{read_short, read_other, read_next, read_whole}
use Rattle.text_scan.proofs.text_read_at.Goals as goal

pub returns-then-s-i : goal.returns-then-s-i
returns-then-s-i g c = read_short g.C.Case.read _ c.args.s.now _ _ _ c.loop-b.invariant c.loop-b-test.true c.if-s-i.true

pub returns-then-read-b : goal.returns-then-read-b
returns-then-read-b g c = read_other g.C.Case.read _ c.args.s.now _ _ _ c.loop-b.invariant c.loop-b-test.true c.if-s-i.false _ c.read.ensures c.if-read-b.true

pub loop-b-preserved : goal.loop-b-preserved
loop-b-preserved g c = read_next g.C.Case.read _ c.args.s.now _ _ _ c.loop-b.invariant c.loop-b-test.true c.if-s-i.false _ c.read.ensures c.if-read-b.false

pub returns : goal.returns
returns g c = read_whole g.C.Case.read _ c.args.s.now _ _ _ c.loop-b.invariant c.loop-b-test.false
