use mathlib.Core.Path.{◌∙◌, ap}
use Prim.Native.Nat.{◌+◌}
use lib.ListN.{get_or}
use Rattle.std.proofs.lemmas.List.{take_rest}
use Rattle.xml_attributes.proofs.Some.{named_again, some_out, some_found, some_next}
use Rattle.xml_tags.proofs.repeats_few.Goals as goal

pub returns-then-named_again : goal.returns-then-named_again
returns-then-named_again c =
    let behind = ap (named_again c.args.s.now (get_or c.args.starts.now c.loop-k.k 0)) (take_rest c.args.starts.now (c.loop-k.k + 1)) in
    some_found (named_again c.args.s.now) c.args.starts.now 0 c.loop-k.k c.loop-k.invariant c.loop-k-test.true _ (c.named_again.ensures ∙ behind) c.if-named_again.true

pub loop-k-preserved : goal.loop-k-preserved
loop-k-preserved c =
    let behind = ap (named_again c.args.s.now (get_or c.args.starts.now c.loop-k.k 0)) (take_rest c.args.starts.now (c.loop-k.k + 1)) in
    some_next (named_again c.args.s.now) c.args.starts.now 0 c.loop-k.k c.loop-k.invariant c.loop-k-test.true _ (c.named_again.ensures ∙ behind) c.if-named_again.false

pub returns : goal.returns
returns c = search (some_out (named_again c.args.s.now) c.args.starts.now 0)
