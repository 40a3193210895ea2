use Rattle.program_input.proofs.Cuts.{cut_before, cut_behind, whole_before, nothing_behind}
use Rattle.program_input.proofs.cut.Goals as goal

pub returns-in-Some-clause-before : goal.returns-in-Some-clause-before
returns-in-Some-clause-before c = cut_before c.args.s.now c.args.b c.in-Some.k c.in-Some.ensures

pub returns-in-Some-clause-behind : goal.returns-in-Some-clause-behind
returns-in-Some-clause-behind c = cut_behind c.args.s.now c.args.b c.in-Some.k c.in-Some.ensures

pub returns-in-None-clause-before : goal.returns-in-None-clause-before
returns-in-None-clause-before c = whole_before c.args.s.now c.args.b c.in-None.ensures

pub returns-in-None-clause-behind : goal.returns-in-None-clause-behind
returns-in-None-clause-behind c = nothing_behind c.args.s.now c.args.b c.in-None.ensures
