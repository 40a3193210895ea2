use Rattle.xml_steps.proofs.Names.{before_within, before_fits, bytes_differ, bytes_same, bytes_end, second_past}
use mathlib.Core.Path.{refl}
use borrow.Author.Rules.{rules}
use Rattle.xml_steps.proofs.same_bytes.Goals as goal

pub loop-b-init : goal.loop-b-init
loop-b-init c = (refl, search rules)

pub bounds-s-a : goal.bounds-s-a
bounds-s-a c = search before_within

pub returns-then-x-y : goal.returns-then-x-y
returns-then-x-y c = search bytes_differ

pub overflow_add-a : goal.overflow_add-a
overflow_add-a c = search before_fits

pub loop-b-preserved : goal.loop-b-preserved
loop-b-preserved c = (search bytes_same, search rules)

pub returns-in-loop-b : goal.returns-in-loop-b
returns-in-loop-b c = search bytes_end

pub returns : goal.returns
returns c = search second_past
