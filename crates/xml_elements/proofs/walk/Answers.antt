use mathlib.Core.Path.{refl}
use borrow.Author.Rules.{rules}
use Rattle.xml_steps.proofs.Steps.{roomy_kept}
use Rattle.xml_elements.proofs.Walks.{told_start, open_left, no_root, all_read, piece_refused_lem, steps, step_stopped, told_again, told_less}
use Rattle.xml_elements.proofs.walk.Goals as goal

pub loop-reader-init : goal.loop-reader-init
loop-reader-init c = (search told_start, refl)

pub returns-in_default : goal.returns-in_default
returns-in_default c = (search piece_refused_lem, search rules)

pub step-next-requires : goal.step-next-requires
step-next-requires c = (search steps, search roomy_kept)

pub returns-in_default-next : goal.returns-in_default-next
returns-in_default-next c = (search step_stopped, search rules)

pub loop-reader-smaller : goal.loop-reader-smaller
loop-reader-smaller c = search told_less

pub loop-reader-preserved : goal.loop-reader-preserved
loop-reader-preserved c = (search told_again, search rules)

pub returns-then-reader-gt0 : goal.returns-then-reader-gt0
returns-then-reader-gt0 c = (search open_left, search rules)

pub returns-then-reader-lt1 : goal.returns-then-reader-lt1
returns-then-reader-lt1 c = (search no_root, search rules)

pub returns : goal.returns
returns c = (search all_read, search rules)
