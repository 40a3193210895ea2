use mathlib.Core.Path.{refl}
use native.Mathlib.Omega.{arith}
use borrow.Author.Rules.{rules}
use Rattle.xml_texts.proofs.Texts.{run_ahead, run_inside, run_less, run_fits, run_stored, drop_less, drop_stored, end_count, end_stored, ended_count, ended_stored, other_count, other_stored}
use Rattle.xml_texts.proofs.say.Goals as goal

pub loop-i-init : goal.loop-i-init
loop-i-init c = (refl, omega arith, refl, search rules, omega arith)

pub slice_bounds-decode_at-count : goal.slice_bounds-decode_at-count
slice_bounds-decode_at-count c = search run_ahead

pub slice_bounds-decode_at-start : goal.slice_bounds-decode_at-start
slice_bounds-decode_at-start c = search run_ahead

pub slice_bounds-decode_at-end : goal.slice_bounds-decode_at-end
slice_bounds-decode_at-end c = search run_inside

pub overflow_add-n : goal.overflow_add-n
overflow_add-n c = search run_fits

pub loop-i-smaller-in-Said : goal.loop-i-smaller-in-Said
loop-i-smaller-in-Said c = search run_less

pub loop-i-preserved-in-Said : goal.loop-i-preserved-in-Said
loop-i-preserved-in-Said c = search run_stored

pub loop-i-smaller : goal.loop-i-smaller
loop-i-smaller c = search drop_less

pub loop-i-preserved : goal.loop-i-preserved
loop-i-preserved c = search drop_stored

pub returns-in-Ended : goal.returns-in-Ended
returns-in-Ended c = search (ended_count, ended_stored)

pub returns-in-Other : goal.returns-in-Other
returns-in-Other c = search (other_count, other_stored)

pub returns : goal.returns
returns c = search (end_count, end_stored)
