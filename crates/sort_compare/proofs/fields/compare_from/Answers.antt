use Rattle.sort_compare.proofs.Parts.{next_least}
use native.Mathlib.Omega.{arith}
use Rattle.sort_compare.proofs.Comparing.{rows_start, rows_same, row_told, rows_inside, chain_goes, field_over}
use Rattle.sort_compare.proofs.Sharing.{near_rows}
use borrow.Author.Rules.{rules}
use Rattle.sort_compare.proofs.fields.compare_from.Goals as goal

pub loop-left-init : goal.loop-left-init
loop-left-init c = (search rules, search rules, search rows_start)

pub returns-then-u-v : goal.returns-then-u-v
returns-then-u-v c = row_told _ _ _ _ _ _ _ _ c.loop-left.invariant.2 c.loop-left-test.true _ c.unit-u.ensures _ c.unit-v.ensures c.if-u-v.true _ c.cmp.ensures

pub loop-left-smaller-then-u-eq0 : goal.loop-left-smaller-then-u-eq0
loop-left-smaller-then-u-eq0 c = omega (arith, next_least _ _ _ c.next_field-i.ensures)

pub loop-left-preserved-then-u-eq0 : goal.loop-left-preserved-then-u-eq0
loop-left-preserved-then-u-eq0 c = let l = c.loop-left.invariant.2 in
    (search rules, search rules, field_over _ _ _ _ _ _ _ _ l c.loop-left-test.true _ c.unit-u.ensures _ c.unit-v.ensures c.if-u-v.false c.if-u-eq0.true _ _ c.next_field-i.ensures c.next_field-j.ensures)

pub overflow_add-i : goal.overflow_add-i
overflow_add-i c = let l = c.loop-left.invariant.2 in
    let h = (rows_inside _ _ _ _ _ _ _ _ l c.loop-left-test.true _ c.unit-u.ensures _ c.unit-v.ensures c.if-u-v.false c.if-u-eq0.false).0 in
    let g = c.well_formed.0 in
    search rules

pub overflow_add-j : goal.overflow_add-j
overflow_add-j c = let l = c.loop-left.invariant.2 in
    let h = (rows_inside _ _ _ _ _ _ _ _ l c.loop-left-test.true _ c.unit-u.ensures _ c.unit-v.ensures c.if-u-v.false c.if-u-eq0.false).1 in
    let g = c.well_formed.0 in
    search rules

pub overflow_add-i-in-loop-left : goal.overflow_add-i-in-loop-left
overflow_add-i-in-loop-left c = let l = c.loop-left.invariant.2 in
    let h = (rows_inside _ _ _ _ _ _ _ _ l c.loop-left-test.true _ c.unit-u.ensures _ c.unit-v.ensures c.if-u-v.false c.if-u-eq0.false).0 in
    let g = c.well_formed.0 in
    search rules

pub overflow_add-i-in-loop-left-2 : goal.overflow_add-i-in-loop-left-2
overflow_add-i-in-loop-left-2 c = let l = c.loop-left.invariant.2 in
    let h = (rows_inside _ _ _ _ _ _ _ _ l c.loop-left-test.true _ c.unit-u.ensures _ c.unit-v.ensures c.if-u-v.false c.if-u-eq0.false).0 in
    let g = c.well_formed.0 in
    let e = c.near-k.ensures.0 in
    search rules

pub overflow_add-j-in-loop-left : goal.overflow_add-j-in-loop-left
overflow_add-j-in-loop-left c = let l = c.loop-left.invariant.2 in
    let h = (rows_inside _ _ _ _ _ _ _ _ l c.loop-left-test.true _ c.unit-u.ensures _ c.unit-v.ensures c.if-u-v.false c.if-u-eq0.false).1 in
    let g = c.well_formed.0 in
    search rules

pub overflow_add-j-in-loop-left-2 : goal.overflow_add-j-in-loop-left-2
overflow_add-j-in-loop-left-2 c = let l = c.loop-left.invariant.2 in
    let h = (rows_inside _ _ _ _ _ _ _ _ l c.loop-left-test.true _ c.unit-u.ensures _ c.unit-v.ensures c.if-u-v.false c.if-u-eq0.false).1 in
    let g = c.well_formed.0 in
    let e = c.near-k.ensures.1 in
    search rules

pub loop-left-smaller : goal.loop-left-smaller
loop-left-smaller c = let l = c.loop-left.invariant.2 in
    omega (arith, (rows_inside _ _ _ _ _ _ _ _ l c.loop-left-test.true _ c.unit-u.ensures _ c.unit-v.ensures c.if-u-v.false c.if-u-eq0.false).0)

pub loop-left-preserved : goal.loop-left-preserved
loop-left-preserved c = let l = c.loop-left.invariant.2 in
    let h = rows_inside _ _ _ _ _ _ _ _ l c.loop-left-test.true _ c.unit-u.ensures _ c.unit-v.ensures c.if-u-v.false c.if-u-eq0.false in
    let r = chain_goes _ _ _ _ _ _ _ _ l c.loop-left-test.true _ c.unit-u.ensures _ c.unit-v.ensures c.if-u-v.false c.if-u-eq0.false in
    let g = c.well_formed.0 in
    (omega (arith, h.0, g, c.near-k.ensures.0), omega (arith, h.1, g, c.near-k.ensures.1), near_rows _ _ _ _ _ _ _ _ r _ c.near-k.ensures)

pub returns : goal.returns
returns c = search (rows_same _ _ _ _ _ _ _ _ c.loop-left.invariant.2)
