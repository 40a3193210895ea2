use mathlib.Core.Path.{sym, ◌∙◌}
use native.Mathlib.Omega.{arith}
use borrow.Author.Tests.{le-leb}
use Rattle.text_scan.proofs.Tests.{never}
use Rattle.sort_places.proofs.Merging.{merge_starts, merge_last, merge_left, merge_right, merge_ends, length_kept}
use borrow.Author.Rules.{rules}
use Rattle.sort_places.proofs.merge.Goals as goal
use Rattle.sort_places.proofs.merge.Goals.{then-a-j, else-a-j, then-is_in_order, else-is_in_order}

pub loop-i-init : goal.loop-i-init
loop-i-init c = search (merge_starts, rules)

pub loop-i-preserved : goal.loop-i-preserved
loop-i-preserved c =
    elim c.if-is_in_order.branch [
      | then-is_in_order w ↦ elim c.if-a-j.branch [
        | then-a-j v ↦ (omega arith, omega arith, omega arith, rw w.a-is (search length_kept), rw (w.a-is, w.i-is, w.j-is) (search merge_last))
        | else-a-j v ↦
            let t = sym v.value-is ∙ w.if-is_in_order.true in
            (omega arith, omega arith, omega arith, rw w.a-is (search length_kept), rw (w.a-is, w.i-is, w.j-is) (search (merge_left _ _ _ _ _ _ _ c.loop-i.invariant.4)))
      ]
      | else-is_in_order w ↦ elim c.if-a-j.branch [
        | then-a-j v ↦ never (sym (le-leb _ _ v.if-a-j.true) ∙ sym v.value-is ∙ w.if-is_in_order.false)
        | else-a-j v ↦
            let t = sym v.value-is ∙ w.if-is_in_order.false in
            (omega arith, omega arith, omega arith, rw w.a-is (search length_kept), rw (w.a-is, w.i-is, w.j-is) (search (merge_right _ _ _ _ _ _ _ c.loop-i.invariant.4)))
      ]
    ]

pub returns : goal.returns
returns c = search merge_ends
