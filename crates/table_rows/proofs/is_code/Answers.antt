use mathlib.Core.Path.{sym, ◌∙◌}
use Rattle.text_scan.proofs.Tests.{never}
use Rattle.table_rows.proofs.Tests.{no_first, no_second, all_three}
use Rattle.table_rows.specs.Rows.{is_code}
use Rattle.table_rows.proofs.is_code.Goals.{then-field_is, else-field_is}
use Rattle.table_rows.proofs.is_code.Goals as goal

pub returns-then-field_is-2 : goal.returns-then-field_is-2
unfolding is_code
returns-then-field_is-2 c =
    elim c.if-field_is.branch [
      | then-field_is w ↦ let e = sym w.value-is ∙ c.if-field_is-2.true in search all_three
      | else-field_is w ↦ never (sym (sym w.value-is ∙ c.if-field_is-2.true) ∙ w.if-field_is.false)
    ]

pub returns-else-field_is-2 : goal.returns-else-field_is-2
unfolding is_code
returns-else-field_is-2 c =
    elim c.if-field_is.branch [
      | then-field_is w ↦ let e = sym w.value-is ∙ c.if-field_is-2.false in search no_second
      | else-field_is w ↦ search no_first
    ]
