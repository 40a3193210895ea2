use Rattle.table_rows.proofs.field_is_in_any_case.Goals as goal

pub returns : goal.returns
returns c = cc
