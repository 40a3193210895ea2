use Rattle.table_rows.proofs.field_version.Goals as goal

pub returns : goal.returns
returns c = cc
