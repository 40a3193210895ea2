use Rattle.table_rows.proofs.Values.{match_short, match_other, match_tab, match_next, match_whole, match_ends}
use Rattle.table_rows.proofs.begins_with.Goals.{then-b-value-via-then-b-value, then-b-value-via-else-b-value+then-b-eq9}
use Rattle.table_rows.proofs.begins_with.Goals as goal

pub returns-then-rest-j : goal.returns-then-rest-j
returns-then-rest-j c = search match_short

pub returns-then-b-value : goal.returns-then-b-value
returns-then-b-value c = elim c.then-b-value.branch [ then-b-value-via-then-b-value w ↦ search match_other | then-b-value-via-else-b-value+then-b-eq9 w ↦ search match_tab ]

pub loop-j-preserved : goal.loop-j-preserved
loop-j-preserved c = search match_next

pub returns-then-rest-value : goal.returns-then-rest-value
returns-then-rest-value c = search match_whole

pub returns-else-rest-value : goal.returns-else-rest-value
returns-else-rest-value c = search match_ends
