use Rattle.table_lines.proofs.Runs.{plain_less}
use Rattle.table_lines.proofs.Fields.{here, past, at_tab, at_plain}
use Rattle.table_lines.proofs.field_start.Goals as goal

pub returns-then-left-eq0 : goal.returns-then-left-eq0
returns-then-left-eq0 c = search here

pub loop-i-preserved-then-line-i-eq9 : goal.loop-i-preserved-then-line-i-eq9
loop-i-preserved-then-line-i-eq9 c = search at_tab

pub loop-i-smaller : goal.loop-i-smaller
loop-i-smaller c = search plain_less

pub loop-i-preserved : goal.loop-i-preserved
loop-i-preserved c = search at_plain

pub returns : goal.returns
returns c = search past
