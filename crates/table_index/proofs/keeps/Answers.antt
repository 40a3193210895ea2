use Rattle.table_index.specs.Indexed.{keeps_row}
use Rattle.table_index.proofs.Lookups.{kept}
use borrow.Author.Rules.{rules}
use Rattle.table_index.proofs.keeps.Goals as goal

pub returns-in-Code : goal.returns-in-Code
unfolding keeps_row
returns-in-Code c = search rules

pub returns-in-KeyElsewhere : goal.returns-in-KeyElsewhere
returns-in-KeyElsewhere c = search kept
