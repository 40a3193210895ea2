use Rattle.table_index.specs.Indexed.{by_of}
use borrow.Author.Rules.{rules}
use Rattle.table_index.proofs.by.Goals as goal

pub returns-in-Code : goal.returns-in-Code
unfolding by_of
returns-in-Code c = search rules

pub returns-in-Name : goal.returns-in-Name
unfolding by_of
returns-in-Name c = search rules

pub returns-in-KeyElsewhere : goal.returns-in-KeyElsewhere
unfolding by_of
returns-in-KeyElsewhere c = search rules
