use Rattle.table_index.specs.Indexed.{key_place}
use Rattle.table_index.proofs.Lookups.{fourth}
use borrow.Author.Rules.{rules}
use Rattle.table_index.proofs.key_place.Goals as goal

pub returns-in-Code : goal.returns-in-Code
unfolding key_place
returns-in-Code c = search rules

pub returns-in-KeyElsewhere : goal.returns-in-KeyElsewhere
returns-in-KeyElsewhere c = search fourth
