use Rattle.xml_attributes.proofs.Keeping.{keep_past}
use borrow.Author.Rules.{rules}
use Rattle.xml_tags.proofs.keep.Goals as goal

pub returns-then-starts-k : goal.returns-then-starts-k
returns-then-starts-k c = search (keep_past, rules)
