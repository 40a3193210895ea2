use borrow.Author.Rules.{rules}
use Rattle.xml_repeats.proofs.repeats_sorted.Goals as goal

pub repeats_within-requires : goal.repeats_within-requires
repeats_within-requires c = (search rules, search rules)
