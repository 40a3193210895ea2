use Rattle.xml_values.proofs.Views.{room_says}
use Rattle.judge_lookup.proofs.Laws.{keys_filled}
use borrow.Author.Rules.{rules}
use Rattle.judge_lookup.proofs.fill_keys_of.Goals as goal

pub fill_part-requires : goal.fill_part-requires
fill_part-requires c = (search rules, search rules, search rules)

pub returns : goal.returns
returns c = (search (keys_filled, room_says, rules), search rules)
