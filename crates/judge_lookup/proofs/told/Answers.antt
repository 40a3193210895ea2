use Rattle.xml_values.proofs.Views.{room_says}
use Rattle.judge_lookup.proofs.Laws.{keys_told}
use borrow.Author.Rules.{rules}
use Rattle.judge_lookup.proofs.told.Goals as goal

pub returns : goal.returns
returns c = search (keys_told, room_says, rules)
