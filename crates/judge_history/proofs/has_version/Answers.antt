use Rattle.xml_values.proofs.Views.{room_says}
use Rattle.judge_history.proofs.Asked.{version_asked}
use borrow.Author.Rules.{rules}
use Rattle.judge_history.proofs.has_version.Goals as goal

pub returns : goal.returns
returns c = search (version_asked, room_says, rules)
