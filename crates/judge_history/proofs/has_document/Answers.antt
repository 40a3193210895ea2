use Rattle.xml_values.proofs.Views.{room_says}
use Rattle.judge_history.proofs.Asked.{document_asked}
use borrow.Author.Rules.{rules}
use Rattle.judge_history.proofs.has_document.Goals as goal

pub returns : goal.returns
returns c = search (document_asked, room_says, rules)
