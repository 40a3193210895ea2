use Rattle.judge_notes.proofs.Noted.{noted_there, not_noted}
use borrow.Author.Rules.{rules}
use Rattle.judge_notes.proofs.fill.Goals as goal

pub returns-then-elements-notes : goal.returns-then-elements-notes
returns-then-elements-notes c = search (noted_there, not_noted, rules)

pub returns-else-elements-notes : goal.returns-else-elements-notes
returns-else-elements-notes c = search (noted_there, not_noted, rules)
