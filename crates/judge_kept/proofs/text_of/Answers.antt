use Rattle.judge_kept.proofs.Names.{text_asked, no_text}
use Rattle.judge_kept.proofs.text_of.Goals as goal

pub returns-then-has_text : goal.returns-then-has_text
returns-then-has_text c = search text_asked

pub returns : goal.returns
returns c = search no_text
