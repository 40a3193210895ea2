use Rattle.text_facts.specs.Strings.{begins_with}
use Rattle.text_facts.proofs.begins_with.Goals as goal

pub returns : goal.returns
unfolding begins_with
returns c = c.text_at.ensures
