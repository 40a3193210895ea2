use Rattle.text_facts.specs.Strings.{is_guid}
use Rattle.text_facts.proofs.is_guid.Goals as goal

pub returns : goal.returns
unfolding is_guid
returns c = c.in_guid_form.ensures
