use mathlib.Core.Path.{◌∙◌}
use Rattle.xml_attributes.proofs.Listed.{nth_answers}
use Rattle.xml_tags.proofs.is_crowded.Goals as goal

pub returns : goal.returns
returns c = c.is_some.ensures ∙ nth_answers (record { s = c.args.s; at = c.args.at }) c.nth.new.self _ _ c.nth.ensures.ran
