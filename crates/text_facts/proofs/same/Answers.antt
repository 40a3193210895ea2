use mathlib.Core.Path.{◌∙◌}
use Rattle.text_scan.proofs.Lists.{pairs_is}
use Rattle.text_facts.specs.Strings.{equal}
use Rattle.text_facts.proofs.same.Goals as goal

pub returns : goal.returns
unfolding equal
returns c = c.eq.ensures ∙ pairs_is _ _ _
