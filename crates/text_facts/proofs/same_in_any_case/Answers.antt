use Rattle.text_facts.proofs.StringLaws.{any_case}
use Rattle.text_facts.proofs.same_in_any_case.Goals as goal

pub returns : goal.returns
returns c = any_case _ _ _ c.eq_ignore_ascii_case.ensures.test
