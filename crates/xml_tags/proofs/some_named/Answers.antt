use Rattle.std.proofs.Common.{rules, tests, ◌∙◌}
use Rattle.std.proofs.lemmas.Iterator.{YieldsList-from_slice}
use Rattle.std.proofs.lemmas.Iterator.Search.{any_from_yields_List}
use Rattle.xml_names.specs.Names.{name_is}
use Rattle.xml_attributes.proofs.Some.{some_any}
use Rattle.xml_tags.proofs.some_named.Goals as goal

pub returns : goal.returns
returns c =
    any_from_yields_List (λ b. name_is c.args.t.now c.args.s.now b) _ _ _ c.any.ensures.ran (YieldsList-from_slice c.args.starts.now cc) (λ x b q k. search (rules, tests))
    ∙ some_any _ c.args.starts.now
