use Rattle.std.proofs.Common.{rules, tests, ◌∙◌}
use Rattle.std.proofs.lemmas.Iterator.{YieldsList-from_slice}
use Rattle.std.proofs.lemmas.Iterator.Search.{all_from_yields_List}
use Rattle.xml_values.specs.Views.{is_shown}
use Rattle.xml_values.proofs.Views.{all_every}
use Rattle.xml_values.proofs.all_shown.Goals as goal

pub returns : goal.returns
returns c =
    all_from_yields_List is_shown _ _ _ c.all.ensures.ran (YieldsList-from_slice c.args.raw.now cc) (λ x b q k. search (rules, tests))
    ∙ all_every is_shown c.args.raw.now
