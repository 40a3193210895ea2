use Rattle.std.proofs.Common.{rules, tests}
use mathlib.Core.Path.{◌∙◌}
use Rattle.std.proofs.lemmas.Iterator.{YieldsList-from_slice}
use Rattle.std.proofs.lemmas.Iterator.Search.{any_from_yields_List}
use Rattle.text_facts.specs.Strings.{equal, reserved}
use Rattle.text_facts.proofs.StringLaws.{one_of_any}
use Rattle.text_facts.proofs.is_reserved.Goals as goal

pub returns : goal.returns
returns c =
    any_from_yields_List (equal c.args.s.now) _ _ _ c.any.ensures.ran (YieldsList-from_slice reserved cc) (λ x b q k. search (rules, tests))
    ∙ one_of_any c.args.s.now reserved
