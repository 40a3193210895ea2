use Rattle.std.proofs.Common.{rules, tests}
use Rattle.std.proofs.lemmas.Iterator.{YieldsList-from_slice}
use Rattle.std.proofs.lemmas.Iterator.Search.{all_from_yields_List}
use lib.Dec.{eqb}
use Rattle.text_scan.specs.Choice.{not}
use Rattle.text_scan.proofs.Lists.{every_told}
use Rattle.text_facts.specs.Strings.{without_space}
use Rattle.text_facts.proofs.without_space.Goals as goal

pub returns : goal.returns
unfolding without_space
returns c = every_told _ _ _ (all_from_yields_List (λ b. not (eqb b 32)) _ _ _ c.all.ensures.ran (YieldsList-from_slice c.args.s.now cc) (λ x b q k. search (rules, tests)))
