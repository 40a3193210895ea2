use Rattle.std.proofs.Common.{rules, tests}
use Rattle.std.proofs.lemmas.Iterator.{YieldsList-from_slice}
use Rattle.std.proofs.lemmas.Iterator.Search.{all_from_yields_List}
use Rattle.text_scan.specs.Bytes.{is_digit}
use Rattle.text_scan.proofs.Lists.{every_told}
use Rattle.text_scan.proofs.all_digits.Goals as goal

pub returns : goal.returns
returns c = every_told _ _ _ (all_from_yields_List is_digit _ _ _ c.all.ensures.ran (YieldsList-from_slice c.args.s.now cc) (λ x b q k. search (rules, tests)))
