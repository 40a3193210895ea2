use Rattle.std.proofs.Common.{rules, tests}
use Rattle.std.proofs.lemmas.Iterator.{YieldsList-from_slice, YieldsList-from_zip}
use Rattle.std.proofs.lemmas.Iterator.Search.{all_from_yields_List}
use mathlib.Core.Path.{◌∙◌}
use borrow.Author.Tests.{ne_eqb}
use Rattle.text_scan.proofs.Lists.{pairs_zip, pairs_other}
use Rattle.text_facts.specs.Strings.{guid_byte}
use Rattle.text_facts.proofs.in_guid_form.Goals as goal

pub returns-then-s-form : goal.returns-then-s-form
returns-then-s-form c =
    all_from_yields_List (λ p. guid_byte p.0 p.1) c.all.new.self _ _ c.all.ensures.ran
    (YieldsList-from_zip {s = c.zip.result} (YieldsList-from_slice c.args.s.now cc) (YieldsList-from_slice c.args.form.now cc)) (λ x b q k. search (rules, tests))
    ∙ pairs_zip _ _ _ c.if-s-form.true

pub returns-else-s-form : goal.returns-else-s-form
returns-else-s-form c = ne_eqb _ _ c.if-s-form.false ∙ pairs_other _ _ _ c.if-s-form.false
