use mathlib.Core.Path.{refl}
use Rattle.std.proofs.Common.{rules, tests}
use Rattle.xml_names.specs.Names.{name_is}
use Rattle.xml_attributes.proofs.Listed.{any_answers}
use Rattle.xml_repeats.proofs.named_from.Goals as goal

pub returns : goal.returns
returns c =
    let s = c.args.s in
    let t = c.args.t.now in
    any_answers (record { s = s; at = c.args.at }) c.any.new.self (λ a. name_is t s.now a.at) (λ b _. name_is t s.now b) c.any.ensures.ran (λ x b q k. search (rules, tests)) (λ a h. refl)
