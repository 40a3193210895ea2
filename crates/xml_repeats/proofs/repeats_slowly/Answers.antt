use mathlib.Core.Path.{refl}
use Prim.Native.Nat.{◌+◌}
use Rattle.std.proofs.Common.{rules, tests}
use Rattle.xml_attributes.specs.Chains.{items}
use Rattle.xml_attributes.specs.Parts.{attributes}
use Rattle.xml_attributes.proofs.Listed.{any_calls, any_answers}
use Rattle.xml_attributes.proofs.Some.{named_again}
use Rattle.xml_repeats.proofs.repeats_slowly.Goals as goal

pub any-requires-clause-callable : goal.any-requires-clause-callable
any-requires-clause-callable c = any_calls (record { s = c.args.s; at = c.args.at }) (λ x q k. search (rules, tests)) (λ x h. search rules)

pub returns : goal.returns
returns c =
    let s = c.args.s in
    any_answers (record { s = s; at = c.args.at }) c.any.new.self (λ a. named_again s.now a.at (items (attributes s.now (a.value_end + 1)))) (named_again s.now) c.any.ensures.ran (λ x b q k. search (rules, tests)) (λ a h. refl)
