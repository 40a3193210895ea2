use mathlib.Core.List.{[], ◌∷◌}
use Rattle.std.proofs.Common.{rules, tests}
use Rattle.xml_attributes.proofs.Listed.{any_calls, any_answers}
use Rattle.xml_values.specs.Attributes.{is_other}
use Rattle.xml_values.proofs.Attributes.{other, other_here, others_told}
use Rattle.xml_values.proofs.has_other_attribute.Goals as goal

pub any-requires-clause-callable : goal.any-requires-clause-callable
any-requires-clause-callable c = any_calls (record { s = c.args.s; at = c.name_after-at.result }) (λ x q k. search (rules, tests)) (λ x h. search rules)

pub returns : goal.returns
returns c =
    let s = c.args.s in
    let names = c.args.x.now ∷ c.args.y.now ∷ c.args.z.now ∷ [] in
    others_told names s.now c.args.first c.name_after-at.result _ c.name_after-at.ensures
    (any_answers (record { s = s; at = c.name_after-at.result }) c.any.new.self (other names s.now) (λ b _. is_other names s.now b) c.any.ensures.ran (λ x b q k. search (rules, tests)) (λ a h. other_here names s.now a h))
