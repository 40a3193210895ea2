use mathlib.Core.Path.{◌≡◌}
use Rattle.std.proofs.Common.{rules, tests}
use Rattle.std.specs.List.{find}
use Rattle.xml_attributes.specs.Listed.{listed}
use Rattle.xml_attributes.proofs.Listed.{find_calls, find_answers}
use Rattle.xml_values.proofs.Attributes.{has_name, finds_none, finds_ahead, finds_within, finds_long}
use Rattle.xml_values.proofs.attribute_place.Goals as goal
use Rattle.xml_values.proofs.attribute_place.Goals.{After-find-found}

pub find-found-requires-clause-callable : goal.find-found-requires-clause-callable
find-found-requires-clause-callable c = find_calls (record { s = c.args.s; at = c.name_after-at.result }) (λ x q k. search (rules, tests)) (λ x h. search rules)

found : (c : After-find-found) → c.find-found.result ≡ find (has_name c.args.name.now c.args.s.now) (listed c.args.s.now c.name_after-at.result)
found c = find_answers (record { s = c.args.s; at = c.name_after-at.result }) c.find-found.new.self (has_name c.args.name.now c.args.s.now) c.find-found.ensures.ran (λ x b q k. search (rules, tests))

pub returns-in_default : goal.returns-in_default
returns-in_default c = finds_none _ _ _ _ c.name_after-at.ensures _ (found (goal.at.returns-in_default c).After-find-found) c.in_default.is

pub overflow_sub-a : goal.overflow_sub-a
overflow_sub-a c = finds_ahead _ _ _ _ c.name_after-at.ensures _ (found (goal.at.overflow_sub-a c).After-find-found) _ c.in-Some.is

pub returns-then-a-le-VALUE : goal.returns-then-a-le-VALUE
returns-then-a-le-VALUE c = finds_within _ _ _ _ c.name_after-at.ensures _ (found (goal.at.returns-then-a-le-VALUE c).After-find-found) _ c.in-Some.is c.if-a-le-VALUE.true

pub returns : goal.returns
returns c = finds_long _ _ _ _ c.name_after-at.ensures _ (found (goal.at.returns c).After-find-found) _ c.in-Some.is c.if-a-le-VALUE.false
