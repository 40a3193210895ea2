use Rattle.judge_paths.proofs.Children.{of_parent, registrant_words, establishment_words, agent_words, no_organisation}
use mathlib.Core.Path.{refl}
use Rattle.judge_paths.specs.Words.{span_of}
use borrow.Author.Rules.{rules}
use Rattle.judge_paths.proofs.in_organisation.Goals as goal

pub child_in-requires : goal.child_in-requires
unfolding span_of
child_in-requires c = refl

pub returns-then-parent-eq-REGISTRANT : goal.returns-then-parent-eq-REGISTRANT
returns-then-parent-eq-REGISTRANT c = search (of_parent, registrant_words, establishment_words, agent_words, no_organisation, rules)

pub child_in-requires-then-parent-eq-ESTABLISHMENT : goal.child_in-requires-then-parent-eq-ESTABLISHMENT
unfolding span_of
child_in-requires-then-parent-eq-ESTABLISHMENT c = refl

pub returns-then-parent-eq-ESTABLISHMENT : goal.returns-then-parent-eq-ESTABLISHMENT
returns-then-parent-eq-ESTABLISHMENT c = search (of_parent, registrant_words, establishment_words, agent_words, no_organisation, rules)

pub child_in-requires-then-parent-eq-AGENT : goal.child_in-requires-then-parent-eq-AGENT
unfolding span_of
child_in-requires-then-parent-eq-AGENT c = refl

pub returns-then-parent-eq-AGENT : goal.returns-then-parent-eq-AGENT
returns-then-parent-eq-AGENT c = search (of_parent, registrant_words, establishment_words, agent_words, no_organisation, rules)

pub returns : goal.returns
returns c = search (of_parent, registrant_words, establishment_words, agent_words, no_organisation, rules)
