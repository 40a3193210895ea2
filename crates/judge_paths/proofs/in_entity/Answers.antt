use Rattle.judge_paths.proofs.Children.{of_parent, entity_2_words, entity_3_words, entity_4_words, performance_words, act_definition_words, no_entity}
use mathlib.Core.Path.{refl}
use Rattle.judge_paths.specs.Words.{span_of}
use borrow.Author.Rules.{rules}
use Rattle.judge_paths.proofs.in_entity.Goals as goal

pub child_in-requires : goal.child_in-requires
unfolding span_of
child_in-requires c = refl

pub returns-then-parent-eq-ENTITY_2 : goal.returns-then-parent-eq-ENTITY_2
returns-then-parent-eq-ENTITY_2 c = search (of_parent, entity_2_words, entity_3_words, entity_4_words, performance_words, act_definition_words, no_entity, rules)

pub child_in-requires-then-parent-eq-ENTITY_3 : goal.child_in-requires-then-parent-eq-ENTITY_3
unfolding span_of
child_in-requires-then-parent-eq-ENTITY_3 c = refl

pub returns-then-parent-eq-ENTITY_3 : goal.returns-then-parent-eq-ENTITY_3
returns-then-parent-eq-ENTITY_3 c = search (of_parent, entity_2_words, entity_3_words, entity_4_words, performance_words, act_definition_words, no_entity, rules)

pub child_in-requires-then-parent-eq-ENTITY_4 : goal.child_in-requires-then-parent-eq-ENTITY_4
unfolding span_of
child_in-requires-then-parent-eq-ENTITY_4 c = refl

pub returns-then-parent-eq-ENTITY_4 : goal.returns-then-parent-eq-ENTITY_4
returns-then-parent-eq-ENTITY_4 c = search (of_parent, entity_2_words, entity_3_words, entity_4_words, performance_words, act_definition_words, no_entity, rules)

pub child_in-requires-then-parent-eq-PERFORMANCE : goal.child_in-requires-then-parent-eq-PERFORMANCE
unfolding span_of
child_in-requires-then-parent-eq-PERFORMANCE c = refl

pub returns-then-parent-eq-PERFORMANCE : goal.returns-then-parent-eq-PERFORMANCE
returns-then-parent-eq-PERFORMANCE c = search (of_parent, entity_2_words, entity_3_words, entity_4_words, performance_words, act_definition_words, no_entity, rules)

pub child_in-requires-then-parent-eq-ACT_DEFINITION : goal.child_in-requires-then-parent-eq-ACT_DEFINITION
unfolding span_of
child_in-requires-then-parent-eq-ACT_DEFINITION c = refl

pub returns-then-parent-eq-ACT_DEFINITION : goal.returns-then-parent-eq-ACT_DEFINITION
returns-then-parent-eq-ACT_DEFINITION c = search (of_parent, entity_2_words, entity_3_words, entity_4_words, performance_words, act_definition_words, no_entity, rules)

pub returns : goal.returns
returns c = search (of_parent, entity_2_words, entity_3_words, entity_4_words, performance_words, act_definition_words, no_entity, rules)
