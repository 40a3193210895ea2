use Rattle.judge_paths.proofs.Children.{of_parent, request_entity_words, request_labeler_words, entity_1_words, labeler_words, no_labeler}
use mathlib.Core.Path.{refl}
use Rattle.judge_paths.specs.Words.{span_of}
use borrow.Author.Rules.{rules}
use Rattle.judge_paths.proofs.in_labeler.Goals as goal

pub child_in-requires : goal.child_in-requires
unfolding span_of
child_in-requires c = refl

pub returns-then-parent-eq-REQUEST_ENTITY : goal.returns-then-parent-eq-REQUEST_ENTITY
returns-then-parent-eq-REQUEST_ENTITY c = search (of_parent, request_entity_words, request_labeler_words, entity_1_words, labeler_words, no_labeler, rules)

pub child_in-requires-then-parent-eq-REQUEST_LABELER : goal.child_in-requires-then-parent-eq-REQUEST_LABELER
unfolding span_of
child_in-requires-then-parent-eq-REQUEST_LABELER c = refl

pub returns-then-parent-eq-REQUEST_LABELER : goal.returns-then-parent-eq-REQUEST_LABELER
returns-then-parent-eq-REQUEST_LABELER c = search (of_parent, request_entity_words, request_labeler_words, entity_1_words, labeler_words, no_labeler, rules)

pub child_in-requires-then-parent-eq-ENTITY_1 : goal.child_in-requires-then-parent-eq-ENTITY_1
unfolding span_of
child_in-requires-then-parent-eq-ENTITY_1 c = refl

pub returns-then-parent-eq-ENTITY_1 : goal.returns-then-parent-eq-ENTITY_1
returns-then-parent-eq-ENTITY_1 c = search (of_parent, request_entity_words, request_labeler_words, entity_1_words, labeler_words, no_labeler, rules)

pub child_in-requires-then-parent-eq-LABELER : goal.child_in-requires-then-parent-eq-LABELER
unfolding span_of
child_in-requires-then-parent-eq-LABELER c = refl

pub returns-then-parent-eq-LABELER : goal.returns-then-parent-eq-LABELER
returns-then-parent-eq-LABELER c = search (of_parent, request_entity_words, request_labeler_words, entity_1_words, labeler_words, no_labeler, rules)

pub returns : goal.returns
returns c = search (of_parent, request_entity_words, request_labeler_words, entity_1_words, labeler_words, no_labeler, rules)
