use Rattle.judge_paths.proofs.Children.{of_parent, root_words, title_words, component_words, no_upper}
use mathlib.Core.Path.{refl}
use Rattle.judge_paths.specs.Words.{span_of}
use borrow.Author.Rules.{rules}
use Rattle.judge_paths.proofs.in_upper.Goals as goal

pub child_in-requires : goal.child_in-requires
unfolding span_of
child_in-requires c = refl

pub returns-then-parent-eq-ROOT : goal.returns-then-parent-eq-ROOT
returns-then-parent-eq-ROOT c = search (of_parent, root_words, title_words, component_words, no_upper, rules)

pub child_in-requires-then-parent-eq-TITLE : goal.child_in-requires-then-parent-eq-TITLE
unfolding span_of
child_in-requires-then-parent-eq-TITLE c = refl

pub returns-then-parent-eq-TITLE : goal.returns-then-parent-eq-TITLE
returns-then-parent-eq-TITLE c = search (of_parent, root_words, title_words, component_words, no_upper, rules)

pub child_in-requires-then-parent-eq-COMPONENT : goal.child_in-requires-then-parent-eq-COMPONENT
unfolding span_of
child_in-requires-then-parent-eq-COMPONENT c = refl

pub returns-then-parent-eq-COMPONENT : goal.returns-then-parent-eq-COMPONENT
returns-then-parent-eq-COMPONENT c = search (of_parent, root_words, title_words, component_words, no_upper, rules)

pub returns-then-parent-eq-AUTHOR : goal.returns-then-parent-eq-AUTHOR
returns-then-parent-eq-AUTHOR c = search (of_parent, root_words, title_words, component_words, no_upper, rules)

pub returns : goal.returns
returns c = search (of_parent, root_words, title_words, component_words, no_upper, rules)
