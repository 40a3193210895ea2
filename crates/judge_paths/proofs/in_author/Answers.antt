use Rattle.judge_paths.proofs.Children.{of_type, author_registration, author_request, author_neither}
use mathlib.Core.Path.{refl}
use Rattle.judge_paths.specs.Words.{span_of}
use borrow.Author.Rules.{rules}
use Rattle.judge_paths.proofs.in_author.Goals as goal

pub child_in-requires : goal.child_in-requires
unfolding span_of
child_in-requires c = refl

pub child_in-requires-in-Request : goal.child_in-requires-in-Request
unfolding span_of
child_in-requires-in-Request c = refl

pub returns-in-Neither : goal.returns-in-Neither
returns-in-Neither c = search (of_type, author_registration, author_request, author_neither, rules)

pub returns-in-Registration : goal.returns-in-Registration
returns-in-Registration c = search (of_type, author_registration, author_request, author_neither, rules)

pub returns-in-Request : goal.returns-in-Request
returns-in-Request c = search (of_type, author_registration, author_request, author_neither, rules)
