use Rattle.judge_paths.proofs.Children.{lists_contact, lists_entity, lists_organisation, lists_labeler, lists_upper}
use borrow.Author.Rules.{rules}
use Rattle.judge_paths.proofs.child_named.Goals as goal

pub returns-then-contact-ne-UNLISTED : goal.returns-then-contact-ne-UNLISTED
returns-then-contact-ne-UNLISTED c = search (lists_contact, lists_entity, lists_organisation, lists_labeler, lists_upper, rules)

pub returns-then-entity-ne-UNLISTED : goal.returns-then-entity-ne-UNLISTED
returns-then-entity-ne-UNLISTED c = search (lists_contact, lists_entity, lists_organisation, lists_labeler, lists_upper, rules)

pub returns-then-organisation-ne-UNLISTED : goal.returns-then-organisation-ne-UNLISTED
returns-then-organisation-ne-UNLISTED c = search (lists_contact, lists_entity, lists_organisation, lists_labeler, lists_upper, rules)

pub returns-then-labeler-ne-UNLISTED : goal.returns-then-labeler-ne-UNLISTED
returns-then-labeler-ne-UNLISTED c = search (lists_contact, lists_entity, lists_organisation, lists_labeler, lists_upper, rules)

pub returns : goal.returns
returns c = search (lists_contact, lists_entity, lists_organisation, lists_labeler, lists_upper, rules)
