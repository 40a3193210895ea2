use Rattle.judge_paths.proofs.Children.{of_parent, contact_party_words, contact_person_words, addr_words, no_contact}
use mathlib.Core.Path.{refl}
use Rattle.judge_paths.specs.Words.{span_of}
use borrow.Author.Rules.{rules}
use Rattle.judge_paths.proofs.in_contact.Goals as goal

pub child_in-requires : goal.child_in-requires
unfolding span_of
child_in-requires c = refl

pub returns-then-parent-eq-CONTACT_PARTY : goal.returns-then-parent-eq-CONTACT_PARTY
returns-then-parent-eq-CONTACT_PARTY c = search (of_parent, contact_party_words, contact_person_words, addr_words, no_contact, rules)

pub child_in-requires-then-parent-eq-CONTACT_PERSON : goal.child_in-requires-then-parent-eq-CONTACT_PERSON
unfolding span_of
child_in-requires-then-parent-eq-CONTACT_PERSON c = refl

pub returns-then-parent-eq-CONTACT_PERSON : goal.returns-then-parent-eq-CONTACT_PERSON
returns-then-parent-eq-CONTACT_PERSON c = search (of_parent, contact_party_words, contact_person_words, addr_words, no_contact, rules)

pub child_in-requires-then-parent-eq-ADDR : goal.child_in-requires-then-parent-eq-ADDR
unfolding span_of
child_in-requires-then-parent-eq-ADDR c = refl

pub returns-then-parent-eq-ADDR : goal.returns-then-parent-eq-ADDR
returns-then-parent-eq-ADDR c = search (of_parent, contact_party_words, contact_person_words, addr_words, no_contact, rules)

pub returns : goal.returns
returns c = search (of_parent, contact_party_words, contact_person_words, addr_words, no_contact, rules)
