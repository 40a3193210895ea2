-- Procedures 23 and 26 to 30 (document 01, "Contacts"): the contacts and telecoms.
-- Assumes nothing.
use Rattle.std.specs.Prelude.{ℕ, Bool, leb, length}
use Rattle.text_scan.specs.Choice.{◌or◌, ◌and◌, not}
use Rattle.text_scan.specs.Bytes.{text}
use Rattle.text_telephones.specs.Telephones.{is_telephone}
use Rattle.judge_paths.specs.Roles.{Registrant, Establishment, Agent, ContactParty, ContactPerson, PersonName, Telecom, RequestLabeler}
use Rattle.judge_tests.specs.declared.Test.TheVariants.{Telephone, Mail}
use Rattle.judge_draft.specs.Drafts.{Draft, parent, is, attribute, is_empty, value_begins}
use Rattle.judge_below.specs.Chosen.{chosen, wanted, kids, one, one_has, is_the, only_kid}
use Rattle.judge_addresses.specs.Addresses.{one_said}

-- 23 and 30 are for the labeler of a request, registrants and establishments
unfoldable pub has_contact : Draft → ℕ → Bool
has_contact d n = is d RequestLabeler n or is d Registrant n or is d Establishment n

-- 23: one contactParty
unfoldable pub contact_holds : Draft → ℕ → Bool
contact_holds d n = one (only_kid d n ContactParty)

unfoldable pub breaks23 : Draft → ℕ → Bool
breaks23 d n = has_contact d n and not (contact_holds d n)

-- ---- telecoms
-- each contactParty and level 4 organisation has them
unfoldable pub has_telecoms : Draft → ℕ → Bool
has_telecoms d n = is d ContactParty n or is d Agent n

unfoldable pub breaks26 : Draft → ℕ → Bool
breaks26 d n = has_telecoms d n and not (leb 2 (length (kids d n Telecom)))

unfoldable pub breaks27 : Draft → ℕ → Bool
breaks27 d n = has_telecoms d n and is_empty (chosen d (wanted Telecom 1 Telephone) n)

unfoldable pub breaks28 : Draft → ℕ → Bool
breaks28 d n = has_telecoms d n and is_empty (chosen d (wanted Telecom 1 Mail) n)

unfoldable pub breaks29 : Draft → ℕ → Bool
breaks29 d n = is d Telecom n and value_begins d (text "tel:") n and not (is_telephone (attribute d n (text "value")))

-- ---- 30: one contactPerson with one non-empty name; at the contactParty
unfoldable pub person_holds : Draft → ℕ → Bool
person_holds d n = one_has (only_kid d n ContactPerson) (λ k. one_said d k PersonName)

-- if 23 holds and n is that contactParty
unfoldable pub breaks30 : Draft → ℕ → Bool
breaks30 d n =
    is d ContactParty n and has_contact d (parent d n) and contact_holds d (parent d n)
    and is_the (only_kid d (parent d n) ContactParty) n and not (person_holds d n)
