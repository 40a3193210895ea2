-- Procedures 24 and 25 (document 01, "Contacts"): addresses.
-- Assumes nothing.
use Rattle.std.specs.Prelude.{ℕ, Bool}
use Rattle.text_scan.specs.Choice.{◌or◌, ◌and◌, not}
use Rattle.text_scan.specs.Bytes.{text}
use Rattle.text_facts.specs.Strings.{equal}
use Rattle.judge_paths.specs.Roles.{Establishment, ContactParty, Addr, StreetAddressLine, City, State, PostalCode, Country}
use Rattle.judge_tests.specs.declared.Test.TheVariants.{Empty}
use Rattle.judge_draft.specs.Drafts.{Draft, parent, is, said, is_empty}
use Rattle.judge_below.specs.Chosen.{chosen, wanted, kids, one_has, is_the, only_kid}
use Rattle.judge_organisations.specs.Organisations.{is_said}

-- one child of the role, not empty
unfoldable pub one_said : Draft → ℕ → ℕ → Bool
one_said d n r = one_has (only_kid d n r) (is_said d)

-- one or more streetAddressLine, none empty
unfoldable pub lines_said : Draft → ℕ → Bool
lines_said d a = not (is_empty (kids d a StreetAddressLine)) and is_empty (chosen d (wanted StreetAddressLine 1 Empty) a)

-- one city, one country, one or more streetAddressLine, none empty
unfoldable pub is_address : Draft → ℕ → Bool
is_address d a = one_said d a City and one_said d a Country and lines_said d a

-- 24: each contactParty and establishment has one such addr
unfoldable pub address_holds : Draft → ℕ → Bool
address_holds d n = one_has (only_kid d n Addr) (is_address d)

unfoldable pub breaks24 : Draft → ℕ → Bool
breaks24 d n = (is d ContactParty n or is d Establishment n) and not (address_holds d n)

-- the country of an address
unfoldable pub is_usa : Draft → ℕ → Bool
is_usa d a = one_has (only_kid d a Country) (λ k. equal (said d k) (text "USA"))

-- 25: if 24 holds and n is that addr; at addr
unfoldable pub breaks25 : Draft → ℕ → Bool
breaks25 d n =
    is d Addr n and address_holds d (parent d n) and is_the (only_kid d (parent d n) Addr) n and is_usa d n
    and not (one_said d n State and one_said d n PostalCode)
