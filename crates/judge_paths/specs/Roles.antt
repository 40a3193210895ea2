-- As what an element is known (document 01, "Known elements"): its role, a number. In a registration an assignedEntity and the organisation in it
-- have a level from 1 to 4: the labeler, the registrant, an establishment, an agent or importer. The labeler of a request is a role of its own.
-- Assumes nothing.
use Rattle.std.specs.Prelude.{ℕ, Bool, ltb}

-- not judged: inside an unlisted element, or inside author without a type; and not known, in a known parent that does not list it
abbrev pub Unknown : ℕ
Unknown = 0

abbrev pub Unlisted : ℕ
Unlisted = 1

-- known
abbrev pub Root : ℕ
Root = 2

abbrev pub Id : ℕ
Id = 3

abbrev pub Code : ℕ
Code = 4

abbrev pub Title : ℕ
Title = 5

abbrev pub Br : ℕ
Br = 6

abbrev pub EffectiveTime : ℕ
EffectiveTime = 7

abbrev pub SetId : ℕ
SetId = 8

abbrev pub VersionNumber : ℕ
VersionNumber = 9

abbrev pub Author : ℕ
Author = 10

abbrev pub Component : ℕ
Component = 11

abbrev pub StructuredBody : ℕ
StructuredBody = 12

abbrev pub Time : ℕ
Time = 13

abbrev pub Entity1 : ℕ
Entity1 = 14

abbrev pub Labeler : ℕ
Labeler = 15

abbrev pub Entity2 : ℕ
Entity2 = 16

abbrev pub Registrant : ℕ
Registrant = 17

abbrev pub Entity3 : ℕ
Entity3 = 18

abbrev pub Establishment : ℕ
Establishment = 19

abbrev pub Entity4 : ℕ
Entity4 = 20

abbrev pub Agent : ℕ
Agent = 21

abbrev pub OrganisationId : ℕ
OrganisationId = 22

abbrev pub OrganisationName : ℕ
OrganisationName = 23

abbrev pub ContactParty : ℕ
ContactParty = 24

abbrev pub ContactPerson : ℕ
ContactPerson = 25

abbrev pub PersonName : ℕ
PersonName = 26

abbrev pub Addr : ℕ
Addr = 27

abbrev pub StreetAddressLine : ℕ
StreetAddressLine = 28

abbrev pub City : ℕ
City = 29

abbrev pub State : ℕ
State = 30

abbrev pub PostalCode : ℕ
PostalCode = 31

abbrev pub Country : ℕ
Country = 32

abbrev pub Telecom : ℕ
Telecom = 33

abbrev pub Performance : ℕ
Performance = 34

abbrev pub ActDefinition : ℕ
ActDefinition = 35

abbrev pub OperationCode : ℕ
OperationCode = 36

abbrev pub RequestEntity : ℕ
RequestEntity = 37

abbrev pub RequestLabeler : ℕ
RequestLabeler = 38

-- all but the first two
abbrev pub is_known_role : ℕ → Bool
is_known_role r = ltb Unlisted r
