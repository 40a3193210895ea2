-- What is kept of each element beside its row, so that no tag is walked twice. For the code's own functions: it changes no answer
-- (law `draft_full`, `judge_type/proofs/Ordered`). The notes of a draft are one run: a row of four numbers for each element, and behind all rows nine
-- numbers for each: where its text stands, where the three attributes that its role lists stand, and whether it has no other.
-- Assumes nothing.
use Rattle.std.specs.Prelude.{ℕ, ◌+◌, ◌-◌, ◌*◌, ◌/◌, Bool, true, false, List, [], ◌∷◌, ◌++◌, eqb, leb, ltb, length, get_or, take, Option, None, Some}
use Rattle.text_scan.specs.Choice.{pick, ◌and◌}
use Rattle.text_facts.specs.Strings.{equal}
use Rattle.xml_reader.specs.Limits.{document_limit}
use Rattle.xml_references.specs.Decoded.{part}
use Rattle.xml_steps.specs.Reading.{first_of}
use Rattle.xml_values.specs.declared.Place.{Place}
use Rattle.xml_values.specs.Attributes.{attribute_of, has_other}
use Rattle.xml_values.specs.Views.{plain_of}
use Rattle.xml_listed.specs.declared.Listed.{Listed}
use Rattle.xml_listed.specs.Listed.{listed_in}
use Rattle.xml_texts.specs.Texts.{text_place, text_of}
use Rattle.judge_paths.specs.Roles.{OrganisationName, PersonName, StreetAddressLine, City, State, PostalCode, Country, is_known_role}
use Rattle.judge_paths.specs.Attributes.{attribute_table, is_role, listed_names}
use Rattle.xml_values.specs.Places.{from_to}

-- ---- the run
abbrev pub kept_width : ℕ
kept_width = 9

abbrev pub note_width : ℕ
note_width = 13

unfoldable pub rows_in : List ℕ → List ℕ
rows_in w = take (4 * (length w / note_width)) w

-- the i-th number that is kept of element n
unfoldable pub kept_in : List ℕ → ℕ → ℕ → ℕ
kept_in w n i = pick (ltb n (length w / note_width)) (get_or w (4 * (length w / note_width) + kept_width * n + i) 0) 0

-- ---- what is kept
-- a place as two numbers: its first byte, and one more than the place after it; none as 0 and 0
abbrev pub is_kept : ℕ → ℕ → Bool
is_kept a e = leb a e and leb e document_limit

abbrev pub first_number : Option Place → ℕ
first_number (Some p) = pick (is_kept p.first p.after) p.first 0
first_number None = 0

abbrev pub after_number : Option Place → ℕ
after_number (Some p) = pick (is_kept p.first p.after) (p.after + 1) 0
after_number None = 0

-- the texts that a procedure asks for
abbrev pub text_roles : List ℕ
text_roles = OrganisationName ∷ PersonName ∷ StreetAddressLine ∷ City ∷ State ∷ PostalCode ∷ Country ∷ []

unfoldable pub text_kept : List ℕ → ℕ → ℕ → Option Place
text_kept s first r = pick (is_role r text_roles) (plain_of s (text_place s first)) None

-- the three names that a role lists, empty ones for those that it has not
pub record Three : Type 0 where
  pub x : List ℕ
  pub y : List ℕ
  pub z : List ℕ

abbrev pub three : List (List ℕ) → Three
three [] = record { x = []; y = []; z = [] }
three (a ∷ []) = record { x = a; y = []; z = [] }
three (a ∷ b ∷ []) = record { x = a; y = b; z = [] }
three (a ∷ b ∷ c ∷ more) = record { x = a; y = b; z = c }

abbrev pub names_of : ℕ → Three
names_of r = three (listed_names r attribute_table)

-- of an element that is not known, nothing
abbrev pub nothing_listed : Listed
nothing_listed = record { x = None; y = None; z = None; other = true }

abbrev pub listed_by : List ℕ → ℕ → Three → Listed
listed_by s first t = listed_in s first t.x t.y t.z

unfoldable pub listed_kept : List ℕ → ℕ → ℕ → Listed
listed_kept s first r = pick (is_known_role r) (listed_by s first (names_of r)) nothing_listed

abbrev pub flag_of : Bool → ℕ
flag_of other = pick other 0 1

abbrev pub listed_numbers : Listed → List ℕ
listed_numbers l =
    first_number l.x ∷ after_number l.x ∷ first_number l.y ∷ after_number l.y ∷ first_number l.z ∷ after_number l.z ∷ flag_of l.other ∷ []

abbrev pub place_numbers : Option Place → List ℕ
place_numbers p = first_number p ∷ after_number p ∷ []

-- of the element that begins at `first` and has this role
unfoldable pub kept_of : List ℕ → ℕ → ℕ → List ℕ
kept_of s first r = place_numbers (text_kept s first r) ++ listed_numbers (listed_kept s first r)

-- ---- what is held of it
-- two numbers as a place in the document
unfoldable pub standing : List ℕ → ℕ → ℕ → Option Place
standing s a f = pick (ltb a f and leb (f - 1) (length s)) (from_to a (f - 1)) None

unfoldable pub text_held : List ℕ → List ℕ → ℕ → Option Place
text_held s w n = standing s (kept_in w n 0) (kept_in w n 1)

-- which of three names it is; 3 for none of them
unfoldable pub which_of : List ℕ → Three → ℕ
which_of name t = pick (equal name t.x) 0 (pick (equal name t.y) 1 (pick (equal name t.z) 2 3))

abbrev pub role_in : List ℕ → ℕ → ℕ
role_in w n = get_or (rows_in w) (4 * n) 0

abbrev pub first_in : List ℕ → ℕ → ℕ
first_in w n = first_of (rows_in w) n

-- element n has no attribute that its role does not list
abbrev pub no_other : List ℕ → ℕ → Bool
no_other w n = eqb (kept_in w n 8) 1

-- where the attribute of this name stands: one that is not listed says nothing where there is no other
unfoldable pub attribute_held : List ℕ → List ℕ → ℕ → List ℕ → Option Place
attribute_held s w n name =
    pick (ltb (which_of name (names_of (role_in w n))) 3)
    (standing s (kept_in w n (2 + 2 * which_of name (names_of (role_in w n)))) (kept_in w n (3 + 2 * which_of name (names_of (role_in w n)))))
    (pick (no_other w n) (from_to 0 0) None)

-- ---- what it says: the bytes there; where nothing is held, what is read of the document
abbrev pub held_or : List ℕ → Option Place → List ℕ → List ℕ
held_or s (Some p) v = part s p.first p.after
held_or s None v = v

unfoldable pub value_in : List ℕ → List ℕ → ℕ → List ℕ → List ℕ
value_in s w n name = held_or s (attribute_held s w n name) (attribute_of s (first_in w n) name)

unfoldable pub words_in : List ℕ → List ℕ → ℕ → List ℕ
words_in s w n = held_or s (text_held s w n) (text_of s (first_in w n))

unfoldable pub other_in : List ℕ → List ℕ → ℕ → Bool
other_in s w n = pick (no_other w n) false (has_other s (first_in w n) (listed_names (role_in w n) attribute_table))
