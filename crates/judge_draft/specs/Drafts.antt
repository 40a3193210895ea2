-- A draft that was read, in the words of the procedures: its elements by number, the role of each, its attributes and its text. An
-- absent attribute or text is the empty string, so that an empty one is a missing one.
-- Assumes nothing.
use Rattle.std.specs.Prelude.{ℕ, ◌*◌, ◌/◌, Bool, List, eqb, length, get_or}
use Rattle.text_scan.specs.Bytes.{text}
use Rattle.text_facts.specs.Strings.{equal, begins_with}
use Rattle.xml_steps.specs.Reading.{parent_of, first_of, after_of}
use Rattle.xml_values.specs.Attributes.{attribute_of}
use Rattle.xml_texts.specs.Texts.{text_of}
use Rattle.judge_paths.specs.Roles.{is_known_role}
use Rattle.judge_draft.specs.Below.{all_below}
use Rattle.judge_draft.specs.Searched.{searched}
use Rattle.judge_draft.specs.declared.Draft.{Draft as LentDraft}

-- the document; its notes: for each element its role, its parent, its first byte and the byte after its end; and the elements so many levels below
-- an element that have a property, in document order
pub record Draft : Type 0 where
  pub bytes : List ℕ
  pub notes : List ℕ
  pub below : ℕ → (ℕ → Bool) → ℕ → List ℕ

-- of a document with these notes: below an element is all that stands there
unfoldable pub full_draft : List ℕ → List ℕ → Draft
full_draft bytes notes = record { bytes = bytes; notes = notes; below = all_below notes }

-- as the code has it, which looks for what stands below an element. Where the notes are in document order it is the full draft
-- (law `draft_full`, `judge_type/proofs/Ordered`)
unfoldable pub draft : List ℕ → List ℕ → Draft
draft bytes notes = record { bytes = bytes; notes = notes; below = searched notes }

-- the draft that is lent
abbrev pub lent : LentDraft → Draft
lent d = draft d.document.now d.notes.now

-- the number of elements
abbrev pub element_count : Draft → ℕ
element_count d = length d.notes / 4

abbrev pub role : Draft → ℕ → ℕ
role d n = get_or d.notes (4 * n) 0

abbrev pub parent : Draft → ℕ → ℕ
parent d n = parent_of d.notes n

abbrev pub first : Draft → ℕ → ℕ
first d n = first_of d.notes n

abbrev pub after : Draft → ℕ → ℕ
after d n = after_of d.notes n

-- element n has this role
unfoldable pub is : Draft → ℕ → ℕ → Bool
is d r n = eqb (role d n) r

-- element n is known
unfoldable pub is_known : Draft → ℕ → Bool
is_known d n = is_known_role (role d n)

-- what the attribute of this name says, and what the element's text says
unfoldable pub attribute : Draft → ℕ → List ℕ → List ℕ
attribute d n name = attribute_of d.bytes (first d n) name

unfoldable pub said : Draft → ℕ → List ℕ
said d n = text_of d.bytes (first d n)

abbrev pub is_empty : List ℕ → Bool
is_empty s = eqb (length s) 0

abbrev pub attribute_is : Draft → List ℕ → List ℕ → ℕ → Bool
attribute_is d name value k = equal (attribute d k name) value

abbrev pub value_begins : Draft → List ℕ → ℕ → Bool
value_begins d start k = begins_with start (attribute d k (text "value"))
