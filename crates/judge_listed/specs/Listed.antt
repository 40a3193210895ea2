-- Procedures 1 to 4 (document 01, "From 002 section 1.1 to 1.3"): the root, and the elements and attributes that are known.
-- Assumes nothing.
use Rattle.std.specs.Prelude.{ℕ, ◌+◌, Bool, List}
use Rattle.text_scan.specs.Choice.{◌and◌, not}
use Rattle.text_scan.specs.Bytes.{text}
use Rattle.text_facts.specs.Strings.{equal, without_space}
use Rattle.xml_names.specs.Names.{name_at}
use Rattle.xml_values.specs.Attributes.{has_other}
use Rattle.judge_paths.specs.Roles.{Unlisted, Root}
use Rattle.judge_paths.specs.Attributes.{attribute_table, listed_names}
use Rattle.judge_draft.specs.Drafts.{Draft, role, first, is, is_known, attribute, attribute_is}

-- 1: as 002 section 1.2 prints them
unfoldable pub is_named_document : Draft → ℕ → Bool
is_named_document d n = equal (name_at d.bytes (first d n + 1)) (text "document")

unfoldable pub has_schema : Draft → ℕ → Bool
has_schema d n =
    attribute_is d (text "xmlns:xsi") (text "http://www.w3.org/2001/XMLSchema-instance") n
    and attribute_is d (text "xsi:schemaLocation") (text "urn:hl7-org:v3 http://www.accessdata.fda.gov/spl/schema/spl.xsd") n

unfoldable pub is_declared : Draft → ℕ → Bool
is_declared d n = attribute_is d (text "xmlns") (text "urn:hl7-org:v3") n and has_schema d n

unfoldable pub root_is_right : Draft → ℕ → Bool
root_is_right d n = is_named_document d n and is_declared d n

unfoldable pub breaks1 : Draft → ℕ → Bool
breaks1 d n = is d Root n and not (root_is_right d n)

unfoldable pub breaks2 : Draft → ℕ → Bool
breaks2 d n = is d Unlisted n

-- the attributes that element n lists
abbrev pub lists_at : Draft → ℕ → List (List ℕ)
lists_at d n = listed_names (role d n) attribute_table

-- element n has an attribute that is not empty and has none of the names
unfoldable pub other_than : Draft → ℕ → List (List ℕ) → Bool
other_than d n names = has_other d.bytes (first d n) names

unfoldable pub breaks3 : Draft → ℕ → Bool
breaks3 d n = is_known d n and other_than d n (lists_at d n)

-- the code or the extension of element n has a space
abbrev pub has_space : Draft → ℕ → Bool
has_space d n = not (without_space (attribute d n (text "code")) and without_space (attribute d n (text "extension")))

unfoldable pub breaks4 : Draft → ℕ → Bool
breaks4 d n = is_known d n and has_space d n
