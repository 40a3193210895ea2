-- A start tag or an empty-element tag (XML 1.0, productions [40] and [44]): '<' and the element's name; then, each behind white space, the attributes;
-- then white space, if any, and '>' or "/>". No two attributes have the same name. A tag that is malformed anywhere is refused with 7,
-- one that is well formed and passes a limit with 8.
-- Assumes nothing.
use Rattle.std.specs.Prelude.{is_err, ℕ, ◌+◌, ◌-◌, Bool, List, eqb, ltb, length, get_or, Result, Ok, Err}
use Rattle.refusals.specs.declared.Reason.TheVariants.{Malformed, PastLimit}
use Rattle.refusals.specs.declared.Reason.{Reason}
use Prim.Native.Char.{code}
use Rattle.text_scan.specs.Choice.{pick, ◌and◌, ◌or◌}
use Rattle.xml_reader.specs.Limits.{name_limit, attributes_limit}
use Rattle.xml_attributes.specs.declared.Tag.{Tag}
use Rattle.xml_attributes.specs.declared.Tag.TheVariants.{Start, Empty}
use Rattle.xml_names.specs.ElementNames.{element_end}
use Rattle.xml_attributes.specs.Attributes.{is_long}
use Rattle.xml_attributes.specs.Chains.{items, ending}
use Rattle.xml_attributes.specs.Parts.{attributes, repeated, some_attribute}

-- one of them passes a limit
abbrev pub some_long : List ℕ → List ℕ → Bool
some_long s bs = some_attribute (λ b _. is_long s b) bs

-- a limit is passed by an element name of m bytes, by the number of attributes, or by one of them
abbrev pub past_limit : List ℕ → ℕ → List ℕ → Bool
past_limit s m bs = ltb name_limit m or ltb attributes_limit (length bs) or some_long s bs

-- the answer for a tag with an element name of m bytes, attributes at the positions bs, that ends with t
unfoldable pub tag_answer : List ℕ → ℕ → List ℕ → Result Tag Reason → Result Tag Reason
tag_answer s m bs t = pick (is_err t or repeated s bs) (Err Malformed) (pick (past_limit s m bs) (Err PastLimit) t)

-- ---- the whole
-- the tag at position `at`, whose element name ends at n
unfoldable pub tag_to : List ℕ → ℕ → ℕ → Result Tag Reason
tag_to s at n =
    pick (eqb (get_or s at 0) (code "<") and ltb (at + 1) n)
    (tag_answer s (n - (at + 1)) (items (attributes s n)) (ending (attributes s n)))
    (Err Malformed)

abbrev pub tag_at : List ℕ → ℕ → Result Tag Reason
tag_at s at = tag_to s at (element_end s (at + 1))

-- ---- for whoever asks only for a tag without fault
abbrev pub faultless : Result Tag Reason → Result Tag Reason
faultless (Ok tag) = Ok tag
faultless (Err reason) = Err Malformed

-- the tag at position `at` where it has no fault; any other is refused with 7
abbrev pub opening_at : List ℕ → ℕ → Result Tag Reason
opening_at s at = faultless (tag_at s at)
