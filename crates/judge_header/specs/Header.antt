-- The header of a document: its one id, code, effectiveTime, setId and versionNumber, what they have where 5, 7, 10 and 11 hold, and the type of a document.
-- Assumes nothing.
use Rattle.std.specs.Prelude.{ℕ, Bool, List, ltb}
use Rattle.text_scan.specs.Choice.{pick, ◌or◌, ◌and◌}
use Rattle.text_scan.specs.Bytes.{text}
use Rattle.text_facts.specs.Strings.{is_guid}
use Rattle.text_numbers.specs.Numbers.{version_of}
use Rattle.text_numbers.specs.Days.{is_day}
use Rattle.judge_paths.specs.declared.DocumentType.{DocumentType}
use Rattle.judge_paths.specs.declared.DocumentType.TheVariants.{Neither, Registration, Request}
use Rattle.judge_paths.specs.Roles.{Id, Code, EffectiveTime, SetId, VersionNumber}
use Rattle.judge_draft.specs.Drafts.{Draft, attribute, attribute_is}
use Rattle.judge_below.specs.Chosen.{one_has, only_kid}
use Rattle.judge_header.specs.declared.Header.{Header}
use Rattle.judge_header.specs.declared.Property.{Property}
use Rattle.judge_header.specs.declared.Property.TheVariants.{GuidRoot, OfType, Day, Version}

-- the one id, code, effectiveTime, setId and versionNumber of the root
unfoldable pub header_of : Draft → Header
header_of d =
    record {
      id = only_kid d 0 Id;
      code = only_kid d 0 Code;
      time = only_kid d 0 EffectiveTime;
      set = only_kid d 0 SetId;
      version = only_kid d 0 VersionNumber;
    }

-- ---- what the one child of the root has
-- 5: the root of the id is a GUID; the same of the setId in 10
unfoldable pub guid_root : Draft → ℕ → Bool
guid_root d k = is_guid (attribute d k (text "root"))

unfoldable pub id_holds : Draft → Header → Bool
id_holds d h = one_has h.id (guid_root d)

unfoldable pub set_holds : Draft → Header → Bool
set_holds d h = one_has h.set (guid_root d)

-- 7: the system, and one of the two types
abbrev pub registration_code : List ℕ
registration_code = text "51725-0"

abbrev pub request_code : List ℕ
request_code = text "51726-8"

unfoldable pub code_is : Draft → List ℕ → ℕ → Bool
code_is d type k = attribute_is d (text "codeSystem") (text "2.16.840.1.113883.6.1") k and attribute_is d (text "code") type k

unfoldable pub typed_code : Draft → ℕ → Bool
typed_code d k = code_is d registration_code k or code_is d request_code k

unfoldable pub has_type : Draft → Header → Bool
has_type d h = one_has h.code (typed_code d)

-- the type of a document, which it has when 7 holds
unfoldable pub type_of : Draft → Header → DocumentType
type_of d h =
    pick (one_has h.code (code_is d registration_code)) Registration
    (pick (one_has h.code (code_is d request_code)) Request Neither)

-- 9 and 11
unfoldable pub day_value : Draft → ℕ → Bool
day_value d k = is_day (attribute d k (text "value"))

unfoldable pub version_value : Draft → ℕ → Bool
version_value d k = ltb 0 (version_of (attribute d k (text "value")))

unfoldable pub version_holds : Draft → Header → Bool
version_holds d h = one_has h.version (version_value d)

-- these properties by the names that the code has for them
unfoldable pub has_property : Draft → Property → ℕ → Bool
has_property d GuidRoot k = guid_root d k
has_property d OfType k = typed_code d k
has_property d Day k = day_value d k
has_property d Version k = version_value d k
