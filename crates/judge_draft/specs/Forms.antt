-- The forms that a procedure asks of a value, by the names that the code has for them.
-- Assumes nothing.
use Rattle.std.specs.Prelude.{ℕ, Bool, List, ltb}
use Rattle.text_facts.specs.Strings.{without_space, is_guid, is_labeler_code}
use Rattle.text_numbers.specs.Numbers.{version_of}
use Rattle.text_numbers.specs.Days.{is_day}
use Rattle.text_telephones.specs.Telephones.{is_telephone}
use Rattle.judge_draft.specs.declared.Form.{Form}
use Rattle.judge_draft.specs.declared.Form.TheVariants.{Guid, Day, Version, LabelerCode, Telephone, WithoutSpace}

abbrev pub has_form : Form → List ℕ → Bool
has_form Guid s = is_guid s
has_form Day s = is_day s
has_form Version s = ltb 0 (version_of s)
has_form LabelerCode s = is_labeler_code s
has_form Telephone s = is_telephone s
has_form WithoutSpace s = without_space s
