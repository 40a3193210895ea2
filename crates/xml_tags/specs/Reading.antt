-- What the contract of the private function `read` speaks of, and no definition of document 01: how a tag ends, the number of its attributes, and
-- whether one of them passes a limit.
-- Assumes nothing.
use Rattle.std.specs.Prelude.{ℕ, ◌+◌, Bool, List, Result}
use Rattle.refusals.specs.declared.Reason.{Reason}
use Rattle.text_scan.specs.Choice.{◌or◌}
use Rattle.xml_tags.specs.declared.Body.{Body}
use Rattle.xml_attributes.specs.declared.Tag.{Tag}
use Rattle.xml_attributes.specs.Attributes.{is_long}
use Rattle.xml_attributes.specs.Chains.{Chain, item, last}

-- the rest of a row, behind k attributes of which one passes a limit, or none
unfoldable pub body_of : List ℕ → ℕ → Bool → Chain (Result Tag Reason) → Body
body_of s k over (last t) = record { ending = t; count = k; over = over }
body_of s k over (item b r) = body_of s (k + 1) (over or is_long s b) r
