use Rattle.judge_header.proofs.Holds.{guid_is, type_is, day_is, version_is}
use Rattle.judge_header.proofs.has_property.Goals as goal

pub returns-in-GuidRoot : goal.returns-in-GuidRoot
returns-in-GuidRoot c = search guid_is

pub returns-in-OfType : goal.returns-in-OfType
returns-in-OfType c = search type_is

pub returns-in-Day : goal.returns-in-Day
returns-in-Day c = search day_is

pub returns-in-Version : goal.returns-in-Version
returns-in-Version c = search version_is
