use Rattle.judge_draft.specs.declared.Form.TheVariants.{Guid, Day, LabelerCode, Telephone, WithoutSpace}
use Rattle.judge_draft.proofs.Values.{formed, version_formed}
use Rattle.judge_draft.proofs.has_form.Goals as goal

pub returns-in-Guid : goal.returns-in-Guid
returns-in-Guid c = search (formed Guid)

pub returns-in-Day : goal.returns-in-Day
returns-in-Day c = search (formed Day)

pub returns-in-Version : goal.returns-in-Version
returns-in-Version c = search version_formed

pub returns-in-LabelerCode : goal.returns-in-LabelerCode
returns-in-LabelerCode c = search (formed LabelerCode)

pub returns-in-Telephone : goal.returns-in-Telephone
returns-in-Telephone c = search (formed Telephone)

pub returns-in-WithoutSpace : goal.returns-in-WithoutSpace
returns-in-WithoutSpace c = search (formed WithoutSpace)
