use Rattle.program_exports.proofs.Told.{in_document, in_scratch_lem}
use Rattle.program_exports.proofs.part_of.Goals as goal

pub returns-in-Document : goal.returns-in-Document
returns-in-Document c = search in_document

pub returns-in-Scratch : goal.returns-in-Scratch
returns-in-Scratch c = search in_scratch_lem
