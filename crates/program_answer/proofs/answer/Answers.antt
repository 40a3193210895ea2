use Rattle.program_answer.proofs.Answers.{over_document, over_tables, checked}
use Rattle.program_answer.proofs.answer.Goals as goal

pub returns-then-document-gt-LIMIT : goal.returns-then-document-gt-LIMIT
returns-then-document-gt-LIMIT c = search over_document

pub returns-then-tables-gt-LIMIT : goal.returns-then-tables-gt-LIMIT
returns-then-tables-gt-LIMIT c = search over_tables

pub returns : goal.returns
returns c = search checked
