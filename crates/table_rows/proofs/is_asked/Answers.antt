use Rattle.table_rows.specs.Rows.{is_asked, is_document}
use Rattle.table_rows.proofs.Tests.{asked}
use Rattle.table_rows.proofs.is_asked.Goals as goal

pub returns-in-Code : goal.returns-in-Code
unfolding is_asked is_document
returns-in-Code c = search asked

pub returns-in-Name : goal.returns-in-Name
unfolding is_asked is_document
returns-in-Name c = search asked

pub returns-in-Document : goal.returns-in-Document
unfolding is_asked is_document
returns-in-Document c = search asked

pub returns-in-Version : goal.returns-in-Version
unfolding is_asked is_document
returns-in-Version c = search asked

pub returns-in-KeyElsewhere : goal.returns-in-KeyElsewhere
unfolding is_asked is_document
returns-in-KeyElsewhere c = search asked

pub returns-in-OtherKey : goal.returns-in-OtherKey
unfolding is_asked is_document
returns-in-OtherKey c = search asked
