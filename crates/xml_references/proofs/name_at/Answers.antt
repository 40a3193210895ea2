use Rattle.text_scan.proofs.Tests.{yes, no}
use Rattle.xml_references.proofs.Names.{lt, gt, amp, apos, quot, no_name}
use Rattle.xml_references.proofs.name_at.Goals as goal

pub returns-then-text_at : goal.returns-then-text_at
returns-then-text_at c = search (lt, yes)

pub returns-then-text_at-2 : goal.returns-then-text_at-2
returns-then-text_at-2 c = search (gt, yes, no)

pub returns-then-text_at-3 : goal.returns-then-text_at-3
returns-then-text_at-3 c = search (amp, yes, no)

pub returns-then-text_at-4 : goal.returns-then-text_at-4
returns-then-text_at-4 c = search (apos, yes, no)

pub returns-then-text_at-5 : goal.returns-then-text_at-5
returns-then-text_at-5 c = search (quot, yes, no)

pub returns : goal.returns
returns c = search (no_name, no)
