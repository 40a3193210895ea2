use Rattle.xml_elements.proofs.Outcomes.{too_long, bad_byte, all_chars}
use Rattle.xml_elements.proofs.read.Goals as goal

pub returns-then-document-gt-DOCUMENT : goal.returns-then-document-gt-DOCUMENT
returns-then-document-gt-DOCUMENT c = search too_long

pub returns-then-bad-document : goal.returns-then-bad-document
returns-then-bad-document c = search bad_byte

pub returns-then-document-le-FEW : goal.returns-then-document-le-FEW
returns-then-document-le-FEW c = search all_chars

pub returns : goal.returns
returns c = search all_chars
