use Rattle.text_scan.proofs.Tests.{yes, no}
use Rattle.xml_references.proofs.Names.{hex_fits, dec_fits, hex, dec, name}
use borrow.Author.Rules.{rules}
use Rattle.xml_references.proofs.reference_at.Goals as goal

pub number_at-requires : goal.number_at-requires
number_at-requires c = search (hex_fits, yes, rules)

pub returns-then-text_at : goal.returns-then-text_at
returns-then-text_at c = search (hex, yes)

pub number_at-requires-then-text_at-2 : goal.number_at-requires-then-text_at-2
number_at-requires-then-text_at-2 c = search (dec_fits, yes, rules)

pub returns-then-text_at-2 : goal.returns-then-text_at-2
returns-then-text_at-2 c = search (dec, yes, no)

pub returns : goal.returns
returns c = search (name, no)
