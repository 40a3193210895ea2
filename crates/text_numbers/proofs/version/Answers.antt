use Rattle.text_scan.proofs.Tests.{yes}
use Rattle.text_numbers.proofs.NumberLaws.{version_none, version_long, version_digits, version_other}
use borrow.Author.Rules.{rules}
use Rattle.text_numbers.proofs.version.Goals as goal

pub returns-then-s-lt1 : goal.returns-then-s-lt1
returns-then-s-lt1 c = search version_none

pub returns-then-s-gt9 : goal.returns-then-s-gt9
returns-then-s-gt9 c = search version_long

pub value-requires : goal.value-requires
value-requires c = search (yes, rules)

pub returns-then-all_digits : goal.returns-then-all_digits
returns-then-all_digits c = search version_digits

pub returns : goal.returns
returns c = search version_other
