use mathlib.Core.Path.{refl}
use mathlib.Core.List.{[]}
use Rattle.judge_procedures.specs.Procedures.{with_number, found_at, asked_from, asked_at}
use Rattle.judge_asked.specs.Asked.{padded}
use Rattle.judge_asked.proofs.Table.{mapped, row_there, row_past}
use borrow.Author.Rules.{rules}
use Rattle.judge_asked.proofs.asked_row.Goals as goal

pub returns-then-number-lt-ROLES : goal.returns-then-number-lt-ROLES
unfolding mapped padded with_number asked_at asked_from found_at
returns-then-number-lt-ROLES c = row_there _ refl _ c.args.role (search rules)

pub returns : goal.returns
unfolding mapped padded with_number asked_at asked_from found_at
returns c = row_past _ refl [] c.args.role (search rules)
