-- `judge_asking::fill` meets its contract.
use mathlib.Core.Path.{◌≡◌}
use Rattle.judge_operations.specs.Operations.{has_establishment}
use Rattle.judge_answers.specs.Answers.{tables_at}
use Rattle.judge_draft.specs.Drafts.{lent}
use Rattle.judge_asking.proofs.Filled.{ToFill}
use Rattle.judge_asking.proofs.fill.Given as goal

abbrev pub invariant-loop-n : goal.invariant-loop-n
invariant-loop-n l = ToFill l.draft.document.now l.draft.notes.now l.header (tables_at l.tables l.places) l.initial.marks l.marks l.n l.total × (l.held ≡ has_establishment (lent l.draft) l.entity)
