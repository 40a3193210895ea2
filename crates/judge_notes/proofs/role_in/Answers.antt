use Rattle.judge_paths.proofs.Walks.{role_root}
use Rattle.xml_names.proofs.Names.{name_ahead, name_inside, name_there}
use Rattle.judge_notes.proofs.Below.{below_late, below_past, below_unknown, below_named}
use borrow.Author.Rules.{rules}
use Rattle.judge_notes.proofs.role_in.Goals as goal

pub returns-then-n-eq0 : goal.returns-then-n-eq0
returns-then-n-eq0 c = search role_root

pub returns-then-n-row_number : goal.returns-then-n-row_number
returns-then-n-row_number c = search (below_late, below_past, below_unknown, below_named, rules)

pub returns-then-document-first : goal.returns-then-document-first
returns-then-document-first c = search (below_late, below_past, below_unknown, below_named, rules)

pub returns-then-above-lt-ROOT : goal.returns-then-above-lt-ROOT
returns-then-above-lt-ROOT c = search (below_late, below_past, below_unknown, below_named, rules)

pub slice_bounds-child_role-count : goal.slice_bounds-child_role-count
slice_bounds-child_role-count c = search name_ahead

pub slice_bounds-child_role-start : goal.slice_bounds-child_role-start
slice_bounds-child_role-start c = search name_ahead

pub slice_bounds-child_role-end : goal.slice_bounds-child_role-end
slice_bounds-child_role-end c = search (name_inside, name_there)

pub returns : goal.returns
returns c = search (below_late, below_past, below_unknown, below_named, rules)
