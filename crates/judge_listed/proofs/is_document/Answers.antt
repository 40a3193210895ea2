use Rattle.xml_names.proofs.Names.{name_ahead, name_inside, name_there}
use Rattle.judge_listed.proofs.Laws.{unnamed, named}
use Rattle.judge_listed.proofs.is_document.Goals as goal

pub returns-then-draft-first : goal.returns-then-draft-first
returns-then-draft-first c = search unnamed

pub slice_bounds-same-count : goal.slice_bounds-same-count
slice_bounds-same-count c = search name_ahead

pub slice_bounds-same-start : goal.slice_bounds-same-start
slice_bounds-same-start c = search name_ahead

pub slice_bounds-same-end : goal.slice_bounds-same-end
slice_bounds-same-end c = search (name_inside, name_there)

pub returns : goal.returns
returns c = search named
