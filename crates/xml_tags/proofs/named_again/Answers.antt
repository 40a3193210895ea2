use mathlib.Core.Path.{sym}
use borrow.Author.Tests.{eqb-true}
use Rattle.xml_names.proofs.Names.{name_ahead}
use Rattle.xml_attributes.proofs.Some.{again_part, again_past}
use Rattle.xml_tags.proofs.Judged.{none_behind}
use Rattle.xml_tags.proofs.named_again.Goals as goal

pub returns-then-is_empty : goal.returns-then-is_empty
returns-then-is_empty c = none_behind _ _ _ (eqb-true _ _ (sym c.if-is_empty.ensures))

pub returns-then-s-e : goal.returns-then-s-e
returns-then-s-e c = search again_past

pub slice_bounds-some_named-count : goal.slice_bounds-some_named-count
slice_bounds-some_named-count c = search name_ahead

pub slice_bounds-some_named-start : goal.slice_bounds-some_named-start
slice_bounds-some_named-start c = search name_ahead

pub returns : goal.returns
returns c = search again_part
