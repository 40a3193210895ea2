-- `xml_markup::comment_end` meets its contract. The invariant: the comment's end is the end of the walk from i.
use Rattle.xml_markup.proofs.Comments.{InComment}
use Rattle.xml_markup.proofs.comment_end.Given as goal

abbrev pub invariant-loop-i : goal.invariant-loop-i
invariant-loop-i l = InComment l.s l.at l.i
