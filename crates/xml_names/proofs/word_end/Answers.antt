use Rattle.xml_names.proofs.Names.{word_past, word_none}
use Rattle.xml_names.proofs.word_end.Goals as goal
use Rattle.xml_names.proofs.word_end.Goals.{else-at-s-via-then-at-s+else-holds, else-at-s-via-else-at-s}

pub returns : goal.returns
returns g c =
    elim c.else-at-s.branch [
      | else-at-s-via-then-at-s+else-holds w ↦ word_none _ _ g.S.ByteClass.members g.C.ByteClass.members _ w.holds.ensures w.if-holds.false
      | else-at-s-via-else-at-s w ↦ word_past c.args.s.now c.args.at g.S.ByteClass.members g.C.ByteClass.members w.if-at-s.false
    ]
