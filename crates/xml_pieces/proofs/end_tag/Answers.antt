use Rattle.xml_pieces.proofs.Cases.{end_before, end_inside_root, end_after}
use Rattle.xml_pieces.proofs.end_tag.Goals as goal

pub returns-in-Before : goal.returns-in-Before
returns-in-Before c = search end_before

pub returns-in-Inside : goal.returns-in-Inside
returns-in-Inside c = search end_inside_root

pub returns-in-After : goal.returns-in-After
returns-in-After c = search end_after
