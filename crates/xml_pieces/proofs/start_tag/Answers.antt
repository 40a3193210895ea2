use Rattle.xml_pieces.proofs.Cases.{start_before, start_inside, start_after}
use Rattle.xml_pieces.proofs.start_tag.Goals as goal

pub returns-in-Before : goal.returns-in-Before
returns-in-Before c = search start_before

pub returns-in-Inside : goal.returns-in-Inside
returns-in-Inside c = search start_inside

pub returns-in-After : goal.returns-in-After
returns-in-After c = search start_after
