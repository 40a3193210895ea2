use Rattle.xml_pieces.proofs.Cases.{text_before, text_inside, text_after}
use Rattle.xml_pieces.proofs.text.Goals as goal

pub returns-in-Before : goal.returns-in-Before
returns-in-Before c = search text_before

pub returns-in-Inside : goal.returns-in-Inside
returns-in-Inside c = search text_inside

pub returns-in-After : goal.returns-in-After
returns-in-After c = search text_after
