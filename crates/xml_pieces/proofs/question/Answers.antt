use Rattle.xml_pieces.proofs.Cases.{a_declaration, a_first_instruction, a_later_instruction}
use Rattle.xml_pieces.proofs.question.Goals as goal

pub returns-then-is_declaration : goal.returns-then-is_declaration
returns-then-is_declaration c = search a_declaration

pub returns-then-at-eq0 : goal.returns-then-at-eq0
returns-then-at-eq0 c = search a_first_instruction

pub returns : goal.returns
returns c = search a_later_instruction
