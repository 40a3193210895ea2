use Rattle.xml_declaration.proofs.Declaration.{declaration_short, declaration_begins, declaration_other}
use Rattle.xml_declaration.proofs.is_declaration.Goals as goal

pub returns-then-s-lt6 : goal.returns-then-s-lt6
returns-then-s-lt6 c = search declaration_short

pub returns-then-is_space : goal.returns-then-is_space
returns-then-is_space c = search declaration_begins

pub returns : goal.returns
returns c = search declaration_other
