use Rattle.xml_declaration.proofs.Declaration.{standalone_yes, standalone_no}
use Rattle.xml_declaration.proofs.standalone_end.Goals as goal

pub returns-then-at-yes : goal.returns-then-at-yes
returns-then-at-yes c = search standalone_yes

pub returns : goal.returns
returns c = search standalone_no
