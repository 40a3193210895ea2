use Rattle.xml_declaration.proofs.Declaration.{in_any_case, in_its_case}
use Rattle.xml_declaration.proofs.text_in_at.Goals as goal

pub returns-then-any : goal.returns-then-any
returns-then-any c = search in_any_case

pub returns : goal.returns
returns c = search in_its_case
