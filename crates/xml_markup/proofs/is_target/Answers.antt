use Rattle.xml_markup.proofs.Instructions.{target_empty, target_other, target_xml, target_named}
use Rattle.xml_markup.proofs.is_target.Goals as goal

pub returns-then-n-at : goal.returns-then-n-at
returns-then-n-at c = search target_empty

pub returns-then-n-at-ne3 : goal.returns-then-n-at-ne3
returns-then-n-at-ne3 c = search target_other

pub returns-then-text_any_case_at : goal.returns-then-text_any_case_at
returns-then-text_any_case_at c = search target_xml

pub returns : goal.returns
returns c = search target_named
