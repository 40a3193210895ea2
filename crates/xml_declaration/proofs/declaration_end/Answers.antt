use Rattle.xml_declaration.proofs.Declaration.{close_fits, no_declaration, no_version, no_close, declaration_whole}
use borrow.Author.Rules.{rules}
use Rattle.xml_declaration.proofs.declaration_end.Goals as goal

pub returns-then-v-le5 : goal.returns-then-v-le5
returns-then-v-le5 c = search no_version

pub overflow_add-result : goal.overflow_add-result
overflow_add-result c = search (close_fits, rules)

pub returns-then-text_at-2 : goal.returns-then-text_at-2
returns-then-text_at-2 c = search declaration_whole

pub returns-then-text_at : goal.returns-then-text_at
returns-then-text_at c = search no_close

pub returns : goal.returns
returns c = search no_declaration
