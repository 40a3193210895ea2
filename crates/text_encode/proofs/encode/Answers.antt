use Rattle.text_encode.proofs.Forms.{form_1, form_2, form_3, form_4}
use Rattle.text_encode.proofs.Stores.{stored_none, form_count, form_stored}
use borrow.Author.Rules.{rules}
use Rattle.text_encode.proofs.encode.Goals as goal

pub returns-then-c-gt1114111 : goal.returns-then-c-gt1114111
returns-then-c-gt1114111 c = stored_none _ _ _ c.if-c-gt1114111.true

pub returns-then-c-lt128 : goal.returns-then-c-lt128
returns-then-c-lt128 c = (search (form_count, form_1, rules), search (form_stored, form_1, rules))

pub returns-then-c-lt2048 : goal.returns-then-c-lt2048
returns-then-c-lt2048 c = (search (form_count, form_2, rules), search (form_stored, form_2, rules))

pub returns-then-c-lt65536 : goal.returns-then-c-lt65536
returns-then-c-lt65536 c = (search (form_count, form_3, rules), search (form_stored, form_3, rules))

pub returns : goal.returns
returns c = (search (form_count, form_4, rules), search (form_stored, form_4, rules))
