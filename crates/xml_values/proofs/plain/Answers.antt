use mathlib.Core.Path.{refl, ◌∙◌, ap}
use Rattle.text_scan.specs.Lists.{every}
use Rattle.xml_values.specs.Views.{is_shown}
use Rattle.xml_values.proofs.Views.{plain_nothing, plain_part, not_plain, bytes_within}
use Rattle.xml_values.proofs.plain.Goals as goal

pub returns-in_default : goal.returns-in_default
returns-in_default c = plain_nothing _ _ _ refl c.in_default.is

pub returns-then-all_shown : goal.returns-then-all_shown
returns-then-all_shown c =
    plain_part _ _ _ refl _ c.in-Some.is _ (c.all_shown.ensures ∙ ap (every is_shown) (bytes_within _ _ _ _ _ c.min-after.ensures c.min-first.ensures)) c.if-all_shown.true

pub returns : goal.returns
returns c =
    not_plain _ _ _ refl _ c.in-Some.is _ (c.all_shown.ensures ∙ ap (every is_shown) (bytes_within _ _ _ _ _ c.min-after.ensures c.min-first.ensures)) c.if-all_shown.false
