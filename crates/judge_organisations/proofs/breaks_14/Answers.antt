use Rattle.judge_organisations.proofs.Numbers.{organisations_counted, no_entity}
use Rattle.judge_organisations.proofs.breaks_14.Goals as goal

pub returns-then-organisation-gt-UNLISTED : goal.returns-then-organisation-gt-UNLISTED
returns-then-organisation-gt-UNLISTED c = search organisations_counted

pub returns : goal.returns
returns c = search no_entity
