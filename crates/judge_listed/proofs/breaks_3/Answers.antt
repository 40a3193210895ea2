use Rattle.judge_listed.proofs.Laws.{three_bare, three_known, three_unknown}
use Rattle.judge_listed.proofs.breaks_3.Goals as goal

pub returns-then-is_bare : goal.returns-then-is_bare
returns-then-is_bare c = search three_bare

pub returns-then-is_known : goal.returns-then-is_known
returns-then-is_known c = search three_known

pub returns : goal.returns
returns c = search three_unknown
