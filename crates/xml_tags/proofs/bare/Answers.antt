use Rattle.xml_tags.proofs.Judged.{bare_long, bare_short}
use Rattle.xml_tags.proofs.bare.Goals as goal

pub returns-then-m-gt-NAME : goal.returns-then-m-gt-NAME
returns-then-m-gt-NAME c = search bare_long

pub returns : goal.returns
returns c = search bare_short
