use Rattle.sort_compare.proofs.Sharing.{share_feeds, share_none, share_asked}
use Rattle.sort_compare.proofs.fields.compare_shared.Goals as goal

pub returns-then-byte-eq10-2 : goal.returns-then-byte-eq10-2
returns-then-byte-eq10-2 c = search share_feeds

pub returns-then-fields-passed : goal.returns-then-fields-passed
returns-then-fields-passed c = search share_none

pub returns : goal.returns
returns c = search share_asked
