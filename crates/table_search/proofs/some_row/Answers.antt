use Rattle.table_search.proofs.Runs.{served_fits, served_rises, answered, walked}
use Rattle.table_search.proofs.some_row.Goals as goal

pub has_place-requires : goal.has_place-requires
has_place-requires c = (search served_fits, search served_rises)

pub returns-then-index-gt0 : goal.returns-then-index-gt0
returns-then-index-gt0 c = search answered

pub returns : goal.returns
returns c = search walked
