use Rattle.table_search.proofs.Runs.{places_rise, places_sought}
use Rattle.table_search.proofs.has_place.Goals as goal

pub search-requires : goal.search-requires
search-requires c = search places_rise

pub returns : goal.returns
returns c = search places_sought
