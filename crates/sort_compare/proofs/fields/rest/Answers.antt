use Rattle.sort_compare.proofs.Parts.{rest_from}
use Rattle.sort_compare.proofs.fields.rest.Goals as goal

pub returns : goal.returns
returns c = search rest_from
