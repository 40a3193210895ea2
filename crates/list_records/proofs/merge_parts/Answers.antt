use Rattle.list_records.proofs.Kept.{first_long, parts_merged}
use Rattle.std.proofs.Common.{rules}
use Rattle.list_records.proofs.merge_parts.Goals as goal

pub slice_bounds-merge-end : goal.slice_bounds-merge-end
slice_bounds-merge-end c = search (rules, first_long)

pub returns : goal.returns
returns c = search parts_merged
