use Rattle.sort_places.proofs.Sorting.{goes_on_sorted, half_fits, half_rises, other_rises, halves_sorted}
use Rattle.sort_places.proofs.merge_halves.Goals as goal

pub returns-then-is_in_order : goal.returns-then-is_in_order
returns-then-is_in_order c = search goes_on_sorted

pub merge-requires : goal.merge-requires
merge-requires c = search (half_fits, half_rises, other_rises)

pub returns : goal.returns
returns c = search halves_sorted
