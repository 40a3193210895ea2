-- The measure of `sort_places::sort`: the number of positions.
use lib.ListN.{length}
use Rattle.sort_places.proofs.+sort.Given as goal

abbrev pub decreases-sort : goal.decreases-sort
decreases-sort l = length l.a.now
