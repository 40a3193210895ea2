-- `program_merges::merge_all` ends: each turn leaves less of the input.
use lib.ListN.{length}
use Rattle.program_merges.proofs.merge_all.Given as goal

abbrev pub decreases-loop-rest : goal.decreases-loop-rest
decreases-loop-rest g l = length l.rest
