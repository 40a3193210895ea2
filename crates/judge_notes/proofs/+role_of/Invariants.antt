-- The measure of `judge_notes::role_of`: the element's number, since a parent stands earlier.
use Rattle.judge_notes.proofs.+role_of.Given as goal

abbrev pub decreases-role_of : goal.decreases-role_of
decreases-role_of l = l.n
