-- The contract of `sort` decides which run is left; the room is left open.
-- Assumes nothing.
use Rattle.text_scan.proofs.Decides.{Decides}
use Rattle.sort_places.proofs.sort
use Rattle.sort_places.proofs.Placing.{one_sort}

pub sort_a : Decides sort.Kinds.ps sort.Kinds.r sort.Reads.Post (λ κs x s. s.1.1.0.now)
sort_a κs a x y s t p q = one_sort _ _ _ _ p q
