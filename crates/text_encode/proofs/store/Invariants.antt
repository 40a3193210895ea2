-- `text_encode::store` meets its contract. The invariant: what is left to store at k, stored from there on, makes what the whole makes.
use Rattle.text_encode.proofs.Stores.{Storing}
use Rattle.text_encode.proofs.store.Given as goal

abbrev pub invariant-loop-k : goal.invariant-loop-k
invariant-loop-k l = Storing l.bytes l.initial.out l.start l.out l.k
