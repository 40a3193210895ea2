-- `xml_tags::repeats_few` meets its contract. The invariant: the answer for all is that for those behind the first k.
use Rattle.xml_attributes.proofs.Some.{Behind, named_again}
use Rattle.xml_tags.proofs.repeats_few.Given as goal

abbrev pub invariant-loop-k : goal.invariant-loop-k
invariant-loop-k l = Behind (named_again l.s) l.starts 0 l.k
