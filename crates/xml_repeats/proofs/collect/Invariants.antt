-- `xml_repeats::collect` meets its contract. The invariant: how many there are and what is kept, told from `at`, is that told from where the iterator stands.
use Rattle.xml_attributes.specs.Listed.{left}
use Rattle.xml_repeats.proofs.Collecting.{Collected}
use Rattle.xml_repeats.proofs.collect.Given as goal

abbrev pub invariant-loop-a : goal.invariant-loop-a
invariant-loop-a l =
    (goal.iterator-loop-a).can_next l.a-iterator × (goal.iterator-loop-a).is_finite l.a-iterator
    × Collected l.s l.at l.initial.starts l.count l.starts (left l.a-iterator)
