use mathlib.Core.Path.{refl}
use Rattle.xml_attributes.proofs.Parts.{read_fits}
use Rattle.xml_attributes.proofs.Listed.{list_goes, list_stops, list_falls}
use Rattle.xml_attributes.proofs.AttributesIterator.next.Goals as goal

pub returns-in_default-clause-steps : goal.returns-in_default-clause-steps
returns-in_default-clause-steps c =
    let e = list_stops c.args.self.now.s.now c.args.self.now.at _ c.part_at.ensures _ c.in_default.is in
    (e, e)

pub overflow_add-self : goal.overflow_add-self
overflow_add-self c = search (read_fits _ _ _ c.in-Read.ensures _ refl)

pub returns-clause-steps : goal.returns-clause-steps
returns-clause-steps c = list_goes _ _ _ c.in-Read.ensures _ refl

pub returns-clause-goes : goal.returns-clause-goes
returns-clause-goes c = record { on = λ f. (tt, tt, list_falls _ _ _ c.in-Read.ensures _ refl); keeps = tt; rests = λ f. tt }
