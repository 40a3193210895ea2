-- The contracts of this crate decide what is answered and left. Of what `next` leaves they decide which attributes are left.
-- Assumes nothing.
use Rattle.std.specs.Prelude.{Option, None, Some}
use mathlib.Core.Path.{◌≡◌}
use mathlib.Core.List.{List, []}
use lib.ListN.{drop}
use Rattle.std.specs.List.{slice_get}
use Rattle.std.specs.Iterator.{YieldsFirst}
use Rattle.text_scan.proofs.Decides.{only, Answers, Decides}
use Rattle.xml_attributes.specs.Listed.{left}
use Rattle.xml_attributes.proofs.attribute_at
use Rattle.xml_attributes.proofs.part_at
use Rattle.xml_attributes.proofs.AttributesIterator.next

pub attribute_at_decided : Answers attribute_at.Kinds.ps attribute_at.Kinds.r attribute_at.Reads.Post
attribute_at_decided κs a x y s t = only

pub part_at_decided : Answers part_at.Kinds.ps part_at.Kinds.r part_at.Reads.Post
part_at_decided κs a x y s t = only

module _ {S A : Type 0} (rest : S → List A) (s t : S) where
  one_first : (r : Option A) → YieldsFirst rest s r t → r ≡ slice_get (rest s) 0
  one_first None p = rw p.0
  one_first (Some x) p = rw p

  one_rest : (r : Option A) → YieldsFirst rest s r t → rest t ≡ drop 1 (rest s)
  one_rest None p = rw (p.0, p.1)
  one_rest (Some x) p = rw p

pub next_decided : Answers next.Kinds.ps next.Kinds.r next.Reads.Post
next_decided κs a x y s t p q = only (one_first left a.0.now s.0.now x p.0) (one_first left a.0.now t.0.now y q.0)

pub next_left : Decides next.Kinds.ps next.Kinds.r next.Reads.Post (λ κs x s. left s.0.now)
next_left κs a x y s t p q = only (one_rest left a.0.now s.0.now x p.0) (one_rest left a.0.now t.0.now y q.0)
