-- The contracts of this crate decide what is answered and left.
-- Assumes nothing.
use Prim.Native.Nat.{ℕ, ◌*◌}
use mathlib.Core.Path.{◌≡◌, ap}
use mathlib.Core.List.{List, []}
use Rattle.std.specs.Prelude.{take, Result, Ok, Err}
use Rattle.refusals.specs.declared.Reason.{Reason}
use Rattle.refusals.specs.declared.Reason.TheVariants.{PastLimit}
use Rattle.text_scan.specs.Turns.{Turn, on, out}
use Rattle.text_scan.proofs.Decides.{only, Answers, Decides}
use Rattle.xml_reader.specs.declared.Reader.{Reader}
use Rattle.xml_steps.specs.Reading.{Reading, Read, refused, elements}
use Rattle.xml_steps.specs.Walked.{turn_of, reading}
use Rattle.xml_steps.proofs.part_of
use Rattle.xml_steps.proofs.step

pub part_of_decided : Answers part_of.Kinds.ps part_of.Kinds.r part_of.Reads.Post
part_of_decided κs a x y s t = only

-- the answer and the rows in front that a turn tells of; no step ends with all elements, so that there any answer will do
unfoldable answer_told : Turn Reading Read → Result Reader Reason
answer_told (on r) = Ok (record { at = r.at; count = r.count; depth = r.depth; top = r.top })
answer_told (out (refused n k)) = Err n
answer_told (out (elements k rows)) = Err PastLimit

unfoldable rows_told : Turn Reading Read → List ℕ
rows_told (on r) = r.rows
rows_told (out x) = []

-- the rows in front, where the reading goes on
abbrev pub rows_in_front : Result Reader Reason → List ℕ → List ℕ
rows_in_front (Ok d) numbers = take (4 * d.count) numbers
rows_in_front (Err n) numbers = []

one_answer : (k : ℕ) (x : Result Reader Reason) (numbers : List ℕ) (t : Turn Reading Read) → turn_of k x numbers ≡ t → x ≡ answer_told t
unfolding answer_told turn_of reading
one_answer k (Ok d) numbers t p = ap answer_told p
one_answer k (Err n) numbers t p = ap answer_told p

one_rows : (k : ℕ) (x : Result Reader Reason) (numbers : List ℕ) (t : Turn Reading Read) → turn_of k x numbers ≡ t → rows_in_front x numbers ≡ rows_told t
unfolding rows_told turn_of reading
one_rows k (Ok d) numbers t p = ap rows_told p
one_rows k (Err n) numbers t p = ap rows_told p

pub step_decided : Answers step.Kinds.ps step.Kinds.r step.Reads.Post
step_decided κs a x y s t p q = only (one_answer _ x _ _ p.0) (one_answer _ y _ _ q.0)

pub step_rows : Decides step.Kinds.ps step.Kinds.r step.Reads.Post (λ κs x s. rows_in_front x s.1.1.1.1.0.now)
step_rows κs a x y s t p q = only (one_rows _ x _ _ p.0) (one_rows _ y _ _ q.0)
