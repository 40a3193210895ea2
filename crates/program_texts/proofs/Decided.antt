-- The contracts of this crate decide what is answered and left.
-- Assumes nothing.
use mathlib.Core.Path.{◌≡◌, sym, ◌∙◌, ap₂}
use mathlib.Core.List.{List, ◌++◌}
use Prim.Native.Nat.{ℕ}
use lib.ListN.{take, drop, take-append-drop}
use Rattle.text_scan.proofs.Decides.{only, Answers, Decides}
use Rattle.program_texts.specs.Texts.{Put}
use Rattle.program_texts.proofs.put
use Rattle.program_texts.proofs.put_number
use Rattle.program_texts.proofs.put_list
use Rattle.program_texts.proofs.put_refusal

-- a text that is put leaves one room
pub one_room : (old : List ℕ) (at : ℕ) (t : List ℕ) (r r' : ℕ) (new new' : List ℕ) → Put old at t r new → Put old at t r' new' → new ≡ new'
one_room old at t r r' new new' p q =
    let e : r' ≡ r = only q.ends p.ends in
    let f : take r new ≡ take r new' = only p.stands (rw e at q.stands) in
    let g : drop r new ≡ drop r new' = only p.rest (rw e at q.rest) in
    sym (take-append-drop r new) ∙ ap₂ ◌++◌ f g ∙ take-append-drop r new'

pub put_decided : Answers put.Kinds.ps put.Kinds.r put.Reads.Post
put_decided κs a x y s t p q = only p.ends q.ends

pub put_out : Decides put.Kinds.ps put.Kinds.r put.Reads.Post (λ κs x s. s.0.now)
put_out κs a x y s t p q = one_room _ _ _ x y _ _ p q

pub put_number_decided : Answers put_number.Kinds.ps put_number.Kinds.r put_number.Reads.Post
put_number_decided κs a x y s t p q = only p.0.ends q.0.ends

pub put_number_out : Decides put_number.Kinds.ps put_number.Kinds.r put_number.Reads.Post (λ κs x s. s.0.now)
put_number_out κs a x y s t p q = one_room _ _ _ x y _ _ p.0 q.0

pub put_list_decided : Answers put_list.Kinds.ps put_list.Kinds.r put_list.Reads.Post
put_list_decided κs a x y s t p q = only p.ends q.ends

pub put_list_out : Decides put_list.Kinds.ps put_list.Kinds.r put_list.Reads.Post (λ κs x s. s.0.now)
put_list_out κs a x y s t p q = one_room _ _ _ x y _ _ p q

pub put_refusal_decided : Answers put_refusal.Kinds.ps put_refusal.Kinds.r put_refusal.Reads.Post
put_refusal_decided κs a x y s t p q = only p.ends q.ends

pub put_refusal_out : Decides put_refusal.Kinds.ps put_refusal.Kinds.r put_refusal.Reads.Post (λ κs x s. s.0.now)
put_refusal_out κs a x y s t p q = one_room _ _ _ x y _ _ p q
