-- The front of a room has so many bytes, where it reaches so far.
-- Assumes nothing.
use mathlib.Core.Path.{◌≡◌, sym}
use mathlib.Core.List.{List}
use Prim.Native.Nat.{ℕ, ◌≤◌}
use lib.ListN.{length, take}
use lib.Seq.{length-take-le}
use Rattle.program_texts.specs.Texts.{Put}
use Rattle.program_texts.proofs.Puts.{put_within}

pub front_long : (room : List ℕ) (n : ℕ) → n ≤ length room → n ≡ length (take n room)
front_long room n h = sym (length-take-le n room h)

pub text_long : (old out t : List ℕ) (r : ℕ) → Put old 0 t r out → r ≡ length (take r out)
text_long old out t r p = front_long out r (put_within old out t r p)
