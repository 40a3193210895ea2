-- The walk that writes: a finding that is kept is appended to the third list, which has room for it.
-- Assumes nothing.
use mathlib.Core.Path.{◌≡◌, refl, sym, ◌∙◌}
use mathlib.Core.List.{List}
use Prim.Native.Nat.{ℕ, ◌+◌, ◌*◌, ◌/◌, ◌<◌}
use native.Mathlib.Omega.{arith}
use lib.ListN.{length, drop}
use Rattle.list_findings.specs.declared.Finding.{Finding}
use Rattle.list_findings.specs.Findings.{width, records, stored}
use Rattle.list_steps.specs.declared.Stepped.{Stepped}
use Rattle.list_steps.specs.declared.Stepped.TheVariants.{Keep}
use Rattle.list_steps.specs.Step.{merge_step}
use Rattle.list_steps.proofs.Writes.{Writes, keep_room, write_keep}
use Rattle.list_writer.specs.Listed.{list_after, count_after}
use Rattle.list_writer.proofs.Filled.{room_list, room_count}

module _ (a b old out : List ℕ) (i j n : ℕ) (l : Writes a b old out i j (n * width)) (s : Stepped) (e : s ≡ merge_step (records (drop i a)) i (records (drop j b)) j) (x y : ℕ) (r : Finding) (f : s ≡ Keep r x y) where
  pub append_keep : (new : List ℕ) (m : ℕ) → new ≡ list_after out n r → m ≡ count_after out n → Writes a b old new x y (m * width)
  append_keep new m p q =
      let g = keep_room a b old out i j (n * width) l s e x y r f in
      let room : n < length out / width = omega arith in
      let c : m ≡ n + 1 = q ∙ sym (room_count out n room) in
      let k : n * width + width ≡ m * width = omega arith in
      rw (← k) (write_keep a b old out i j (n * width) l s e x y r f new (p ∙ sym (room_list out n room r (stored out (n * width) r) refl)))
