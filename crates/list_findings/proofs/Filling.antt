-- A list filled from its front, one record at a time.
-- Assumes nothing.
use mathlib.Core.Path.{◌≡◌, ◌∙◌}
use mathlib.Core.List.{List, ◌∷◌}
use Prim.Native.Nat.{ℕ, suc, ◌+◌, ◌/◌, ◌≤◌}
use native.Mathlib.Nat.{zero-add}
use native.Mathlib.Omega.{arith}
use lib.ListN.{length, length-set}
use lib.Seq.{sets, sets-eq}
use Rattle.list_findings.specs.declared.Finding.{Finding}
use Rattle.list_findings.specs.Findings.{width, flat, filled, stored}
use Rattle.list_findings.proofs.Records.{length_flat}

-- the findings from the front, by stores
pub filled_sets : (rs : List Finding) (out : List ℕ) → length rs ≤ length out / width → sets out 0 (flat rs) ≡ filled rs out
filled_sets rs out h =
    let g : 0 + length (flat rs) ≤ length out = omega (arith, length_flat rs) in
    sets-eq (flat rs) out 0 g ∙ rw zero-add

-- one record is three stores
pub one_stored : (out : List ℕ) (k : ℕ) (r : Finding) (rs : List Finding) → sets out k (flat (r ∷ rs)) ≡ sets (stored out k r) (k + width) (flat rs)
unfolding flat
one_stored out k r rs =
    let e : k + 1 ≡ suc k = omega arith in
    let f : k + 2 ≡ suc (suc k) = omega arith in
    let g : k + width ≡ suc (suc (suc k)) = omega arith in
    rw (e, f, g)

pub length_stored : (out : List ℕ) (k : ℕ) (r : Finding) → length (stored out k r) ≡ length out
length_stored out k r = simp length-set
