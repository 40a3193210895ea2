-- The first bad record of a list of records: what is found from the start is what is found from here.
-- Assumes nothing.
use Rattle.std.specs.Prelude.{Option, None, Some, ℕ}
use mathlib.Core.Path.{◌≡◌, refl, sym, ◌∙◌}
use mathlib.Core.Bool.{Bool, true, false}
use mathlib.Core.List.{List}
use Prim.Native.Nat.{ℕ, ◌+◌, ◌%◌, ◌<◌, ◌≤◌}
use native.Mathlib.Omega.{arith}
use lib.ListN.{length, drop, drop_of_length-le}
use Rattle.text_scan.specs.Choice.{◌and◌}
use Rattle.list_findings.specs.declared.Finding.{Finding}
use Rattle.list_findings.specs.Findings.{width, is_valid, precedes, flat}
use Rattle.list_findings.specs.Merge.{bad_after, origin, or_else, first_bad_record}
use Rattle.list_findings.proofs.Records.{records_flat, length_flat}
use Rattle.list_merge.specs.Next.{nth}
use Rattle.list_merge.proofs.Places.{left_here}

-- ---- the first that is not
abbrev pub Bad : List Finding → Finding → ℕ → Type 0
Bad rs last n = first_bad_record (flat rs) ≡ bad_after n last (drop n rs)

or_nothing : (f : Option ℕ) → or_else f None ≡ f
or_nothing (Some n) = refl
or_nothing None = refl

-- the numbers of records are in whole records
pub bad_starts : (rs : List Finding) → Bad rs origin 0
unfolding first_bad_record
bad_starts rs =
    let z : length (flat rs) % width ≡ 0 = omega (arith, length_flat rs) in
    rw (records_flat rs, z) (or_nothing (bad_after 0 origin rs))

module _ (rs : List Finding) (last : Finding) (n : ℕ) (l : Bad rs last n) where
  pub bad_over : length rs ≤ n → None ≡ first_bad_record (flat rs)
  unfolding bad_after
  bad_over h = sym (l ∙ rw (drop_of_length-le rs h))

  module _ (h : n < length rs) (next : Finding) (e : next ≡ nth rs n) (t : Bool) (f : t ≡ (is_valid next and precedes last next)) where
    pub bad_here : t ≡ false → Some n ≡ first_bad_record (flat rs)
    unfolding bad_after
    bad_here g = sym (l ∙ rw (left_here rs n h, ← e, ← f, g))

    pub bad_next : t ≡ true → Bad rs next (n + 1)
    unfolding bad_after
    bad_next g = l ∙ rw (left_here rs n h, ← e, ← f, g)
