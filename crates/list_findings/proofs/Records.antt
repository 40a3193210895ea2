-- Records in a run of numbers: the record at a position and the ones after it, and the run of a list of records.
-- Assumes nothing.
use mathlib.Core.Path.{◌≡◌, refl, sym, ◌∙◌, ap}
use mathlib.Core.Bool.{Bool, true}
use mathlib.Core.List.{List, [], ◌∷◌}
use Prim.Native.Nat.{ℕ, ◌+◌, ◌-◌, ◌*◌, ◌/◌, ◌%◌, ◌^◌, ◌<◌, ◌≤◌}
use native.Mathlib.Omega.{arith}
use borrow.Author.Tests.{leb-true}
use lib.Dec.{leb}
use lib.ListN.{length, drop, length-drop}
use Rattle.text_scan.proofs.Within.{drop_here}
use Rattle.list_findings.specs.declared.Finding.{Finding}
use Rattle.list_findings.specs.Findings.{width, records, flat, record_at}

pub records_here : (s : List ℕ) (k : ℕ) → k + width ≤ length s → records (drop k s) ≡ record_at s k ∷ records (drop (k + width) s)
unfolding records
records_here s k h =
    let e : k + 1 + 1 ≡ k + 2 = omega arith in
    let f : k + 2 + 1 ≡ k + width = omega arith in
    rw (drop_here s k (omega arith), drop_here s (k + 1) (omega arith), e, drop_here s (k + 2) (omega arith), f)

short : (s : List ℕ) → length s < width → records s ≡ []
unfolding records
short [] h = refl
short (p ∷ []) h = refl
short (p ∷ f ∷ []) h = refl
short (p ∷ f ∷ e ∷ s) h = absurd (omega arith)

pub records_over : (s : List ℕ) (k : ℕ) → length s - k < width → records (drop k s) ≡ []
records_over s k h = short (drop k s) (omega (arith, length-drop k s))

-- what the code's test says: a whole record stands at k
pub there : (s : List ℕ) (k : ℕ) (t : Bool) → t ≡ leb width (length s - k) → t ≡ true → k + width ≤ length s
there s k t e f = omega (arith, leb-true width (length s - k) (sym e ∙ f))

pub there_fits : (s : List ℕ) (k : ℕ) (t : Bool) → t ≡ leb width (length s - k) → t ≡ true → length s < 2 ^ 64 → k + width < 2 ^ 64
there_fits s k t e f l = omega (arith, there s k t e f)

pub length_records : (s : List ℕ) → length (records s) ≡ length s / width
unfolding records
length_records [] = refl
length_records (p ∷ []) = refl
length_records (p ∷ f ∷ []) = refl
length_records (p ∷ f ∷ e ∷ s) = let h = length_records s in omega arith

pub records_flat : (rs : List Finding) → records (flat rs) ≡ rs
unfolding records flat
records_flat [] = refl
records_flat (r ∷ rs) = ap (λ (l : List Finding). r ∷ l) (records_flat rs)

pub length_flat : (rs : List Finding) → length (flat rs) ≡ length rs * width
unfolding flat
length_flat [] = refl
length_flat (r ∷ rs) = let h = length_flat rs in omega arith

-- in whole records
pub flat_records : (s : List ℕ) → length s % width ≡ 0 → flat (records s) ≡ s
unfolding records flat
flat_records [] h = refl
flat_records (p ∷ []) h = absurd (omega arith)
flat_records (p ∷ f ∷ []) h = absurd (omega arith)
flat_records (p ∷ f ∷ e ∷ s) h = ap (λ (l : List ℕ). p ∷ f ∷ e ∷ l) (flat_records s (omega arith))
