-- Refusal 12: no record of a list is bad exactly where the list is ordered and each finding valid.
-- Assumes nothing.
use Rattle.std.specs.Prelude.{Option, None, Some, ℕ}
use mathlib.Core.Path.{◌≡◌, refl}
use mathlib.Core.Bool.{Bool, true, false}
use mathlib.Core.List.{List, [], ◌∷◌}
use Prim.Native.Nat.{ℕ, ◌+◌, ◌%◌, ◌≤◌}
use native.Mathlib.Omega.{arith}
use borrow.Author.Tests.{leb-true, eqb-true}
use lib.Dec.{leb, ltb, eqb}
use lib.ListN.{length}
use Rattle.text_scan.specs.Choice.{pick, ◌and◌, between}
use Rattle.text_scan.proofs.Tests.{and_left, and_right}
use Rattle.list_findings.specs.declared.Finding.{Finding}
use Rattle.list_findings.specs.Findings.{width, last_procedure, is_valid, precedes, records, flat}
use Rattle.list_findings.specs.Lists.{Before, Ordered, All, Good}
use Rattle.list_findings.specs.Merge.{bad_after, origin, or_else, partial, first_bad_record}
use Rattle.list_findings.proofs.Order.{is_below}
use Rattle.list_findings.proofs.Records.{records_flat, length_flat}

abbrev Valid : List Finding → Type 0
Valid rs = All (λ r. is_valid r ≡ true) rs

-- none is bad behind l
good_after : (n : ℕ) (l : Finding) (rs : List Finding) → bad_after n l rs ≡ None → Before l rs × Ordered rs × Valid rs
unfolding bad_after
good_after n l [] e = (tt, tt, tt)
good_after n l (r ∷ rs) e = go (is_valid r and precedes l r) refl e (good_after (n + 1) r rs)
  where
    go : (t : Bool) → is_valid r and precedes l r ≡ t → pick t (bad_after (n + 1) r rs) (Some n) ≡ None → (bad_after (n + 1) r rs ≡ None → Before r rs × Ordered rs × Valid rs) → Before l (r ∷ rs) × Ordered (r ∷ rs) × Valid (r ∷ rs)
    go true q e k =
        let h = k e in
        (and_right (is_valid r) (precedes l r) q, (h.0, h.1), (and_left (is_valid r) (precedes l r) q, h.2))
    go false q e k = absurd (let z : ◌≡◌ {A = ℕ} 0 1 = cc in omega arith)

after_good : (n : ℕ) (l : Finding) (rs : List Finding) → Before l rs → Ordered rs → Valid rs → bad_after n l rs ≡ None
unfolding bad_after
after_good n l [] h o v = refl
after_good n l (r ∷ rs) h o v = rw (v.0, h) (after_good (n + 1) r rs o.0 o.1 v.1)

-- the origin precedes all that are valid
from_origin : (rs : List Finding) → Valid rs → Before origin rs
from_origin [] v = tt
from_origin (r ∷ rs) v =
    let p : 1 ≤ r.procedure = leb-true 1 r.procedure (and_left (leb 1 r.procedure) (leb r.procedure last_procedure) (and_left (between 1 last_procedure r.procedure) (ltb r.first r.after) v.0)) in
    is_below origin r (record { starts = omega arith; further = λ h. omega arith })

pub none_bad : (rs : List Finding) → bad_after 0 origin rs ≡ None → Good rs
none_bad rs e = let h = good_after 0 origin rs e in record { ordered = h.1; valid = h.2 }

pub good_none : (rs : List Finding) → Good rs → bad_after 0 origin rs ≡ None
good_none rs g = after_good 0 origin rs (from_origin rs g.valid) g.ordered g.valid

-- the same of a run of numbers, which also is in whole records
pub run_good : (s : List ℕ) → first_bad_record s ≡ None → Good (records s) × (length s % width ≡ 0)
unfolding first_bad_record
run_good s e = go (bad_after 0 origin (records s)) refl e (eqb (length s % width) 0) refl
  where
    go : (f : Option ℕ) → bad_after 0 origin (records s) ≡ f → or_else f (partial s) ≡ None → (t : Bool) → eqb (length s % width) 0 ≡ t → Good (records s) × (length s % width ≡ 0)
    go (Some n) q e t p = absurd (let z : ◌≡◌ {A = ℕ} 0 1 = cc in omega arith)
    go None q e true p = (none_bad (records s) q, eqb-true (length s % width) 0 p)
    go None q e false p = absurd (let m = rw p at e in let z : ◌≡◌ {A = ℕ} 0 1 = cc in omega arith)

pub good_run : (s : List ℕ) → Good (records s) → length s % width ≡ 0 → first_bad_record s ≡ None
unfolding first_bad_record
good_run s g e = rw (good_none (records s) g, e)

-- a good list, written as a run, is taken again
pub good_flat : (rs : List Finding) → Good rs → first_bad_record (flat rs) ≡ None
good_flat rs g = good_run (flat rs) (rw (records_flat rs) g) (omega (arith, length_flat rs))
