-- What the lists of procedures say of a merge, for every number from 1 to the last procedure: a finding stays where either list has it if
-- `kept_by_either` names its procedure, and else where both have it.
-- Assumes nothing.
use Rattle.std.specs.Prelude.{None}
use mathlib.Core.Path.{◌≡◌, refl, sym, ◌∙◌}
use mathlib.Core.Bool.{Bool, true, false}
use mathlib.Core.List.{List, [], ◌∷◌, ◌++◌}
use Prim.Native.Nat.{ℕ, ◌≤◌}
use borrow.Author.Tests.{eqb-true, leb-true}
use lib.Dec.{eqb, leb}
use Rattle.text_scan.specs.Choice.{pick, ◌or◌, ◌and◌, not, between}
use Rattle.text_scan.specs.Lists.{every}
use Rattle.text_scan.proofs.Tests.{never, and_left, and_right}
use Rattle.list_findings.specs.declared.Finding.{Finding}
use Rattle.list_findings.specs.Findings.{last_procedure, kept_by_both, kept_by_either, is_among, class_of}
use Rattle.list_findings.specs.Lists.{Good, has, stays}
use Rattle.list_findings.specs.Merge.{merged, first_fault}
use Rattle.list_findings.proofs.Laws.{merged_where}

-- ---- a list whose numbers all pass a test: each of them passes it
each : (q : ℕ → Bool) (ps : List ℕ) → every q ps ≡ true → (p : ℕ) → is_among ps p ≡ true → q p ≡ true
unfolding every
each q [] e p f = never (sym f)
each q (x ∷ xs) e p f = go (eqb p x) refl f (each q xs (and_right (q x) (every q xs) e) p)
  where
    go : (t : Bool) → eqb p x ≡ t → t or is_among xs p ≡ true → (is_among xs p ≡ true → q p ≡ true) → q p ≡ true
    go true g h k = rw (eqb-true p x g) (and_left (q x) (every q xs) e)
    go false g h k = k h

-- the lists name procedures, and none of them twice: both are computed
procedures : every (between 1 last_procedure) (kept_by_both ++ kept_by_either) ≡ true
unfolding every
procedures = refl

apart : every (λ p. not (is_among kept_by_both p)) kept_by_either ≡ true
unfolding every
apart = refl

pub listed_is : (p : ℕ) → is_among (kept_by_both ++ kept_by_either) p ≡ true → (1 ≤ p) × (p ≤ last_procedure)
listed_is p e =
    let f = each (between 1 last_procedure) (kept_by_both ++ kept_by_either) procedures p e in
    (leb-true 1 p (and_left (leb 1 p) (leb p last_procedure) f), leb-true p last_procedure (and_right (leb 1 p) (leb p last_procedure) f))

-- ---- where a finding stays, by the list of its procedure
stays_listed : (p : ℕ) (x y : Bool) → stays (class_of p) x y ≡ pick (is_among kept_by_either p) (x or y) (x and y)
unfolding class_of
stays_listed p x y = go (is_among kept_by_both p) refl (is_among kept_by_either p) refl
  where
    go : (t : Bool) → is_among kept_by_both p ≡ t → (u : Bool) → is_among kept_by_either p ≡ u → stays (class_of p) x y ≡ pick u (x or y) (x and y)
    go true e true f =
        let g : not (is_among kept_by_both p) ≡ true = each (λ q. not (is_among kept_by_both q)) kept_by_either apart p f in
        never (sym g ∙ rw e)
    go true e false f = rw e
    go false e true f = rw (e, f)
    go false e false f = rw (e, f)

pub merged_listed : (a b : List Finding) → Good a → Good b → first_fault a b ≡ None → (r : Finding) → has r (merged a b) ≡ pick (is_among kept_by_either r.procedure) (has r a or has r b) (has r a and has r b)
merged_listed a b g h e r = merged_where a b g h e r ∙ stays_listed r.procedure (has r a) (has r b)
