-- What is kept of two lists: in order, none twice; what holds of all findings of both holds of all that are kept; and a finding is kept
-- exactly where its class says so.
-- Assumes nothing.
use Rattle.std.specs.Prelude.{Option, None, ℕ}
use mathlib.Core.Path.{◌≡◌, refl, ◌∙◌, ap}
use mathlib.Core.Bool.{Bool, true, false}
use mathlib.Core.List.{List, ◌∷◌}
use Prim.Native.Nat.{ℕ}
use native.Mathlib.Omega.{arith}
use borrow.Author.Tests.{eqb-true}
use lib.Dec.{eqb}
use Rattle.text_scan.specs.Choice.{pick, ◌or◌}
use Rattle.text_scan.proofs.Tests.{and_false}
use Rattle.list_findings.specs.declared.Finding.{Finding}
use Rattle.list_findings.specs.declared.Class.{Class}
use Rattle.list_findings.specs.declared.Class.TheVariants.{DocumentOnly, Both, Either}
use Rattle.list_findings.specs.Lists.{Before, Ordered, All, Keyed, same, has, stays}
use Rattle.list_findings.specs.Merge.{Met, alone, twice, met, of_alone, Verdict, keep, leave, fault, verdict, keeping, faulting, kept, fault_of}
use Rattle.list_findings.proofs.Lists.{same_is, before_trans, before_keyed, before_not}
use Rattle.list_findings.proofs.Meets.{Meets, over, first, second, both, meets}

-- a step keeps the finding that it meets, or none
alone_case : (P : List Finding → Type 0) (x : Finding) (rs : List Finding) → P (x ∷ rs) → P rs → (c : Class) → P (keeping (of_alone c x) rs)
alone_case P x rs p q DocumentOnly = q
alone_case P x rs p q Both = q
alone_case P x rs p q Either = p

twice_case : (P : List Finding → Type 0) (x : Finding) (rs : List Finding) (at : ℕ) → P (x ∷ rs) → P rs → (t : Bool) → P (keeping (pick t (keep x) (fault at)) rs)
twice_case P x rs at p q true = p
twice_case P x rs at p q false = q

module _ (class : ℕ → Class) where
  -- ---- in order: what precedes both lists precedes what is kept of them
  before : {a b : List Finding} {ms : List Met} → Meets a b ms → Ordered a → Ordered b → (l : Finding) → Before l a → Before l b → Before l (kept class ms)
  unfolding kept verdict
  before over o p l h k = tt
  before (first {x} {xs} {b} {ms} g m) o p l h k =
      alone_case (Before l) x (kept class ms) h (before m o.1 p l (before_trans l x xs h o.0) k) (class x.procedure)
  before (second {y} {a} {ys} {ms} g m) o p l h k =
      alone_case (Before l) y (kept class ms) k (before m o p.1 l h (before_trans l y ys k p.0)) (class y.procedure)
  before (both {x} {y} {xs} {ys} {ms} g m) o p l h k =
      twice_case (Before l) x (kept class ms) x.first h (before m o.1 p.1 l (before_trans l x xs h o.0) (before_trans l y ys k p.0)) (eqb x.after y.after)

  ordered : {a b : List Finding} {ms : List Met} → Meets a b ms → Ordered a → Ordered b → Ordered (kept class ms)
  unfolding kept verdict
  ordered over o p = tt
  ordered (first {x} {xs} {b} {ms} g m) o p =
      let later = ordered m o.1 p in
      alone_case Ordered x (kept class ms) (before m o.1 p x o.0 g, later) later (class x.procedure)
  ordered (second {y} {a} {ys} {ms} g m) o p =
      let later = ordered m o p.1 in
      alone_case Ordered y (kept class ms) (before m o p.1 y g p.0, later) later (class y.procedure)
  ordered (both {x} {y} {xs} {ys} {ms} g m) o p =
      let later = ordered m o.1 p.1 in
      twice_case Ordered x (kept class ms) x.first (before m o.1 p.1 x o.0 (before_keyed x y ys g p.0), later) later (eqb x.after y.after)

  -- ---- what holds of all
  all : (P : Finding → Type 0) {a b : List Finding} {ms : List Met} → Meets a b ms → All P a → All P b → All P (kept class ms)
  unfolding kept verdict
  all P over h k = tt
  all P (first {x} {xs} {b} {ms} g m) h k =
      let later = all P m h.1 k in
      alone_case (All P) x (kept class ms) (h.0, later) later (class x.procedure)
  all P (second {y} {a} {ys} {ms} g m) h k =
      let later = all P m h k.1 in
      alone_case (All P) y (kept class ms) (k.0, later) later (class y.procedure)
  all P (both {x} {y} {xs} {ys} {ms} g m) h k =
      let later = all P m h.1 k.1 in
      twice_case (All P) x (kept class ms) x.first (h.0, later) later (eqb x.after y.after)

  -- ---- which findings
  abbrev Stays : List Finding → List Finding → List Finding → Type 0
  Stays a b rs = (r : Finding) → has r rs ≡ stays (class r.procedure) (has r a) (has r b)

  stays_swap : (c : Class) (a b : Bool) → stays c a b ≡ stays c b a
  stays_swap DocumentOnly true true = refl
  stays_swap DocumentOnly true false = refl
  stays_swap DocumentOnly false true = refl
  stays_swap DocumentOnly false false = refl
  stays_swap Both true true = refl
  stays_swap Both true false = refl
  stays_swap Both false true = refl
  stays_swap Both false false = refl
  stays_swap Either true true = refl
  stays_swap Either true false = refl
  stays_swap Either false true = refl
  stays_swap Either false false = refl

  swapped : (a b rs : List Finding) → Stays a b rs → Stays b a rs
  swapped a b rs k r = k r ∙ stays_swap (class r.procedure) (has r a) (has r b)

  -- a finding of the first list alone
  one_alone : (x : Finding) (xs b rs : List Finding) → has x b ≡ false → Stays xs b rs → (c : Class) → class x.procedure ≡ c → (f : Option ℕ) → faulting (of_alone c x) f ≡ None → Stays (x ∷ xs) b (keeping (of_alone c x) rs)
  unfolding has
  one_alone x xs b rs n k DocumentOnly q f e r = absurd (let z : ◌≡◌ {A = ℕ} 0 1 = cc in omega arith)
  one_alone x xs b rs n k Both q f e r = go (same r x) refl
    where
      go : (t : Bool) → same r x ≡ t → has r rs ≡ stays (class r.procedure) (t or has r xs) (has r b)
      go true s =
          let i = same_is r x s in
          let c : class r.procedure ≡ Both = ap (λ (y : Finding). class y.procedure) i ∙ q in
          let m : has r b ≡ false = rw i n in
          k r ∙ rw (c, m) (and_false (has r xs))
      go false s = k r
  one_alone x xs b rs n k Either q f e r = go (same r x) refl
    where
      go : (t : Bool) → same r x ≡ t → t or has r rs ≡ stays (class r.procedure) (t or has r xs) (has r b)
      go true s =
          let i = same_is r x s in
          let c : class r.procedure ≡ Either = ap (λ (y : Finding). class y.procedure) i ∙ q in
          rw c
      go false s = k r

  -- one of each list
  stays_true : (c : Class) → true ≡ stays c true true
  stays_true DocumentOnly = refl
  stays_true Both = refl
  stays_true Either = refl

  one_twice : (x y : Finding) (xs ys rs : List Finding) → Keyed x y → Stays xs ys rs → (t : Bool) → eqb x.after y.after ≡ t → (f : Option ℕ) → faulting (pick t (keep x) (fault x.first)) f ≡ None → Stays (x ∷ xs) (y ∷ ys) (keeping (pick t (keep x) (fault x.first)) rs)
  unfolding has
  one_twice x y xs ys rs g k false q f e r = absurd (let z : ◌≡◌ {A = ℕ} 0 1 = cc in omega arith)
  one_twice x y xs ys rs g k true q f e r =
      let i : x ≡ y = λ j. record { procedure = g.procedures j; first = g.firsts j; after = eqb-true x.after y.after q j } in
      rw (← i) (go (same r x))
    where
      go : (t : Bool) → t or has r rs ≡ stays (class r.procedure) (t or has r xs) (t or has r ys)
      go true = stays_true (class r.procedure)
      go false = k r

  -- no fault in a step, and none after it
  free : (v : Verdict) (f : Option ℕ) → faulting v f ≡ None → f ≡ None
  free (keep r) f e = e
  free leave f e = e
  free (fault at) f e = absurd (let z : ◌≡◌ {A = ℕ} 0 1 = cc in omega arith)

  member : {a b : List Finding} {ms : List Met} → Meets a b ms → Ordered a → Ordered b → fault_of class ms ≡ None → Stays a b (kept class ms)
  unfolding kept fault_of verdict has
  member over o p e r = stays_none (class r.procedure)
    where
      stays_none : (c : Class) → false ≡ stays c false false
      stays_none DocumentOnly = refl
      stays_none Both = refl
      stays_none Either = refl
  member (first {x} {xs} {b} {ms} g m) o p e r =
      one_alone x xs b (kept class ms) (before_not x b g p)
      (member m o.1 p (free (verdict class (alone x)) (fault_of class ms) e))
      (class x.procedure) refl (fault_of class ms) e r
  member (second {y} {a} {ys} {ms} g m) o p e r =
      swapped (y ∷ ys) a (kept class (alone y ∷ ms))
      (one_alone y ys a (kept class ms) (before_not y a g o)
      (swapped a ys (kept class ms) (member m o p.1 (free (verdict class (alone y)) (fault_of class ms) e)))
      (class y.procedure) refl (fault_of class ms) e) r
  member (both {x} {y} {xs} {ys} {ms} g m) o p e r =
      one_twice x y xs ys (kept class ms) g (member m o.1 p.1 (free (verdict class (twice x y)) (fault_of class ms) e)) (eqb x.after y.after) refl (fault_of class ms) e r

  -- ---- the same of two lists
  pub kept_ordered : (a b : List Finding) → Ordered a → Ordered b → Ordered (kept class (met a b))
  kept_ordered a b = ordered (meets a b)

  pub kept_all : (P : Finding → Type 0) (a b : List Finding) → All P a → All P b → All P (kept class (met a b))
  kept_all P a b = all P (meets a b)

  pub kept_where : (a b : List Finding) → Ordered a → Ordered b → fault_of class (met a b) ≡ None → (r : Finding) → has r (kept class (met a b)) ≡ stays (class r.procedure) (has r a) (has r b)
  kept_where a b = member (meets a b)
