-- The first fault that the walk meets has the least first byte of all faults of the two lists; where it meets none there is none.
-- Assumes nothing.
use Rattle.std.specs.Prelude.{Option, None, Some, ℕ}
use mathlib.Core.Path.{◌≡◌, refl, sym, ◌∙◌}
use mathlib.Core.Logic.{◌⊎◌, inl, inr}
use mathlib.Core.Bool.{Bool, true, false}
use mathlib.Core.List.{List, [], ◌∷◌}
use Prim.Native.Nat.{ℕ, ◌≤◌}
use native.Mathlib.Omega.{arith}
use borrow.Author.Tests.{eqb-true, eqb-false}
use lib.Dec.{eqb}
use Rattle.text_scan.specs.Choice.{pick}
use Rattle.text_scan.proofs.Tests.{never}
use Rattle.list_findings.specs.declared.Finding.{Finding}
use Rattle.list_findings.specs.declared.Class.{Class}
use Rattle.list_findings.specs.declared.Class.TheVariants.{DocumentOnly, Both, Either}
use Rattle.list_findings.specs.Lists.{Before, Ordered, Keyed, has, Lacks, FaultAt, in_first, in_second, two_ends, Least}
use Rattle.list_findings.specs.Merge.{Met, alone, met, of_alone, keep, fault, verdict, faulting, fault_of}
use Rattle.list_findings.proofs.Order.{below}
use Rattle.list_findings.proofs.Lists.{has_head, has_tail, has_cases, before_all, before_lacks, starts_least}
use Rattle.list_findings.proofs.Meets.{Meets, over, first, second, both, meets}

keyed_swap : (x y : Finding) → Keyed x y → Keyed y x
keyed_swap x y k = record { firsts = sym k.firsts; procedures = sym k.procedures }

keyed_trans : (x y z : Finding) → Keyed x y → Keyed y z → Keyed x z
keyed_trans x y z k l = record { firsts = k.firsts ∙ l.firsts; procedures = k.procedures ∙ l.procedures }

-- a list lacks what neither its head nor its rest has
lacks_cons : (x r : Finding) (xs : List Finding) → (Keyed r x → ⊥) → Lacks xs r → Lacks (x ∷ xs) r
lacks_cons x r xs h l q e k = go (has_cases q x xs e)
  where
    go : (q ≡ x) ⊎ (has q xs ≡ true) → ⊥
    go (inl i) = h (rw i at k)
    go (inr f) = l q f k

lacks_tail : (x r : Finding) (xs : List Finding) → Lacks (x ∷ xs) r → Lacks xs r
lacks_tail x r xs l q e k = l q (has_tail q x xs e) k

-- where the first byte of both heads is low, so is that of every fault
module _ (class : ℕ → Class) (a b : List Finding) (n : ℕ) (ha : (r : Finding) → has r a ≡ true → n ≤ r.first) (hb : (r : Finding) → has r b ≡ true → n ≤ r.first) where
  fault_high : (t : ℕ) → FaultAt class a b t → n ≤ t
  fault_high t (in_first r e l c i) = omega (arith, ha r e)
  fault_high t (in_second r e l c i) = omega (arith, hb r e)
  fault_high t (two_ends r q e f k d i) = omega (arith, ha r e)

module _ (class : ℕ → Class) where
  swap : (a b : List Finding) (t : ℕ) → FaultAt class a b t → FaultAt class b a t
  swap a b t (in_first r e l c i) = in_second r e l c i
  swap a b t (in_second r e l c i) = in_first r e l c i
  swap a b t (two_ends r q e f k d i) = two_ends q r f e (keyed_swap r q k) (λ x. d (sym x)) (sym k.firsts ∙ i)

  -- two pairs of lists with the same faults
  carry : (a b c d : List Finding) → ((t : ℕ) → FaultAt class a b t → FaultAt class c d t) → ((t : ℕ) → FaultAt class c d t → FaultAt class a b t) → (f : Option ℕ) → Least class a b f → Least class c d f
  carry a b c d g h (Some at) l = (g at l.0, λ t x. l.1 t (h t x))
  carry a b c d g h None l = λ t x. l t (h t x)

  swapped : (a b : List Finding) (f : Option ℕ) → Least class a b f → Least class b a f
  swapped a b f l = carry a b b a (swap a b) (swap b a) f l

  -- ---- a finding of the first list alone
  module _ (x : Finding) (xs b : List Finding) (g : Before x b) (o : Ordered (x ∷ xs)) (p : Ordered b) where
    grown : (t : ℕ) → FaultAt class xs b t → FaultAt class (x ∷ xs) b t
    grown t (in_first r e l c i) = in_first r (has_tail r x xs e) l c i
    grown t (in_second r e l c i) = in_second r e (lacks_cons x r xs (λ k. before_lacks x b g p r e (keyed_swap r x k)) l) c i
    grown t (two_ends r q e f k d i) = two_ends r q (has_tail r x xs e) f k d i

    shrunk : (class x.procedure ≡ DocumentOnly → ⊥) → (t : ℕ) → FaultAt class (x ∷ xs) b t → FaultAt class xs b t
    shrunk n t (in_first r e l c i) = go (has_cases r x xs e)
      where
        go : (r ≡ x) ⊎ (has r xs ≡ true) → FaultAt class xs b t
        go (inl j) = absurd (n (rw j at c))
        go (inr f) = in_first r f l c i
    shrunk n t (in_second r e l c i) = in_second r e (lacks_tail x r xs l) c i
    shrunk n t (two_ends r q e f k d i) = go (has_cases r x xs e)
      where
        go : (r ≡ x) ⊎ (has r xs ≡ true) → FaultAt class xs b t
        go (inl j) = absurd (before_lacks x b g p q f (rw j at k))
        go (inr h) = two_ends r q h f k d i

    least_alone : (f : Option ℕ) → Least class xs b f → (c : Class) → class x.procedure ≡ c → Least class (x ∷ xs) b (faulting (of_alone c x) f)
    least_alone f l DocumentOnly q =
        (in_first x (has_head x x xs refl) (before_lacks x b g p) q refl, fault_high class (x ∷ xs) b x.first (starts_least x xs o.0 o.1) (λ r e. (below x r (before_all x b g p r e)).starts))
    least_alone f l Both q = carry xs b (x ∷ xs) b grown (shrunk (λ e. absurd (let z : ◌≡◌ {A = ℕ} 0 1 = cc in omega arith))) f l
    least_alone f l Either q = carry xs b (x ∷ xs) b grown (shrunk (λ e. absurd (let z : ◌≡◌ {A = ℕ} 0 1 = cc in omega arith))) f l

  -- ---- one of each list
  -- the faults of the rest are faults, told for the first list and its head
  module _ (x y : Finding) (xs ys : List Finding) (k : Keyed x y) (o : Ordered (x ∷ xs)) (p : Ordered (y ∷ ys)) where
    -- a finding behind the head of its list has not the key of the other list's head
    other : (r : Finding) → has r xs ≡ true → Keyed r y → ⊥
    other r e l = before_lacks x xs o.0 o.1 r e (keyed_trans x y r k (keyed_swap r y l))

    other' : (q : Finding) → has q ys ≡ true → Keyed q x → ⊥
    other' q e l = before_lacks y ys p.0 p.1 q e (keyed_swap q y (keyed_trans q x y l k))

    grown_both : (t : ℕ) → FaultAt class xs ys t → FaultAt class (x ∷ xs) (y ∷ ys) t
    grown_both t (in_first r e l c i) = in_first r (has_tail r x xs e) (lacks_cons y r ys (other r e) l) c i
    grown_both t (in_second r e l c i) = in_second r (has_tail r y ys e) (lacks_cons x r xs (other' r e) l) c i
    grown_both t (two_ends r q e f l d i) = two_ends r q (has_tail r x xs e) (has_tail q y ys f) l d i

    shrunk_both : x.after ≡ y.after → (t : ℕ) → FaultAt class (x ∷ xs) (y ∷ ys) t → FaultAt class xs ys t
    shrunk_both n t (in_first r e l c i) = go (has_cases r x xs e)
      where
        go : (r ≡ x) ⊎ (has r xs ≡ true) → FaultAt class xs ys t
        go (inl j) = absurd (l y (has_head y y ys refl) (rw j k))
        go (inr f) = in_first r f (lacks_tail y r ys l) c i
    shrunk_both n t (in_second r e l c i) = go (has_cases r y ys e)
      where
        go : (r ≡ y) ⊎ (has r ys ≡ true) → FaultAt class xs ys t
        go (inl j) = absurd (l x (has_head x x xs refl) (rw j (keyed_swap x y k)))
        go (inr f) = in_second r f (lacks_tail x r xs l) c i
    shrunk_both n t (two_ends r q e f l d i) = go (has_cases r x xs e) (has_cases q y ys f)
      where
        go : (r ≡ x) ⊎ (has r xs ≡ true) → (q ≡ y) ⊎ (has q ys ≡ true) → FaultAt class xs ys t
        go (inl j) (inl h) = absurd (d (rw (j, h) n))
        go (inl j) (inr h) = absurd (other' q h (keyed_swap x q (rw j at l)))
        go (inr g) (inl h) = absurd (other r g (rw h at l))
        go (inr g) (inr h) = two_ends r q g h l d i

    least_both : (f : Option ℕ) → Least class xs ys f → (t : Bool) → eqb x.after y.after ≡ t → Least class (x ∷ xs) (y ∷ ys) (faulting (pick t (keep x) (fault x.first)) f)
    least_both f l true q = carry xs ys (x ∷ xs) (y ∷ ys) grown_both (shrunk_both (eqb-true x.after y.after q)) f l
    least_both f l false q =
        (two_ends x y (has_head x x xs refl) (has_head y y ys refl) k (eqb-false x.after y.after q) refl, fault_high class (x ∷ xs) (y ∷ ys) x.first (starts_least x xs o.0 o.1) (λ r e. omega (arith, starts_least y ys p.0 p.1 r e, k.firsts)))

  none : (t : ℕ) → FaultAt class [] [] t → ⊥
  unfolding has
  none t (in_first r e l c i) = never (sym e)
  none t (in_second r e l c i) = never (sym e)
  none t (two_ends r q e f k d i) = never (sym e)

  least : {a b : List Finding} {ms : List Met} → Meets a b ms → Ordered a → Ordered b → Least class a b (fault_of class ms)
  unfolding fault_of verdict
  least over o p = none
  least (first {x} {xs} {b} {ms} g m) o p =
      least_alone x xs b g o p (fault_of class ms) (least m o.1 p) (class x.procedure) refl
  least (second {y} {a} {ys} {ms} g m) o p =
      swapped (y ∷ ys) a (fault_of class (alone y ∷ ms))
      (least_alone y ys a g p o (fault_of class ms) (swapped a ys (fault_of class ms) (least m o p.1)) (class y.procedure) refl)
  least (both {x} {y} {xs} {ys} {ms} g m) o p =
      least_both x y xs ys g o p (fault_of class ms) (least m o.1 p.1) (eqb x.after y.after) refl

  pub fault_least : (a b : List Finding) → Ordered a → Ordered b → Least class a b (fault_of class (met a b))
  fault_least a b = least (meets a b)
