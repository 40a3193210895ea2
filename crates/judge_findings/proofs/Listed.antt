-- The list that is told of a draft: it is in order, each record valid, and it holds just the records of what is broken. Marks of all procedures
-- at all elements are in order, and the list under each file is those that are marked.
-- Assumes nothing.
use mathlib.Core.Path.{◌≡◌, refl, sym, ◌∙◌, ap}
use mathlib.Core.Logic.{◌⊎◌, inl, inr}
use mathlib.Core.Bool.{Bool, true, false}
use mathlib.Core.List.{List, [], ◌∷◌, ◌++◌}
use Prim.Native.Nat.{ℕ, zero, suc, ◌+◌, ◌<◌, ◌≤◌}
use native.Mathlib.Omega.{arith}
use borrow.Author.Tests.{lt-ltb, le-leb, eqb-true, eqb-false, ltb-true, ltb-false}
use lib.Dec.{ltb, eqb}
use Rattle.text_scan.specs.Choice.{pick, ◌or◌}
use Rattle.text_scan.proofs.Tests.{never, pick_case}
use Rattle.list_findings.specs.declared.Finding.{Finding}
use Rattle.list_findings.specs.declared.Class.{Class}
use Rattle.list_findings.specs.Findings.{last_procedure, is_valid}
use Rattle.list_findings.specs.Lists.{Ordered, All, Good, same, has}
use Rattle.list_findings.proofs.Order.{first_below, first_same}
use Rattle.list_findings.proofs.Lists.{same_self, has_head, has_tail, has_cases}
use Rattle.judge_draft.specs.Drafts.{Draft, element_count, first, after}
use Rattle.judge_findings.specs.Listed.{finding, listed_at, listed_from, listed}
use Rattle.judge_findings.specs.Holding.{Judged, Holds, InDocumentOrder}
use Rattle.judge_findings.proofs.Together.{Mark, these, Ahead, InOrder, Right, AllRight, these_ordered}

-- ---- marks of a draft
module _ (d : Draft) (a b c : ℕ → ℕ → Bool) where
  abbrev pub mark : ℕ → ℕ → Mark
  mark n p = record { finding = finding d n p; first = a n p; second = b n p; joined = c n p }

  abbrev pub marks_at : ℕ → ℕ → ℕ → List Mark
  marks_at n p zero = []
  marks_at n p (suc m) = mark n p ∷ marks_at n (p + 1) m

  abbrev pub marks_from : ℕ → ℕ → List Mark
  marks_from n zero = []
  marks_from n (suc m) = marks_at n 1 last_procedure ++ marks_from (n + 1) m

  -- ---- in order
  ahead_later : (x : Finding) (n : ℕ) → x.first < first d n → (q m : ℕ) (rest : List Mark) → Ahead x rest → Ahead x (marks_at n q m ++ rest)
  ahead_later x n h q zero rest r = r
  ahead_later x n h q (suc m) rest r = (sym (first_below x (finding d n q) h), ahead_later x n h (q + 1) m rest r)

  ahead_same : (n p q : ℕ) → p < q → (m : ℕ) (rest : List Mark) → Ahead (finding d n p) rest → Ahead (finding d n p) (marks_at n q m ++ rest)
  ahead_same n p q h zero rest r = r
  ahead_same n p q h (suc m) rest r =
      (sym (first_same (finding d n p) (finding d n q) (omega arith) (omega arith)) ∙ lt-ltb p q h, ahead_same n p (q + 1) (omega arith) m rest r)

  ahead_from : (x : Finding) (m n : ℕ) → ((k : ℕ) → n ≤ k → k < n + m → x.first < first d k) → Ahead x (marks_from n m)
  ahead_from x zero n f = tt
  ahead_from x (suc m) n f =
      ahead_later x n (f n (omega arith) (omega arith)) 1 last_procedure (marks_from (n + 1) m)
      (ahead_from x m (n + 1) (λ k h g. f k (omega arith) (omega arith)))

  order_at : (n p m : ℕ) (rest : List Mark) → ((q : ℕ) → Ahead (finding d n q) rest) → InOrder rest → InOrder (marks_at n p m ++ rest)
  order_at n p zero rest f o = o
  order_at n p (suc m) rest f o = (ahead_same n p (p + 1) (omega arith) m rest (f p), order_at n (p + 1) m rest f o)

  order_from : InDocumentOrder d → (m n : ℕ) → n + m ≤ element_count d → InOrder (marks_from n m)
  order_from i zero n h = tt
  order_from i (suc m) n h =
      order_at n 1 last_procedure (marks_from (n + 1) m)
      (λ q. ahead_from (finding d n q) m (n + 1) (λ k g f. i.rises n k (omega arith) (omega arith)))
      (order_from i m (n + 1) (omega arith))

  pub marks_ordered : InDocumentOrder d → InOrder (marks_from 0 (element_count d))
  marks_ordered i = order_from i (element_count d) 0 (omega arith)

  -- ---- each right
  module _ (class : ℕ → Class) (r : (n p : ℕ) → Right class (mark n p)) where
    right_at : (n p m : ℕ) (rest : List Mark) → AllRight class rest → AllRight class (marks_at n p m ++ rest)
    right_at n p zero rest o = o
    right_at n p (suc m) rest o = (r n p, right_at n (p + 1) m rest o)

    right_from : (n m : ℕ) → AllRight class (marks_from n m)
    right_from n zero = tt
    right_from n (suc m) = right_at n 1 last_procedure (marks_from (n + 1) m) (right_from (n + 1) m)

    pub marks_right : AllRight class (marks_from 0 (element_count d))
    marks_right = right_from 0 (element_count d)

  -- ---- those that are marked are listed
  module _ (f : Mark → Bool) (g : ℕ → ℕ → Bool) (e : (n p : ℕ) → f (mark n p) ≡ g n p) where
    these_at : (n p m : ℕ) (rest : List Mark) → these f (marks_at n p m ++ rest) ≡ listed_at d g n p m ++ these f rest
    unfolding listed_at
    these_at n p zero rest = refl
    these_at n p (suc m) rest = rw (e n p) (go (g n p) (these_at n (p + 1) m rest))
      where
        go : (t : Bool) → these f (marks_at n (p + 1) m ++ rest) ≡ listed_at d g n (p + 1) m ++ these f rest → pick t (finding d n p ∷ these f (marks_at n (p + 1) m ++ rest)) (these f (marks_at n (p + 1) m ++ rest)) ≡ pick t (finding d n p ∷ listed_at d g n (p + 1) m) (listed_at d g n (p + 1) m) ++ these f rest
        go true h = ap (λ l. finding d n p ∷ l) h
        go false h = h

    these_from : (n m : ℕ) → these f (marks_from n m) ≡ listed_from d g n m
    unfolding listed_from
    these_from n zero = refl
    these_from n (suc m) = these_at n 1 last_procedure (marks_from (n + 1) m) ∙ ap (λ l. listed_at d g n 1 last_procedure ++ l) (these_from (n + 1) m)

    pub these_listed : these f (marks_from 0 (element_count d)) ≡ listed d g
    unfolding listed
    these_listed = these_from 0 (element_count d)

-- ---- one list
module _ (d : Draft) (b : ℕ → ℕ → Bool) where
  pub listed_ordered : InDocumentOrder d → Ordered (listed d b)
  listed_ordered i =
      rw (these_listed d b b b (λ x. x.first) b (λ n p. refl)) at
      (these_ordered (λ x. x.first) (marks_from d b b b 0 (element_count d)) (marks_ordered d b b b i))

  -- what is held is broken
  holds_at : (n : ℕ) → n < element_count d → (p m : ℕ) → 1 ≤ p → p + m ≤ last_procedure + 1 → (r : Finding) → has r (listed_at d b n p m) ≡ true → Holds d b r
  unfolding listed_at has
  holds_at n h p zero l g r e = never (sym e)
  holds_at n h p (suc m) l g r e = go (b n p) refl e (holds_at n h (p + 1) m (omega arith) (omega arith) r)
    where
      go : (t : Bool) → b n p ≡ t → has r (pick t (finding d n p ∷ listed_at d b n (p + 1) m) (listed_at d b n (p + 1) m)) ≡ true → (has r (listed_at d b n (p + 1) m) ≡ true → Holds d b r) → Holds d b r
      go true q e f = inner (has_cases r (finding d n p) (listed_at d b n (p + 1) m) e)
        where
          inner : (r ≡ finding d n p) ⊎ (has r (listed_at d b n (p + 1) m) ≡ true) → Holds d b r
          inner (inl i) = record { n = n; p = p; judged = record { element = h; least = l; most = omega arith }; broken = q; is = i }
          inner (inr i) = f i
      go false q e f = f e

  has_joined : (r : Finding) (xs ys : List Finding) → has r (xs ++ ys) ≡ has r xs or has r ys
  unfolding has
  has_joined r [] ys = refl
  has_joined r (x ∷ xs) ys = go (same r x) (has_joined r xs ys)
    where
      go : (t : Bool) → has r (xs ++ ys) ≡ has r xs or has r ys → t or has r (xs ++ ys) ≡ (t or has r xs) or has r ys
      go true e = refl
      go false e = e

  holds_from : (m n : ℕ) → n + m ≤ element_count d → (r : Finding) → has r (listed_from d b n m) ≡ true → Holds d b r
  unfolding listed_from has
  holds_from zero n h r e = never (sym e)
  holds_from (suc m) n h r e =
      go (has r (listed_at d b n 1 last_procedure)) refl (sym (has_joined r (listed_at d b n 1 last_procedure) (listed_from d b (n + 1) m)) ∙ e)
      (holds_from m (n + 1) (omega arith) r)
    where
      go : (t : Bool) → has r (listed_at d b n 1 last_procedure) ≡ t → t or has r (listed_from d b (n + 1) m) ≡ true → (has r (listed_from d b (n + 1) m) ≡ true → Holds d b r) → Holds d b r
      go true q e f = holds_at n (omega arith) 1 last_procedure (omega arith) (omega arith) r q
      go false q e f = f e

  pub listed_holds : (r : Finding) → has r (listed d b) ≡ true → Holds d b r
  unfolding listed
  listed_holds r e = holds_from (element_count d) 0 (omega arith) r e

  -- what is broken is held
  broken_at : (n p : ℕ) → b n p ≡ true → (m q : ℕ) → q ≤ p → p < q + m → has (finding d n p) (listed_at d b n q m) ≡ true
  unfolding listed_at has
  broken_at n p e zero q h g = absurd (omega arith)
  broken_at n p e (suc m) q h g = go (eqb q p) refl (broken_at n p e m (q + 1))
    where
      go : (t : Bool) → eqb q p ≡ t → (q + 1 ≤ p → p < q + 1 + m → has (finding d n p) (listed_at d b n (q + 1) m) ≡ true) → has (finding d n p) (pick (b n q) (finding d n q ∷ listed_at d b n (q + 1) m) (listed_at d b n (q + 1) m)) ≡ true
      go true i f =
          let j : q ≡ p = eqb-true q p i in
          rw (j, e, same_self (finding d n p))
      go false i f =
          let j : q ≡ p → ⊥ = eqb-false q p i in
          pick_case (λ l. has (finding d n p) l ≡ true) (b n q) (finding d n q ∷ listed_at d b n (q + 1) m) (listed_at d b n (q + 1) m)
          (λ _. has_tail (finding d n p) (finding d n q) (listed_at d b n (q + 1) m) (f (omega arith) (omega arith)))
          (λ _. f (omega arith) (omega arith))

  or_right : (x y : Bool) → y ≡ true → x or y ≡ true
  or_right true y e = refl
  or_right false y e = e

  broken_from : (n p : ℕ) → 1 ≤ p → p ≤ last_procedure → b n p ≡ true → (m k : ℕ) → k ≤ n → n < k + m → has (finding d n p) (listed_from d b k m) ≡ true
  unfolding listed_from has
  broken_from n p l g e zero k h i = absurd (omega arith)
  broken_from n p l g e (suc m) k h i =
      has_joined (finding d n p) (listed_at d b k 1 last_procedure) (listed_from d b (k + 1) m) ∙ go (eqb k n) refl (broken_from n p l g e m (k + 1))
    where
      go : (t : Bool) → eqb k n ≡ t → (k + 1 ≤ n → n < k + 1 + m → has (finding d n p) (listed_from d b (k + 1) m) ≡ true) → has (finding d n p) (listed_at d b k 1 last_procedure) or has (finding d n p) (listed_from d b (k + 1) m) ≡ true
      go true q f =
          let j : k ≡ n = eqb-true k n q in
          rw (j, broken_at n p e last_procedure 1 l (omega arith))
      go false q f =
          let j : k ≡ n → ⊥ = eqb-false k n q in
          or_right (has (finding d n p) (listed_at d b k 1 last_procedure)) (has (finding d n p) (listed_from d b (k + 1) m)) (f (omega arith) (omega arith))

  pub broken_listed : (n p : ℕ) → Judged d n p → b n p ≡ true → has (finding d n p) (listed d b) ≡ true
  unfolding listed
  broken_listed n p j e = broken_from n p j.least j.most e (element_count d) 0 (omega arith) (omega (arith, j.element))

  -- the record of a procedure and an element is held exactly when it is broken there
  pub held_exactly : InDocumentOrder d → (n p : ℕ) → Judged d n p → has (finding d n p) (listed d b) ≡ b n p
  held_exactly i n p j = go (b n p) refl (has (finding d n p) (listed d b)) refl
    where
      there : (h : Holds d b (finding d n p)) → b n p ≡ true
      there h = at (eqb n h.n) refl
        where
          procedures : p ≡ h.p
          procedures = ap (λ r. r.procedure) h.is

          firsts : first d n ≡ first d h.n
          firsts = ap (λ r. r.first) h.is

          at : (t : Bool) → eqb n h.n ≡ t → b n p ≡ true
          at true q = rw (eqb-true n h.n q, procedures) h.broken
          at false q = side (ltb n h.n) refl
            where
              differ : n ≡ h.n → ⊥
              differ = eqb-false n h.n q

              side : (t : Bool) → ltb n h.n ≡ t → b n p ≡ true
              side true s = absurd (omega (arith, firsts, i.rises n h.n (ltb-true n h.n s) h.judged.element))
              side false s =
                  let less : h.n < n = omega (arith, ltb-false n h.n s, differ) in
                  absurd (omega (arith, firsts, i.rises h.n n less j.element))

      go : (t : Bool) → b n p ≡ t → (u : Bool) → has (finding d n p) (listed d b) ≡ u → has (finding d n p) (listed d b) ≡ b n p
      go true e u f = broken_listed n p j e ∙ sym e
      go false e true f = never (sym (there (listed_holds (finding d n p) f)) ∙ e)
      go false e false f = f ∙ sym e

  -- each record is valid
  all_held : (P : Finding → Type 0) (l : List Finding) → ((r : Finding) → has r l ≡ true → P r) → All P l
  all_held P [] f = tt
  all_held P (x ∷ xs) f = (f x (has_head x x xs refl), all_held P xs (λ r h. f r (has_tail r x xs h)))

  pub listed_good : InDocumentOrder d → Good (listed d b)
  listed_good i = record { ordered = listed_ordered i; valid = all_held (λ r. is_valid r ≡ true) (listed d b) (λ r e. valid r (listed_holds r e)) }
    where
      valid : (r : Finding) → Holds d b r → is_valid r ≡ true
      valid r h = rw (h.is, le-leb 1 h.p h.judged.least, le-leb h.p last_procedure h.judged.most, lt-ltb (first d h.n) (after d h.n) (i.ends h.n h.judged.element))

  -- it is empty exactly when nothing is broken
  pub empty_unbroken : listed d b ≡ [] → (n p : ℕ) → Judged d n p → b n p ≡ false
  unfolding has
  empty_unbroken e n p j = go (b n p) refl
    where
      go : (t : Bool) → b n p ≡ t → b n p ≡ false
      go true q = never (sym (sym (ap (has (finding d n p)) e) ∙ broken_listed n p j q))
      go false q = q

  pub unbroken_empty : ((n p : ℕ) → Judged d n p → b n p ≡ false) → listed d b ≡ []
  unbroken_empty f = go (listed d b) refl
    where
      go : (l : List Finding) → listed d b ≡ l → l ≡ []
      go [] e = refl
      go (x ∷ xs) e =
          let h = listed_holds x (rw e (has_head x x xs refl)) in
          never (sym h.broken ∙ f h.n h.p h.judged)
