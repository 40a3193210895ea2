-- Ordered lists of findings: what precedes the first precedes all, and two ordered lists with the same findings are equal.
-- Assumes nothing.
use mathlib.Core.Path.{◌≡◌, refl, sym, ◌∙◌}
use mathlib.Core.Logic.{◌⊎◌, inl, inr}
use mathlib.Core.Bool.{Bool, true, false}
use mathlib.Core.List.{List, [], ◌∷◌}
use Prim.Native.Nat.{◌≤◌}
use native.Mathlib.Omega.{arith}
use borrow.Author.Tests.{eqb-true, eq-eqb}
use lib.Dec.{eqb}
use Rattle.text_scan.specs.Choice.{◌or◌, ◌and◌}
use Rattle.text_scan.proofs.Tests.{never, and_left, and_right, or_true}
use Rattle.list_findings.specs.declared.Finding.{Finding}
use Rattle.list_findings.specs.Findings.{precedes}
use Rattle.list_findings.specs.Lists.{Before, Ordered, same, has, Keyed}
use Rattle.list_findings.proofs.Order.{below, transitive, asymmetric, not_keyed, precedes_keyed}

pub same_is : (x y : Finding) → same x y ≡ true → x ≡ y
same_is x y e = λ i. record { procedure = p i; first = f i; after = a i }
  where
    p : x.procedure ≡ y.procedure
    p = eqb-true x.procedure y.procedure (and_left (eqb x.procedure y.procedure) (eqb x.first y.first and eqb x.after y.after) e)

    rest : eqb x.first y.first and eqb x.after y.after ≡ true
    rest = and_right (eqb x.procedure y.procedure) (eqb x.first y.first and eqb x.after y.after) e

    f : x.first ≡ y.first
    f = eqb-true x.first y.first (and_left (eqb x.first y.first) (eqb x.after y.after) rest)

    a : x.after ≡ y.after
    a = eqb-true x.after y.after (and_right (eqb x.first y.first) (eqb x.after y.after) rest)

pub same_self : (x : Finding) → same x x ≡ true
same_self x = rw (eq-eqb x.procedure x.procedure refl, eq-eqb x.first x.first refl, eq-eqb x.after x.after refl)

pub is_same : (x y : Finding) → x ≡ y → same x y ≡ true
is_same x y e = rw e (same_self y)

-- the head, or one of the rest
pub has_head : (r x : Finding) (xs : List Finding) → r ≡ x → has r (x ∷ xs) ≡ true
unfolding has
has_head r x xs e = rw (is_same r x e)

pub has_tail : (r x : Finding) (xs : List Finding) → has r xs ≡ true → has r (x ∷ xs) ≡ true
unfolding has
has_tail r x xs e = rw e (or_true (same r x))

pub has_cases : (r x : Finding) (xs : List Finding) → has r (x ∷ xs) ≡ true → (r ≡ x) ⊎ (has r xs ≡ true)
unfolding has
has_cases r x xs e = go (same r x) refl e
  where
    go : (t : Bool) → same r x ≡ t → t or has r xs ≡ true → (r ≡ x) ⊎ (has r xs ≡ true)
    go true q e = inl (same_is r x q)
    go false q e = inr e

-- ---- order
pub before_trans : (l x : Finding) (rs : List Finding) → precedes l x ≡ true → Before x rs → Before l rs
before_trans l x [] p h = tt
before_trans l x (r ∷ rs) p h = transitive l x r p h

pub before_keyed : (x y : Finding) (rs : List Finding) → Keyed x y → Before y rs → Before x rs
before_keyed x y [] k h = tt
before_keyed x y (r ∷ rs) k h = precedes_keyed x y r k h

pub before_all : (l : Finding) (rs : List Finding) → Before l rs → Ordered rs → (r : Finding) → has r rs ≡ true → precedes l r ≡ true
unfolding has
before_all l [] h o r e = never (sym e)
before_all l (x ∷ xs) h o r e = go (has_cases r x xs e) (λ f. before_all l xs (before_trans l x xs h o.0) o.1 r f)
  where
    go : (r ≡ x) ⊎ (has r xs ≡ true) → (has r xs ≡ true → precedes l r ≡ true) → precedes l r ≡ true
    go (inl q) k = rw q h
    go (inr f) k = k f

-- what precedes all is not among them, nor its procedure with its first byte
pub before_lacks : (l : Finding) (rs : List Finding) → Before l rs → Ordered rs → (q : Finding) → has q rs ≡ true → Keyed l q → ⊥
before_lacks l rs h o q e k = not_keyed l q (before_all l rs h o q e) k

pub before_not : (l : Finding) (rs : List Finding) → Before l rs → Ordered rs → has l rs ≡ false
before_not l rs h o = go (has l rs) refl
  where
    go : (t : Bool) → has l rs ≡ t → t ≡ false
    go true q = absurd (before_lacks l rs h o l q (record { firsts = refl; procedures = refl }))
    go false q = refl

-- the first byte of the head is the least
pub starts_least : (x : Finding) (xs : List Finding) → Before x xs → Ordered xs → (r : Finding) → has r (x ∷ xs) ≡ true → x.first ≤ r.first
starts_least x xs h o r e = go (has_cases r x xs e)
  where
    go : (r ≡ x) ⊎ (has r xs ≡ true) → x.first ≤ r.first
    go (inl q) = rw q (omega arith)
    go (inr f) = (below x r (before_all x xs h o r f)).starts

-- ---- two ordered lists with the same findings
heads : (x y : Finding) (xs ys : List Finding) → Ordered (x ∷ xs) → Ordered (y ∷ ys) → ((r : Finding) → has r (x ∷ xs) ≡ has r (y ∷ ys)) → x ≡ y
heads x y xs ys o p f = go (has_cases x y ys (sym (f x) ∙ has_head x x xs refl)) (has_cases y x xs (f y ∙ has_head y y ys refl))
  where
    go : (x ≡ y) ⊎ (has x ys ≡ true) → (y ≡ x) ⊎ (has y xs ≡ true) → x ≡ y
    go (inl e) k = e
    go (inr e) (inl k) = sym k
    go (inr e) (inr k) = never (sym (before_all x xs o.0 o.1 y k) ∙ asymmetric y x (before_all y ys p.0 p.1 x e))

tails : (x y : Finding) (xs ys : List Finding) → Ordered (x ∷ xs) → Ordered (y ∷ ys) → x ≡ y → (r : Finding) → has r (x ∷ xs) ≡ has r (y ∷ ys) → has r xs ≡ has r ys
unfolding has
tails x y xs ys o p e r f = go (same r x) refl (rw (← e) at f)
  where
    go : (t : Bool) → same r x ≡ t → t or has r xs ≡ t or has r ys → has r xs ≡ has r ys
    go true q f =
        let a : has r xs ≡ false = rw (same_is r x q) (before_not x xs o.0 o.1) in
        let b : has r ys ≡ false = rw (same_is r x q, e) (before_not y ys p.0 p.1) in
        a ∙ sym b
    go false q f = f

pub ordered_same : (xs ys : List Finding) → Ordered xs → Ordered ys → ((r : Finding) → has r xs ≡ has r ys) → xs ≡ ys
unfolding has
ordered_same [] [] o p f = refl
ordered_same [] (y ∷ ys) o p f = never (sym (has_head y y ys refl) ∙ sym (f y))
ordered_same (x ∷ xs) [] o p f = never (sym (has_head x x xs refl) ∙ f x)
ordered_same (x ∷ xs) (y ∷ ys) o p f =
    let e = heads x y xs ys o p f in
    let t = ordered_same xs ys o.1 p.1 (λ r. tails x y xs ys o p e r (f r)) in
    λ i. e i ∷ t i
