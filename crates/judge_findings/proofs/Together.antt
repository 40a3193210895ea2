-- Two lists that are told of one draft: the merge walks them together, and keeps just what the joined file would find.
-- Assumes nothing.
use Rattle.std.specs.Prelude.{None}
use mathlib.Core.Path.{◌≡◌, refl, sym}
use mathlib.Core.Bool.{Bool, true, false}
use mathlib.Core.List.{List, [], ◌∷◌}
use Prim.Native.Nat.{ℕ}
use borrow.Author.Tests.{eq-eqb}
use Rattle.text_scan.specs.Choice.{pick}
use Rattle.text_scan.proofs.Tests.{never}
use Rattle.list_findings.specs.declared.Finding.{Finding}
use Rattle.list_findings.specs.declared.Class.{Class}
use Rattle.list_findings.specs.declared.Class.TheVariants.{DocumentOnly, Both, Either}
use Rattle.list_findings.specs.Findings.{precedes}
use Rattle.list_findings.specs.Lists.{Before, Ordered, stays}
use Rattle.list_findings.specs.Merge.{alone, twice, among, met, verdict, kept, fault_of}
use Rattle.list_findings.proofs.Order.{irreflexive, asymmetric}

-- ---- what two lists meet
met_both : (x : Finding) (a b : List Finding) → met (x ∷ a) (x ∷ b) ≡ twice x x ∷ met a b
unfolding met among
met_both x a b = rw (irreflexive x)

met_first : (x : Finding) (a b : List Finding) → Before x b → met (x ∷ a) b ≡ alone x ∷ met a b
unfolding met among
met_first x a [] f = refl
met_first x a (y ∷ b) f = rw f

met_second : (x : Finding) (a b : List Finding) → Before x a → met a (x ∷ b) ≡ alone x ∷ met a b
unfolding met among
met_second x [] b f = refl
met_second x (y ∷ a) b f = rw (asymmetric x y f, f)

-- ---- one finding more
abbrev add : Bool → Finding → List Finding → List Finding
add t x xs = pick t (x ∷ xs) xs

-- a draft's findings in order, and whether each stands in the first list, the second and that under the joined file
pub record Mark : Type 0 where
  pub finding : Finding
  pub first : Bool
  pub second : Bool
  pub joined : Bool

abbrev pub these : (Mark → Bool) → List Mark → List Finding
these f [] = []
these f (x ∷ xs) = add (f x) x.finding (these f xs)

-- x precedes each marked finding, and those are in order
abbrev pub Ahead : Finding → List Mark → Type 0
Ahead x [] = Unit {0}
Ahead x (y ∷ ys) = (precedes x y.finding ≡ true) × Ahead x ys

abbrev pub InOrder : List Mark → Type 0
InOrder [] = Unit {0}
InOrder (x ∷ xs) = Ahead x.finding xs × InOrder xs

-- a mark is as the class of its procedure says; what asks no table is found under both files or under neither
pub record Right (class : ℕ → Class) (x : Mark) : Type 0 where
  pub stands : x.joined ≡ stays (class x.finding.procedure) x.first x.second
  pub alike : class x.finding.procedure ≡ DocumentOnly → x.first ≡ x.second

abbrev pub AllRight : (ℕ → Class) → List Mark → Type 0
AllRight class [] = Unit {0}
AllRight class (x ∷ xs) = Right class x × AllRight class xs

ahead_before : (f : Mark → Bool) (x : Finding) (ys : List Mark) → Ahead x ys → Before x (these f ys)
ahead_before f x [] h = tt
ahead_before f x (y ∷ ys) h = go (f y) (ahead_before f x ys h.1)
  where
    go : (t : Bool) → Before x (these f ys) → Before x (add t y.finding (these f ys))
    go true b = h.0
    go false b = b

pub these_ordered : (f : Mark → Bool) (xs : List Mark) → InOrder xs → Ordered (these f xs)
these_ordered f [] o = tt
these_ordered f (x ∷ xs) o = go (f x) (these_ordered f xs o.1)
  where
    go : (t : Bool) → Ordered (these f xs) → Ordered (add t x.finding (these f xs))
    go true r = (ahead_before f x.finding xs o.0, r)
    go false r = r

-- ---- the merge of the two lists
module _ (class : ℕ → Class) where
  pub record Agrees (a b c : List Finding) : Type 0 where
    pub list : kept class (met a b) ≡ c
    pub faultless : fault_of class (met a b) ≡ None

  module _ (x : Finding) (a b c : List Finding) (f : Before x a) (g : Before x b) (r : Agrees a b c) where
    kept_both : Agrees (x ∷ a) (x ∷ b) (x ∷ c)
    unfolding kept fault_of verdict
    kept_both =
        record {
          list = rw (met_both x a b, eq-eqb x.after x.after refl, r.list);
          faultless = rw (met_both x a b, eq-eqb x.after x.after refl) r.faultless;
        }

    left_first : class x.procedure ≡ Both → Agrees (x ∷ a) b c
    unfolding kept fault_of verdict
    left_first e = record { list = rw (met_first x a b g, e) r.list; faultless = rw (met_first x a b g, e) r.faultless }

    left_second : class x.procedure ≡ Both → Agrees a (x ∷ b) c
    unfolding kept fault_of verdict
    left_second e = record { list = rw (met_second x a b f, e) r.list; faultless = rw (met_second x a b f, e) r.faultless }

    kept_first : class x.procedure ≡ Either → Agrees (x ∷ a) b (x ∷ c)
    unfolding kept fault_of verdict
    kept_first e = record { list = rw (met_first x a b g, e, r.list); faultless = rw (met_first x a b g, e) r.faultless }

    kept_second : class x.procedure ≡ Either → Agrees a (x ∷ b) (x ∷ c)
    unfolding kept fault_of verdict
    kept_second e = record { list = rw (met_second x a b f, e, r.list); faultless = rw (met_second x a b f, e) r.faultless }

    one_more : (s t u : Bool) (k : Class) → class x.procedure ≡ k → u ≡ stays k s t → (k ≡ DocumentOnly → s ≡ t) → Agrees (add s x a) (add t x b) (add u x c)
    one_more true true u DocumentOnly e h l = rw h kept_both
    one_more true true u Both e h l = rw h kept_both
    one_more true true u Either e h l = rw h kept_both
    one_more true false u DocumentOnly e h l = never (l refl)
    one_more true false u Both e h l = rw h (left_first e)
    one_more true false u Either e h l = rw h (kept_first e)
    one_more false true u DocumentOnly e h l = never (sym (l refl))
    one_more false true u Both e h l = rw h (left_second e)
    one_more false true u Either e h l = rw h (kept_second e)
    one_more false false u DocumentOnly e h l = rw h r
    one_more false false u Both e h l = rw h r
    one_more false false u Either e h l = rw h r

  pub together : (xs : List Mark) → InOrder xs → AllRight class xs → Agrees (these (λ x. x.first) xs) (these (λ x. x.second) xs) (these (λ x. x.joined) xs)
  unfolding met kept fault_of
  together [] o r = record { list = refl; faultless = refl }
  together (x ∷ xs) o r =
      one_more x.finding (these (λ x. x.first) xs) (these (λ x. x.second) xs) (these (λ x. x.joined) xs)
      (ahead_before (λ x. x.first) x.finding xs o.0)
      (ahead_before (λ x. x.second) x.finding xs o.0)
      (together xs o.1 r.1)
      x.first x.second x.joined (class x.finding.procedure) refl r.0.stands r.0.alike
