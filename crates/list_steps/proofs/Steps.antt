-- One step of the walk, from what the code tests.
-- Assumes nothing.
use mathlib.Core.Path.{◌≡◌, ◌∙◌}
use mathlib.Core.Bool.{Bool, true, false}
use Prim.Native.Nat.{ℕ, ◌+◌}
use borrow.Author.Tests.{eq-eqb, ne_eqb}
use Rattle.list_findings.specs.declared.Finding.{Finding}
use Rattle.list_findings.specs.declared.Class.{Class}
use Rattle.list_findings.specs.declared.Class.TheVariants.{DocumentOnly, Both, Either}
use Rattle.list_findings.specs.Findings.{width, class_of, precedes}
use Rattle.list_findings.specs.Merge.{verdict}
use Rattle.list_steps.specs.declared.Stepped.{Stepped}
use Rattle.list_steps.specs.declared.Stepped.TheVariants.{Fault, Leave, Keep}
use Rattle.list_steps.specs.Step.{alone_of, pair_of}

-- ---- a finding of one list alone, by its class
module _ (r : Finding) (i j : ℕ) (c : Class) (e : c ≡ class_of r.procedure) where
  pub alone_fault : c ≡ DocumentOnly → Fault r.first ≡ alone_of r i j
  unfolding verdict
  alone_fault f = rw (← e, f)

  pub alone_leave : c ≡ Both → Leave i j ≡ alone_of r i j
  unfolding verdict
  alone_leave f = rw (← e, f)

  pub alone_keep : c ≡ Either → Keep r i j ≡ alone_of r i j
  unfolding verdict
  alone_keep f = rw (← e, f)

-- ---- one of each list
module _ (x y : Finding) (i j : ℕ) (t : Bool) (e : t ≡ precedes x y) where
  pub pair_first : (s : Stepped) → t ≡ true → s ≡ alone_of x (i + width) j → s ≡ pair_of x y i j
  pair_first s f q = q ∙ rw (← e, f)

  module _ (f : t ≡ false) (u : Bool) (eu : u ≡ precedes y x) where
    pub pair_second : (s : Stepped) → u ≡ true → s ≡ alone_of y i (j + width) → s ≡ pair_of x y i j
    pair_second s g q = q ∙ rw (← e, f, ← eu, g)

    pub pair_keep : u ≡ false → x.after ≡ y.after → Keep x (i + width) (j + width) ≡ pair_of x y i j
    unfolding verdict
    pair_keep g h = rw (← e, f, ← eu, g, eq-eqb x.after y.after h)

    pub pair_fault : u ≡ false → (x.after ≡ y.after → ⊥) → Fault x.first ≡ pair_of x y i j
    unfolding verdict
    pair_fault g h = rw (← e, f, ← eu, g, ne_eqb x.after y.after h)
