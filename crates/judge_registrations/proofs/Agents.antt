-- The agents of an establishment, 35 and 36: one law for each branch of the code.
-- Assumes nothing.
use Rattle.std.specs.Prelude.{Option, None, Some, ℕ}
use mathlib.Core.Path.{◌≡◌, sym, ◌∙◌}
use mathlib.Core.Bool.{Bool, true, false}
use Prim.Native.Nat.{ℕ}
use Rattle.text_scan.proofs.Tests.{and_true, and_false}
use Rattle.judge_paths.specs.Roles.{Establishment, Addr, OperationCode}
use Rattle.judge_tests.specs.declared.Test.TheVariants.{Agent, Import}
use Rattle.judge_draft.specs.Drafts.{Draft, is, is_empty}
use Rattle.judge_below.specs.Chosen.{chosen, wanted, only_kid}
use Rattle.judge_addresses.specs.Addresses.{address_holds, is_usa}
use Rattle.judge_registrations.specs.Registrations.{in_usa, breaks35, breaks36}

-- ---- the country of an establishment
module _ (d : Draft) (n : ℕ) (x : Option ℕ) (e : x ≡ only_kid d n Addr) where
  pub usa_nowhere : x ≡ None → false ≡ in_usa d n
  unfolding in_usa
  usa_nowhere f = rw (← e, f)

  pub usa_there : (k : ℕ) → x ≡ Some k → (b : Bool) → b ≡ is_usa d k → b ≡ in_usa d n
  unfolding in_usa
  usa_there k f b g = g ∙ rw (← e, f)

-- ---- 35 and 36
module _ (d : Draft) (n : ℕ) (a : Bool) (e : a ≡ is d Establishment n) where
  pub other_35 : a ≡ false → false ≡ breaks35 d n
  unfolding breaks35
  other_35 f = rw (← e, f)

  pub other_36 : a ≡ false → false ≡ breaks36 d n
  unfolding breaks36
  other_36 f = rw (← e, f)

  module _ (f : a ≡ true) (b : Bool) (g : b ≡ in_usa d n) where
    pub usa_35 : b ≡ true → false ≡ breaks35 d n
    unfolding breaks35
    usa_35 h = rw (← e, f, ← g, h) (sym (and_false (address_holds d n)))

    pub abroad_36 : b ≡ false → false ≡ breaks36 d n
    unfolding breaks36
    abroad_36 h = rw (← e, f, ← g, h) (sym (and_false (address_holds d n)))

    module _ (s : Bool) (i : s ≡ is_empty (chosen d (wanted OperationCode 4 Agent) n)) where
      module _ (h : b ≡ false) where
        pub agent_35 : s ≡ false → false ≡ breaks35 d n
        unfolding breaks35
        agent_35 j = rw (← e, f, ← g, h, ← i, j) (sym (and_false (address_holds d n)))

        pub address_35 : s ≡ true → (r : Bool) → r ≡ address_holds d n → r ≡ breaks35 d n
        unfolding breaks35
        address_35 j r k = k ∙ rw (← e, f, ← g, h, ← i, j) (sym (and_true (address_holds d n)))

      module _ (h : b ≡ true) where
        pub agent_36 : s ≡ false → (r : Bool) → r ≡ address_holds d n → r ≡ breaks36 d n
        unfolding breaks36
        agent_36 j r k = k ∙ rw (← e, f, ← g, h, ← i, j) (sym (and_true (address_holds d n)))

        module _ (j : s ≡ true) (t : Bool) (k : t ≡ is_empty (chosen d (wanted OperationCode 4 Import) n)) where
          pub import_36 : t ≡ false → (r : Bool) → r ≡ address_holds d n → r ≡ breaks36 d n
          unfolding breaks36
          import_36 l r m = m ∙ rw (← e, f, ← g, h, ← i, j, ← k, l) (sym (and_true (address_holds d n)))

          pub neither_36 : t ≡ true → false ≡ breaks36 d n
          unfolding breaks36
          neither_36 l = rw (← e, f, ← g, h, ← i, j, ← k, l) (sym (and_false (address_holds d n)))
