-- 21 and 22: what is demanded of the history. One law for each branch of the code.
-- Assumes nothing.
use Rattle.std.specs.Prelude.{None, Some}
use mathlib.Core.Path.{◌≡◌, refl, ◌∙◌}
use mathlib.Core.Bool.{Bool, true, false}
use Prim.Native.Nat.{ℕ}
use Rattle.text_scan.specs.Choice.{pick, ◌and◌}
use Rattle.text_scan.proofs.Tests.{and_false}
use Rattle.judge_paths.specs.declared.DocumentType.{DocumentType}
use Rattle.judge_paths.specs.declared.DocumentType.TheVariants.{Registration, Request}
use Rattle.judge_draft.specs.declared.Demand.{Demand}
use Rattle.judge_draft.specs.declared.Demand.TheVariants as demands
use Rattle.judge_draft.specs.Drafts.{Draft}
use Rattle.judge_draft.specs.Demands.{demand_if}
use Rattle.judge_below.specs.Chosen.{the}
use Rattle.judge_header.specs.declared.Header.{Header}
use Rattle.judge_header.specs.Header.{set_holds}
use Rattle.judge_keys.specs.Keys.{is_labeler_id, is_registrant_id, demand21, demand22}

-- ---- 21
module _ (d : Draft) (x : Header) (t : DocumentType) (n : ℕ) where
  abbrev Elsewhere : Demand
  Elsewhere = demand_if (set_holds d x) (demands.NoKeyElsewhere t n (the x.set))

  pub elsewhere_without_set : x.set ≡ None → demands.Nothing ≡ Elsewhere
  unfolding set_holds
  elsewhere_without_set g = rw g

  module _ (k : ℕ) (g : x.set ≡ Some k) (b : Bool) (h : b ≡ set_holds d x) where
    pub elsewhere_is : b ≡ true → demands.NoKeyElsewhere t n k ≡ Elsewhere
    elsewhere_is i = rw (← h, i, g)

    pub elsewhere_wrong_set : b ≡ false → demands.Nothing ≡ Elsewhere
    elsewhere_wrong_set i = rw (← h, i)

module _ (d : Draft) (x : Header) (n : ℕ) (a : Bool) (e : a ≡ is_labeler_id d n) where
  -- where 10 does not hold nothing is demanded of any id
  first_of : (s q : Bool) (u v : Demand) → demand_if s u ≡ pick s u (demand_if (q and s) v)
  first_of true q u v = refl
  first_of false q u v = rw (and_false q)

  pub key_of_labeler : a ≡ true → (r : Demand) → r ≡ Elsewhere d x Request n → r ≡ demand21 d x n
  unfolding demand21
  key_of_labeler f r g =
      g ∙ rw (← e, f) (first_of (set_holds d x) (is_registrant_id d n) (demands.NoKeyElsewhere Request n (the x.set)) (demands.NoKeyElsewhere Registration n (the x.set)))

  module _ (f : a ≡ false) (b : Bool) (g : b ≡ is_registrant_id d n) where
    pub key_of_registrant : b ≡ true → (r : Demand) → r ≡ Elsewhere d x Registration n → r ≡ demand21 d x n
    unfolding demand21
    key_of_registrant h r i = i ∙ rw (← e, f, ← g, h)

    pub no_key : b ≡ false → demands.Nothing ≡ demand21 d x n
    unfolding demand21
    no_key h = rw (← e, f, ← g, h)

  -- ---- 22
  module _ (f : a ≡ true) where
    pub other_without_set : x.set ≡ None → demands.Nothing ≡ demand22 d x n
    unfolding demand22 set_holds
    other_without_set g = rw (← e, f, g)

    module _ (k : ℕ) (g : x.set ≡ Some k) (b : Bool) (h : b ≡ set_holds d x) where
      pub other_is : b ≡ true → demands.NoOtherKey n k ≡ demand22 d x n
      unfolding demand22
      other_is i = rw (← e, f, ← h, i, g)

      pub other_wrong_set : b ≡ false → demands.Nothing ≡ demand22 d x n
      unfolding demand22
      other_wrong_set i = rw (← e, f, ← h, i)

  pub other_no_key : a ≡ false → demands.Nothing ≡ demand22 d x n
  unfolding demand22
  other_no_key f = rw (← e, f)
