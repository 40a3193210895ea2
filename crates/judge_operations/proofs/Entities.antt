-- The entity of an establishment, 37 and 38: one law for each branch of the code.
-- Assumes nothing.
use mathlib.Core.Path.{◌≡◌, sym, ◌∙◌, ap}
use mathlib.Core.Bool.{Bool, true, false}
use Prim.Native.Nat.{ℕ}
use Rattle.text_scan.specs.Choice.{not}
use Rattle.judge_paths.specs.Roles.{Entity3, Establishment, OperationCode}
use Rattle.judge_tests.specs.declared.Test.TheVariants.{Any}
use Rattle.judge_draft.specs.Drafts.{Draft, is, is_empty}
use Rattle.judge_below.specs.Chosen.{ancestor, chosen, wanted}
use Rattle.judge_operations.specs.Operations.{of_nci, has_establishment, breaks37, breaks38}
use Rattle.judge_operations.specs.Met.{entity_at}

-- ---- the entity of an establishment
module _ (d : Draft) (n : ℕ) (a : Bool) (e : a ≡ is d Entity3 n) where
  pub entity_other : a ≡ false → false ≡ has_establishment d n
  unfolding has_establishment
  entity_other f = rw (← e, f)

  pub entity_of : a ≡ true → (r : Bool) → r ≡ is_empty (chosen d (wanted Establishment 1 Any) n) → not r ≡ has_establishment d n
  unfolding has_establishment
  entity_of f r g = rw (← e, f, ← g)

-- ---- 37
module _ (d : Draft) (n : ℕ) (a : Bool) (e : a ≡ has_establishment d n) where
  pub other_37 : a ≡ false → false ≡ breaks37 d n
  unfolding breaks37
  other_37 f = rw (← e, f)

  pub none_37 : a ≡ true → (r : Bool) → r ≡ is_empty (chosen d (wanted OperationCode 3 Any) n) → r ≡ breaks37 d n
  unfolding breaks37
  none_37 f r g = g ∙ rw (← e, f)

-- ---- the entity that was met last
module _ (d : Draft) (last n : ℕ) where
  pub entity_here : (a : Bool) → a ≡ is d Entity3 n → a ≡ true → n ≡ entity_at d last n
  unfolding entity_at
  entity_here a e f = rw (← e, f)

  pub entity_before : (a : Bool) → a ≡ is d Entity3 n → a ≡ false → last ≡ entity_at d last n
  unfolding entity_at
  entity_before a e f = rw (← e, f)

  pub held_before : (held : Bool) → held ≡ has_establishment d last → n ≡ last → held ≡ has_establishment d n
  held_before held e f = e ∙ ap (has_establishment d) (sym f)

-- ---- 38
module _ (d : Draft) (n : ℕ) (a : Bool) (e : a ≡ is d OperationCode n) where
  pub other_38 : a ≡ false → false ≡ breaks38 d n
  unfolding breaks38
  other_38 f = rw (← e, f)

  module _ (f : a ≡ true) (b : Bool) (g : b ≡ of_nci d n) where
    pub nci_38 : b ≡ true → false ≡ breaks38 d n
    unfolding breaks38
    nci_38 h = rw (← e, f, ← g, h)

    pub entity_38 : b ≡ false → (p : ℕ) → p ≡ ancestor d 3 n → (r : Bool) → r ≡ has_establishment d p → r ≡ breaks38 d n
    unfolding breaks38
    entity_38 h p q r i = i ∙ rw (← e, f, ← g, h, ← q)
