-- 17 and 18: the name of an organisation. One law for each branch of the code.
-- Assumes nothing.
use Rattle.std.specs.Prelude.{Option, None, Some, ℕ}
use mathlib.Core.Path.{◌≡◌, sym, ◌∙◌, ap}
use mathlib.Core.Bool.{Bool, true, false}
use Prim.Native.Nat.{ℕ}
use Rattle.text_scan.specs.Choice.{◌and◌, not}
use Rattle.text_scan.proofs.Tests.{and_true, and_false, and_right}
use Rattle.judge_paths.specs.Roles.{OrganisationName}
use Rattle.judge_draft.specs.declared.Demand.{Demand}
use Rattle.judge_draft.specs.declared.Demand.TheVariants as demands
use Rattle.judge_draft.specs.Drafts.{Draft, parent, is, said, is_empty}
use Rattle.judge_draft.specs.Demands.{demand_if}
use Rattle.judge_below.specs.Chosen.{one, one_has, the, is_the, only_kid}
use Rattle.judge_below.proofs.TheOne.{the_has}
use Rattle.judge_organisations.specs.Organisations.{is_organisation, has_extension, duns_id, duns_holds, is_said, name_holds, is_one_name, breaks17, demand18}

-- ---- the name
pub text_there : (d : Draft) (n : ℕ) (r : Bool) → r ≡ is_empty (said d n) → not r ≡ is_said d n
unfolding is_said
text_there d n r e = rw e

module _ (d : Draft) (n : ℕ) (a : Bool) (e : a ≡ is d OrganisationName n) where
  module _ (f : a ≡ true) (p : ℕ) (g : p ≡ parent d n) (b : Bool) (h : b ≡ is_organisation d p) where
    pub name_judged : b ≡ true → (r : Bool) → r ≡ is_the (only_kid d p OrganisationName) n → r ≡ is_one_name d n
    unfolding is_one_name
    name_judged i r j = j ∙ rw (← e, f, ← g, ← h, i)

    pub name_elsewhere : b ≡ false → false ≡ is_one_name d n
    unfolding is_one_name
    name_elsewhere i = rw (← e, f, ← g, ← h, i)

  pub no_name : a ≡ false → false ≡ is_one_name d n
  unfolding is_one_name
  no_name f = rw (← e, f)

-- ---- 17
module _ (d : Draft) (n : ℕ) (a : Bool) (e : a ≡ is_organisation d n) where
  pub wrong_names : a ≡ true → (r : Bool) → r ≡ one (only_kid d n OrganisationName) → not r ≡ breaks17 d n
  unfolding breaks17
  wrong_names f r g = rw (← e, f, g)

  pub neither : a ≡ false → (b : Bool) → b ≡ is d OrganisationName n → b ≡ false → false ≡ breaks17 d n
  unfolding breaks17 is_one_name
  neither f b g h = rw (← e, f, ← g, h)

  module _ (f : a ≡ false) (b : Bool) (g : b ≡ is_said d n) where
    pub said_name : b ≡ true → false ≡ breaks17 d n
    unfolding breaks17
    said_name h = rw (← e, f, ← g, h) (sym (and_false (is_one_name d n)))

    pub empty_name : b ≡ false → (r : Bool) → r ≡ is_one_name d n → r ≡ breaks17 d n
    unfolding breaks17
    empty_name h r l = l ∙ rw (← e, f, ← g, h) (sym (and_true (is_one_name d n)))

-- ---- 18
module _ (d : Draft) (p n : ℕ) (x : Option ℕ) (h : x ≡ duns_id d p) where
  pub row_without_duns : x ≡ None → demands.Nothing ≡ demand_if (duns_holds d p) (demands.NameRow (the (duns_id d p)) n)
  unfolding duns_holds
  row_without_duns i = rw (← h, i)

  module _ (k : ℕ) (i : x ≡ Some k) (b : Bool) (j : b ≡ has_extension d k) where
    pub row_of_name : b ≡ true → demands.NameRow k n ≡ demand_if (duns_holds d p) (demands.NameRow (the (duns_id d p)) n)
    unfolding duns_holds
    row_of_name l = rw (← h, i, ← j, l)

    pub row_without_extension : b ≡ false → demands.Nothing ≡ demand_if (duns_holds d p) (demands.NameRow (the (duns_id d p)) n)
    unfolding duns_holds
    row_without_extension l = rw (← h, i, ← j, l)

-- of the one name, 17 asks only that it is not empty
the_name : (d : Draft) (n : ℕ) → is_one_name d n ≡ true → name_holds d (parent d n) ≡ is_said d n
unfolding is_one_name name_holds
the_name d n e =
    sym (and_true (one_has x (is_said d)))
    ∙ ap (λ t. one_has x (is_said d) and t) (sym here)
    ∙ the_has x n (is_said d)
    ∙ ap (λ t. t and is_said d n) here
  where
    x : Option ℕ
    x = only_kid d (parent d n) OrganisationName

    here : is_the x n ≡ true
    here = and_right (is_organisation d (parent d n)) (is_the x n) (and_right (is d OrganisationName n) (is_organisation d (parent d n) and is_the x n) e)

module _ (d : Draft) (n : ℕ) (a : Bool) (e : a ≡ is_one_name d n) where
  module _ (f : a ≡ true) (c : Bool) (m : c ≡ is_said d n) where
    pub row_demanded : c ≡ true → (p : ℕ) → p ≡ parent d n → (r : Demand) → r ≡ demand_if (duns_holds d p) (demands.NameRow (the (duns_id d p)) n) → r ≡ demand18 d n
    unfolding demand18
    row_demanded o p g r h = h ∙ rw (the_name d n (sym e ∙ f), ← e, f, ← m, o, g)

    pub row_without_name : c ≡ false → demands.Nothing ≡ demand18 d n
    unfolding demand18
    row_without_name o = rw (the_name d n (sym e ∙ f), ← e, f, ← m, o)

  pub row_of_no_name : a ≡ false → demands.Nothing ≡ demand18 d n
  unfolding demand18
  row_of_no_name f = rw (← e, f)
