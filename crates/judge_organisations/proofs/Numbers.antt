-- 14 to 16: how many organisations and ids there are, and the DUNS number. One law for each branch of the code.
-- Assumes nothing.
use Rattle.std.specs.Prelude.{Option, None, Some, ℕ}
use mathlib.Core.Path.{◌≡◌, ◌∙◌}
use mathlib.Core.Bool.{Bool, true, false}
use Prim.Native.Nat.{ℕ, ◌≤◌, ◌<◌}
use borrow.Author.Tests.{le-leb, lt-leb, lt-ltb, le-ltb, eq-eqb, ne_eqb}
use lib.Dec.{eqb, leb}
use lib.ListN.{length}
use Rattle.text_scan.specs.Bytes.{text}
use Rattle.text_scan.specs.Choice.{not}
use Rattle.judge_paths.specs.Roles.{Unknown, Entity1, Labeler, Entity2, Registrant, Entity3, Establishment, Entity4, Agent, OrganisationId, RequestEntity, RequestLabeler}
use Rattle.judge_draft.specs.Drafts.{Draft, role, is, attribute, is_empty}
use Rattle.judge_tests.specs.declared.Test.TheVariants.{Any, DunsRoot}
use Rattle.judge_below.specs.Chosen.{chosen, wanted, only_one, one, only_kid}
use Rattle.judge_organisations.specs.Organisations.{organisation_in, breaks14, is_organisation, right_ids, breaks15, has_extension, duns_id, duns_holds, breaks16}

-- ---- one child of a role
module _ (d : Draft) (n r : ℕ) (x : Option ℕ) (e : x ≡ only_kid d n r) where
  pub has_none : x ≡ None → false ≡ one (only_kid d n r)
  has_none f = rw (← e, f)

  pub has_it : (k : ℕ) → x ≡ Some k → true ≡ one (only_kid d n r)
  has_it k f = rw (← e, f)

-- ---- 14
module _ (r : ℕ) where
  pub in_request : r ≡ RequestEntity → RequestLabeler ≡ organisation_in r
  unfolding organisation_in
  in_request e = rw (eq-eqb r RequestEntity e)

  module _ (e : r ≡ RequestEntity → ⊥) where
    pub in_level_1 : r ≡ Entity1 → Labeler ≡ organisation_in r
    unfolding organisation_in
    in_level_1 f = rw (ne_eqb r RequestEntity e, eq-eqb r Entity1 f)

    module _ (f : r ≡ Entity1 → ⊥) where
      pub in_level_2 : r ≡ Entity2 → Registrant ≡ organisation_in r
      unfolding organisation_in
      in_level_2 g = rw (ne_eqb r RequestEntity e, ne_eqb r Entity1 f, eq-eqb r Entity2 g)

      module _ (g : r ≡ Entity2 → ⊥) where
        pub in_level_3 : r ≡ Entity3 → Establishment ≡ organisation_in r
        unfolding organisation_in
        in_level_3 h = rw (ne_eqb r RequestEntity e, ne_eqb r Entity1 f, ne_eqb r Entity2 g, eq-eqb r Entity3 h)

        module _ (h : r ≡ Entity3 → ⊥) where
          pub in_level_4 : r ≡ Entity4 → Agent ≡ organisation_in r
          unfolding organisation_in
          in_level_4 i = rw (ne_eqb r RequestEntity e, ne_eqb r Entity1 f, ne_eqb r Entity2 g, ne_eqb r Entity3 h, eq-eqb r Entity4 i)

          pub in_no_entity : (r ≡ Entity4 → ⊥) → Unknown ≡ organisation_in r
          unfolding organisation_in
          in_no_entity i = rw (ne_eqb r RequestEntity e, ne_eqb r Entity1 f, ne_eqb r Entity2 g, ne_eqb r Entity3 h, ne_eqb r Entity4 i)

module _ (d : Draft) (n a o : ℕ) (e : a ≡ role d n) (f : o ≡ organisation_in a) where
  pub organisations_counted : 1 < o → (r : Bool) → r ≡ one (only_kid d n o) → not r ≡ breaks14 d n
  unfolding breaks14
  organisations_counted g r h = rw (← e, ← f, lt-ltb 1 o g, h)

  pub no_entity : o ≤ 1 → false ≡ breaks14 d n
  unfolding breaks14
  no_entity g = rw (← e, ← f, le-ltb 1 o g)

-- ---- who is judged, by its role
module _ (d : Draft) (n a : ℕ) (e : a ≡ role d n) where
  pub judged_labeler : a ≡ RequestLabeler → true ≡ is_organisation d n
  unfolding is_organisation is
  judged_labeler f = rw (← e, eq-eqb a RequestLabeler f)

  module _ (f : a ≡ RequestLabeler → ⊥) where
    pub judged_registrant : a ≡ Registrant → true ≡ is_organisation d n
    unfolding is_organisation is
    judged_registrant g = rw (← e, ne_eqb a RequestLabeler f, eq-eqb a Registrant g)

    module _ (g : a ≡ Registrant → ⊥) where
      pub judged_establishment : a ≡ Establishment → true ≡ is_organisation d n
      unfolding is_organisation is
      judged_establishment h = rw (← e, ne_eqb a RequestLabeler f, ne_eqb a Registrant g, eq-eqb a Establishment h)

      pub judged_agent : (a ≡ Establishment → ⊥) → eqb a Agent ≡ is_organisation d n
      unfolding is_organisation is
      judged_agent h = rw (← e, ne_eqb a RequestLabeler f, ne_eqb a Registrant g, ne_eqb a Establishment h)

  -- ---- 15
  module _ (ids : ℕ) (q : ids ≡ length (chosen d (wanted OrganisationId 1 Any) n)) where
    pub labeler_ids : a ≡ RequestLabeler → eqb ids 2 ≡ right_ids d n
    unfolding right_ids is
    labeler_ids f = rw (← e, eq-eqb a RequestLabeler f, q)

    module _ (f : a ≡ RequestLabeler → ⊥) where
      module _ (g : a ≡ Establishment) where
        pub establishment_ids : 1 ≤ ids → leb ids 2 ≡ right_ids d n
        unfolding right_ids is
        establishment_ids h = rw (← e, ne_eqb a RequestLabeler f, eq-eqb a Establishment g, ← q, le-leb 1 ids h)

        pub establishment_none : ids < 1 → false ≡ right_ids d n
        unfolding right_ids is
        establishment_none h = rw (← e, ne_eqb a RequestLabeler f, eq-eqb a Establishment g, ← q, lt-leb 1 ids h)

      pub other_ids : (a ≡ Establishment → ⊥) → eqb ids 1 ≡ right_ids d n
      unfolding right_ids is
      other_ids g = rw (← e, ne_eqb a RequestLabeler f, ne_eqb a Establishment g, q)

-- ---- the id with the DUNS root
module _ (d : Draft) (n : ℕ) where
  pub extension_there : (r : Bool) → r ≡ is_empty (attribute d n (text "extension")) → not r ≡ has_extension d n
  unfolding has_extension
  extension_there r e = rw e

  pub duns_is : (r : Option ℕ) → r ≡ only_one (chosen d (wanted OrganisationId 1 DunsRoot) n) → r ≡ duns_id d n
  unfolding duns_id
  duns_is r e = e

  module _ (x : Option ℕ) (e : x ≡ duns_id d n) where
    pub duns_none : x ≡ None → false ≡ duns_holds d n
    unfolding duns_holds
    duns_none f = rw (← e, f)

    pub duns_one : (k : ℕ) → x ≡ Some k → (r : Bool) → r ≡ has_extension d k → r ≡ duns_holds d n
    unfolding duns_holds
    duns_one k f r g = g ∙ rw (← e, f)

-- ---- 15 and 16 of what is judged
module _ (d : Draft) (n : ℕ) (a : Bool) (e : a ≡ is_organisation d n) where
  pub wrong_ids : a ≡ true → (r : Bool) → r ≡ right_ids d n → not r ≡ breaks15 d n
  unfolding breaks15
  wrong_ids f r g = rw (← e, f, g)

  pub ids_not_judged : a ≡ false → false ≡ breaks15 d n
  unfolding breaks15
  ids_not_judged f = rw (← e, f)

  pub wrong_duns : a ≡ true → (r : Bool) → r ≡ duns_holds d n → not r ≡ breaks16 d n
  unfolding breaks16
  wrong_duns f r g = rw (← e, f, g)

  pub duns_not_judged : a ≡ false → false ≡ breaks16 d n
  unfolding breaks16
  duns_not_judged f = rw (← e, f)
