-- 19 and 20: the labeler code, and the ids whose extension is a key. One law for each branch of the code.
-- Assumes nothing.
use Rattle.std.specs.Prelude.{Option, None, Some, ℕ}
use mathlib.Core.Path.{◌≡◌, refl, sym, ◌∙◌, ap}
use mathlib.Core.Bool.{Bool, true, false}
use mathlib.Core.List.{List}
use Prim.Native.Nat.{ℕ}
use Rattle.text_scan.specs.Bytes.{text}
use Rattle.text_scan.specs.Choice.{◌and◌, not}
use Rattle.text_scan.proofs.Tests.{never, and_false}
use Rattle.text_facts.specs.Strings.{is_labeler_code}
use Rattle.judge_paths.specs.Roles.{Registrant, OrganisationId, RequestLabeler}
use Rattle.judge_draft.specs.Drafts.{Draft, draft, parent, is, attribute, attribute_is}
use Rattle.judge_tests.specs.declared.Test.{Test}
use Rattle.judge_tests.specs.declared.Test.TheVariants.{DunsRoot, LabelerRoot}
use Rattle.judge_tests.specs.Passing.{duns_root, labeler_root, passes}
use Rattle.judge_below.specs.Chosen.{chosen, wanted, only_one, one_has, is_the}
use Rattle.judge_below.proofs.TheOne.{the_has, its_test}
use Rattle.judge_organisations.specs.Organisations.{has_extension, duns_id, duns_holds}
use Rattle.judge_keys.specs.Keys.{labeler_id, labeler_holds, breaks19, is_labeler_id, is_registrant_id, breaks20}

-- ---- 19
module _ (d : Draft) (n : ℕ) where
  pub labeler_is : (r : Option ℕ) → r ≡ only_one (chosen d (wanted OrganisationId 1 LabelerRoot) n) → r ≡ labeler_id d n
  unfolding labeler_id
  labeler_is r e = e

  module _ (x : Option ℕ) (e : x ≡ labeler_id d n) where
    pub labeler_none : x ≡ None → false ≡ labeler_holds d n
    unfolding labeler_holds
    labeler_none f = rw (← e, f)

    pub labeler_one : (k : ℕ) → x ≡ Some k → (r : Bool) → r ≡ has_extension d k → r ≡ labeler_holds d n
    unfolding labeler_holds
    labeler_one k f r g = g ∙ rw (← e, f)

  module _ (a : Bool) (e : a ≡ is d RequestLabeler n) where
    pub wrong_labeler : a ≡ true → (r : Bool) → r ≡ labeler_holds d n → not r ≡ breaks19 d n
    unfolding breaks19
    wrong_labeler f r g = rw (← e, f, g)

    pub no_request : a ≡ false → false ≡ breaks19 d n
    unfolding breaks19
    no_request f = rw (← e, f)

-- ---- an id with this root, of an organisation of this role
abbrev IdOf : Draft → ℕ → List ℕ → ℕ → Bool
IdOf d organisation root n = is d OrganisationId n and is d organisation (parent d n) and attribute_is d (text "root") root n

module _ (d : Draft) (organisation : ℕ) (root : List ℕ) (n : ℕ) (a : Bool) (e : a ≡ is d OrganisationId n) where
  module _ (f : a ≡ true) (p : ℕ) (g : p ≡ parent d n) (b : Bool) (h : b ≡ is d organisation p) where
    pub root_asked : b ≡ true → (r : Bool) → r ≡ attribute_is d (text "root") root n → r ≡ IdOf d organisation root n
    root_asked i r j = j ∙ rw (← e, f, ← g, ← h, i)

    pub other_holder : b ≡ false → false ≡ IdOf d organisation root n
    other_holder i = rw (← e, f, ← g, ← h, i)

  pub no_id : a ≡ false → false ≡ IdOf d organisation root n
  no_id f = rw (← e, f)

-- ---- the only one with this root
abbrev Only : Draft → Test → ℕ → Option ℕ
Only d root n = only_one (chosen d (wanted OrganisationId 1 root) (parent d n))

module _ (d : Draft) (root : Test) (n p : ℕ) (e : p ≡ parent d n) (a : Bool) (f : a ≡ is_the (only_one (chosen d (wanted OrganisationId 1 root) p)) n) where
  pub only_id : a ≡ true → (r : Bool) → r ≡ has_extension d n → r ≡ is_the (Only d root n) n and has_extension d n
  only_id g r h = h ∙ rw (← e, ← f, g)

  pub not_only_id : a ≡ false → false ≡ is_the (Only d root n) n and has_extension d n
  not_only_id g = rw (← e, ← f, g)

-- where the id with the root has an extension and is n: n has the root, is the only one, and has an extension
module _ (s notes : List ℕ) (organisation : ℕ) (test : Test) (n : ℕ) where
  abbrev d : Draft
  d = draft s notes

  abbrev KeyOf : Bool
  KeyOf =
      is d OrganisationId n and is d organisation (parent d n) and one_has (Only d test n) (has_extension d) and is_the (Only d test n) n

  own_root : is_the (Only d test n) n and has_extension d n ≡ passes d test n and is_the (Only d test n) n and has_extension d n
  own_root = go (is_the (Only d test n) n) refl
    where
      go : (t : Bool) → is_the (Only d test n) n ≡ t → t and has_extension d n ≡ passes d test n and t and has_extension d n
      go true e = rw (its_test s notes (wanted OrganisationId 1 test) (parent d n) n e)
      go false e = sym (and_false (passes d test n))

  key_by_root : KeyOf ≡ is d OrganisationId n and is d organisation (parent d n) and passes d test n and is_the (Only d test n) n and has_extension d n
  key_by_root =
      ap (λ t. is d OrganisationId n and is d organisation (parent d n) and t) (the_has (Only d test n) n (has_extension d) ∙ own_root)

  and_all : (a b c t : Bool) → a and b and c ≡ true → t ≡ a and b and c and t
  and_all true true true t e = refl
  and_all true true false t e = never (sym e)
  and_all true false c t e = never (sym e)
  and_all false b c t e = never (sym e)

  and_none : (a b c t : Bool) → a and b and c ≡ false → false ≡ a and b and c and t
  and_none true true true t e = never e
  and_none true true false t e = refl
  and_none true false c t e = refl
  and_none false b c t e = refl

  key_there : is d OrganisationId n and is d organisation (parent d n) and passes d test n ≡ true → is_the (Only d test n) n and has_extension d n ≡ KeyOf
  key_there e = and_all (is d OrganisationId n) (is d organisation (parent d n)) (passes d test n) (is_the (Only d test n) n and has_extension d n) e ∙ sym key_by_root

  key_not_there : is d OrganisationId n and is d organisation (parent d n) and passes d test n ≡ false → false ≡ KeyOf
  key_not_there e = and_none (is d OrganisationId n) (is d organisation (parent d n)) (passes d test n) (is_the (Only d test n) n and has_extension d n) e ∙ sym key_by_root

module _ (s notes : List ℕ) (n : ℕ) (a : Bool) where
  abbrev its : Draft
  its = draft s notes

  module _ (e : a ≡ IdOf its RequestLabeler labeler_root n) where
    pub labeler_id_there : a ≡ true → (r : Bool) → r ≡ is_the (Only its LabelerRoot n) n and has_extension its n → r ≡ is_labeler_id its n
    unfolding is_labeler_id labeler_holds labeler_id passes
    labeler_id_there f r g = g ∙ key_there s notes RequestLabeler LabelerRoot n (sym e ∙ f)

    pub labeler_id_not : a ≡ false → false ≡ is_labeler_id its n
    unfolding is_labeler_id labeler_holds labeler_id passes
    labeler_id_not f = key_not_there s notes RequestLabeler LabelerRoot n (sym e ∙ f)

  module _ (e : a ≡ IdOf its Registrant duns_root n) where
    pub registrant_id_there : a ≡ true → (r : Bool) → r ≡ is_the (Only its DunsRoot n) n and has_extension its n → r ≡ is_registrant_id its n
    unfolding is_registrant_id duns_holds duns_id passes
    registrant_id_there f r g = g ∙ key_there s notes Registrant DunsRoot n (sym e ∙ f)

    pub registrant_id_not : a ≡ false → false ≡ is_registrant_id its n
    unfolding is_registrant_id duns_holds duns_id passes
    registrant_id_not f = key_not_there s notes Registrant DunsRoot n (sym e ∙ f)

-- ---- 20
module _ (d : Draft) (n : ℕ) (a : Bool) (e : a ≡ is_labeler_id d n) where
  pub wrong_code : a ≡ true → (r : Bool) → r ≡ is_labeler_code (attribute d n (text "extension")) → not r ≡ breaks20 d n
  unfolding breaks20
  wrong_code f r g = rw (← e, f, g)

  pub no_code : a ≡ false → false ≡ breaks20 d n
  unfolding breaks20
  no_code f = rw (← e, f)
