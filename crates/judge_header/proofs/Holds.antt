-- What the one child of the root has: one law for each branch of the code.
-- Assumes nothing.
use Rattle.std.specs.Prelude.{Option, None, Some, ℕ}
use mathlib.Core.Path.{◌≡◌, ◌∙◌}
use mathlib.Core.Bool.{Bool, true, false}
use mathlib.Core.List.{List}
use Prim.Native.Nat.{ℕ}
use lib.Dec.{ltb}
use Rattle.text_scan.specs.Bytes.{text}
use Rattle.text_facts.specs.Strings.{equal, is_guid}
use Rattle.text_numbers.specs.Numbers.{version_of}
use Rattle.text_numbers.specs.Days.{is_day}
use Rattle.judge_paths.specs.declared.DocumentType.TheVariants.{Neither, Registration, Request}
use Rattle.judge_paths.specs.Roles.{Id, Code, EffectiveTime, SetId, VersionNumber}
use Rattle.judge_draft.specs.Drafts.{Draft, attribute}
use Rattle.judge_below.specs.Chosen.{one_has, only_kid}
use Rattle.judge_header.specs.declared.Header.{Header}
use Rattle.judge_header.specs.declared.Property.{Property}
use Rattle.judge_header.specs.declared.Property.TheVariants.{GuidRoot, OfType, Day, Version}
use Rattle.judge_header.specs.Header.{header_of, guid_root, id_holds, set_holds, registration_code, request_code, code_is, typed_code, has_type, type_of, day_value, version_value, version_holds, has_property}

module _ (d : Draft) where
  pub header_is : (a b c e f : Option ℕ) → a ≡ only_kid d 0 Id → b ≡ only_kid d 0 Code → c ≡ only_kid d 0 EffectiveTime → e ≡ only_kid d 0 SetId → f ≡ only_kid d 0 VersionNumber → record { id = a; code = b; time = c; set = e; version = f } ≡ header_of d
  unfolding header_of
  header_is a b c e f g h i j k = rw (g, h, i, j, k)

  -- ---- the code
  module _ (type : List ℕ) (k : ℕ) (a : Bool) (e : a ≡ equal (attribute d k (text "codeSystem")) (text "2.16.840.1.113883.6.1")) where
    pub code_system : a ≡ true → (r : Bool) → r ≡ equal (attribute d k (text "code")) type → r ≡ code_is d type k
    unfolding code_is
    code_system f r g = g ∙ rw (← e, f)

    pub no_system : a ≡ false → false ≡ code_is d type k
    unfolding code_is
    no_system f = rw (← e, f)

  module _ (k : ℕ) (a : Bool) (e : a ≡ code_is d registration_code k) where
    pub typed_registration : a ≡ true → true ≡ typed_code d k
    unfolding typed_code
    typed_registration f = rw (← e, f)

    pub typed_request : a ≡ false → (r : Bool) → r ≡ code_is d request_code k → r ≡ typed_code d k
    unfolding typed_code
    typed_request f r g = g ∙ rw (← e, f)

  module _ (h : Header) where
    pub no_type : h.code ≡ None → Neither ≡ type_of d h
    unfolding type_of
    no_type e = rw e

    module _ (k : ℕ) (e : h.code ≡ Some k) (a : Bool) (f : a ≡ code_is d registration_code k) where
      pub registration_is : a ≡ true → Registration ≡ type_of d h
      unfolding type_of
      registration_is g = rw (e, ← f, g)

      module _ (g : a ≡ false) (b : Bool) (i : b ≡ code_is d request_code k) where
        pub request_is : b ≡ true → Request ≡ type_of d h
        unfolding type_of
        request_is j = rw (e, ← f, g, ← i, j)

        pub neither_is : b ≡ false → Neither ≡ type_of d h
        unfolding type_of
        neither_is j = rw (e, ← f, g, ← i, j)

  -- ---- the properties
  module _ (p : Property) (k : ℕ) where
    pub guid_is : p ≡ GuidRoot → (r : Bool) → r ≡ is_guid (attribute d k (text "root")) → r ≡ has_property d p k
    unfolding has_property guid_root
    guid_is e r f = f ∙ rw e

    pub type_is : p ≡ OfType → (r : Bool) → r ≡ typed_code d k → r ≡ has_property d p k
    unfolding has_property
    type_is e r f = f ∙ rw e

    pub day_is : p ≡ Day → (r : Bool) → r ≡ is_day (attribute d k (text "value")) → r ≡ has_property d p k
    unfolding has_property day_value
    day_is e r f = f ∙ rw e

    pub version_is : p ≡ Version → (r : Bool) → r ≡ ltb 0 (version_of (attribute d k (text "value"))) → r ≡ has_property d p k
    unfolding has_property version_value
    version_is e r f = f ∙ rw e

  module _ (p : Property) (x : Option ℕ) where
    pub has_no_one : x ≡ None → false ≡ one_has x (has_property d p)
    has_no_one e = rw e

    pub has_one : (k : ℕ) → x ≡ Some k → (r : Bool) → r ≡ has_property d p k → r ≡ one_has x (has_property d p)
    has_one k e r f = f ∙ rw e

  module _ (h : Header) (r : Bool) where
    pub id_is : r ≡ one_has h.id (has_property d GuidRoot) → r ≡ id_holds d h
    unfolding id_holds has_property
    id_is e = e

    pub code_is_lem : r ≡ one_has h.code (has_property d OfType) → r ≡ has_type d h
    unfolding has_type has_property
    code_is_lem e = e

    pub set_is : r ≡ one_has h.set (has_property d GuidRoot) → r ≡ set_holds d h
    unfolding set_holds has_property
    set_is e = e

    pub number_is : r ≡ one_has h.version (has_property d Version) → r ≡ version_holds d h
    unfolding version_holds has_property
    number_is e = e
