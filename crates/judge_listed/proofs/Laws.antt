-- Procedures 1 to 4: one law for each branch of the code.
-- Assumes nothing.
use mathlib.Core.Path.{◌≡◌, sym, ◌∙◌, ap}
use mathlib.Core.Bool.{Bool, true, false}
use mathlib.Core.List.{List, []}
use Prim.Native.Nat.{ℕ, ◌+◌, ◌-◌, ◌≤◌}
use native.Mathlib.Omega.{arith}
use lib.ListN.{length, take, drop, drop_of_length-le}
use lib.Seq.{take-nil}
use Rattle.text_scan.specs.Choice.{not}
use Rattle.text_scan.specs.Bytes.{text}
use Rattle.text_scan.specs.Lists.{pairs}
use Rattle.text_scan.proofs.Tests.{and_false}
use Rattle.text_facts.specs.Strings.{equal, without_space}
use Rattle.xml_names.specs.Names.{name_end, name_at}
use Rattle.xml_values.specs.Attributes.{is_bare, has_other}
use Rattle.xml_values.proofs.Unlisted.{bare_other}
use Rattle.judge_paths.specs.Roles.{Unlisted, Root}
use Rattle.judge_paths.specs.Attributes.{attribute_table, listed_names}
use Rattle.judge_draft.specs.Drafts.{Draft, draft, role, first, is, is_known, attribute}
use Rattle.judge_listed.specs.Listed.{is_named_document, has_schema, is_declared, root_is_right, breaks1, breaks2, lists_at, other_than, breaks3, has_space, breaks4}

-- ---- the root's name
name_past : (s : List ℕ) (f : ℕ) → length s ≤ f → name_at s (f + 1) ≡ []
name_past s f h = rw (drop_of_length-le s {i = f + 1} (omega arith)) (take-nil (name_end s (f + 1) - (f + 1)))

module _ (s notes : List ℕ) (n f : ℕ) (e : f ≡ first (draft s notes) n) where
  pub unnamed : length s ≤ f → false ≡ is_named_document (draft s notes) n
  unfolding is_named_document draft equal pairs
  unnamed h = sym (ap (λ (name : List ℕ). equal name (text "document")) (ap (λ (k : ℕ). name_at s (k + 1)) (sym e) ∙ name_past s f h))

  pub named : (k : ℕ) → k ≡ name_end s (f + 1) → (r : Bool) → r ≡ equal (take (k - (f + 1)) (drop (f + 1) s)) (text "document") → r ≡ is_named_document (draft s notes) n
  unfolding is_named_document draft
  named k g r h = h ∙ rw (g, e)

-- ---- 1
module _ (d : Draft) (n : ℕ) where
  module _ (a : Bool) (e : a ≡ equal (attribute d n (text "xmlns:xsi")) (text "http://www.w3.org/2001/XMLSchema-instance")) where
    pub by_location : a ≡ true → (r : Bool) → r ≡ equal (attribute d n (text "xsi:schemaLocation")) (text "urn:hl7-org:v3 http://www.accessdata.fda.gov/spl/schema/spl.xsd") → r ≡ has_schema d n
    unfolding has_schema
    by_location f r g = g ∙ rw (← e, f)

    pub wrong_instance : a ≡ false → false ≡ has_schema d n
    unfolding has_schema
    wrong_instance f = rw (← e, f)

  module _ (a : Bool) (e : a ≡ equal (attribute d n (text "xmlns")) (text "urn:hl7-org:v3")) where
    pub by_schema : a ≡ true → (r : Bool) → r ≡ has_schema d n → r ≡ is_declared d n
    unfolding is_declared
    by_schema f r g = g ∙ rw (← e, f)

    pub wrong_space : a ≡ false → false ≡ is_declared d n
    unfolding is_declared
    wrong_space f = rw (← e, f)

  module _ (a : Bool) (e : a ≡ is_named_document d n) where
    pub right_name : a ≡ true → (r : Bool) → r ≡ is_declared d n → r ≡ root_is_right d n
    unfolding root_is_right
    right_name f r g = g ∙ rw (← e, f)

    pub wrong_name : a ≡ false → false ≡ root_is_right d n
    unfolding root_is_right
    wrong_name f = rw (← e, f)

  module _ (a : Bool) (e : a ≡ is d Root n) where
    pub one_at_root : a ≡ true → (r : Bool) → r ≡ root_is_right d n → not r ≡ breaks1 d n
    unfolding breaks1
    one_at_root f r g = rw (← e, f, g)

    pub one_elsewhere : a ≡ false → false ≡ breaks1 d n
    unfolding breaks1
    one_elsewhere f = rw (← e, f)

  -- ---- 2
  pub two_is : (r : Bool) → r ≡ is d Unlisted n → r ≡ breaks2 d n
  unfolding breaks2
  two_is r e = e

-- ---- 3: a bare tag has no attribute that is not listed
module _ (s notes : List ℕ) (n f : ℕ) (e : f ≡ first (draft s notes) n) where
  pub three_bare : (b : Bool) → b ≡ is_bare s f → b ≡ true → false ≡ breaks3 (draft s notes) n
  unfolding breaks3 other_than draft
  three_bare b g h =
      let d : Draft = draft s notes in
      sym (rw (bare_other s (first d n) (lists_at d n) (rw e at (sym g ∙ h))) (and_false (is_known d n)))

  pub three_known : (a : Bool) → a ≡ is_known (draft s notes) n → a ≡ true → (q : ℕ) → q ≡ role (draft s notes) n → (r : Bool) → r ≡ has_other s f (listed_names q attribute_table) → r ≡ breaks3 (draft s notes) n
  unfolding breaks3 other_than draft
  three_known a i h q j r g = g ∙ rw (← i, h, j, e)

-- ---- 3 and 4
module _ (d : Draft) (n : ℕ) where
  module _ (a : Bool) (e : a ≡ is_known d n) where
    pub three_unknown : a ≡ false → false ≡ breaks3 d n
    unfolding breaks3
    three_unknown f = rw (← e, f)

    pub four_unknown : a ≡ false → false ≡ breaks4 d n
    unfolding breaks4
    four_unknown f = rw (← e, f)

    pub four_known : a ≡ true → (r : Bool) → r ≡ has_space d n → r ≡ breaks4 d n
    unfolding breaks4
    four_known f r g = g ∙ rw (← e, f)

    pub three_holds : a ≡ true → (b : Bool) → b ≡ breaks3 d n → b ≡ false → other_than d n (lists_at d n) ≡ false
    unfolding breaks3
    three_holds f b g h = sym (sym h ∙ g ∙ rw (← e, f))

  module _ (b : Bool) (g : b ≡ without_space (attribute d n (text "code"))) where
    pub space_extension : b ≡ true → (r : Bool) → r ≡ without_space (attribute d n (text "extension")) → not r ≡ has_space d n
    space_extension h r i = rw (← g, h, i)

    pub space_code : b ≡ false → true ≡ has_space d n
    space_code h = rw (← g, h)
