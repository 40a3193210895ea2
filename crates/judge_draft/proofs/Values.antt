-- What is lent is the draft: the numbers of an element, a role, a value that was read.
-- Assumes nothing.
use mathlib.Core.Path.{◌≡◌, refl, sym, ◌∙◌, ap}
use mathlib.Core.Bool.{Bool}
use mathlib.Core.List.{List, [], ◌∷◌}
use Prim.Native.Nat.{ℕ, ◌+◌, ◌*◌}
use native.Mathlib.Omega.{arith}
use borrow.Author.Tests.{ne_eqb}
use lib.Dec.{eqb, ltb}
use lib.ListN.{length, get_or}
use Rattle.text_scan.specs.Lists.{pairs}
use Rattle.text_facts.specs.Strings.{equal, begins_with}
use Rattle.xml_values.specs.Attributes.{attribute_of}
use Rattle.xml_texts.specs.Texts.{text_of}
use Rattle.text_numbers.specs.Numbers.{version_of}
use Rattle.judge_draft.specs.declared.Form.{Form}
use Rattle.judge_draft.specs.declared.Form.TheVariants.{Version}
use Rattle.judge_draft.specs.Forms.{has_form}
use Rattle.judge_draft.specs.Drafts.{draft, role, parent, first, after, is, is_known, attribute, said, is_empty}

module _ (s notes : List ℕ) (n : ℕ) where
  pub note_parent : (r : ℕ) → r ≡ get_or notes (4 * n + 1) 0 → r ≡ parent (draft s notes) n
  unfolding draft
  note_parent r e = e

  pub note_first : (r : ℕ) → r ≡ get_or notes (4 * n + 2) 0 → r ≡ first (draft s notes) n
  unfolding draft
  note_first r e = e

  pub note_after : (r : ℕ) → r ≡ get_or notes (4 * n + 3) 0 → r ≡ after (draft s notes) n
  unfolding draft
  note_after r e = e

  module _ (x : ℕ) (e : x ≡ get_or notes (4 * n + 0) 0) where
    pub note_role : x ≡ role (draft s notes) n
    unfolding draft
    note_role =
        let z : 4 * n + 0 ≡ 4 * n = omega arith in
        e ∙ rw z

    pub role_is : (r : ℕ) → eqb x r ≡ is (draft s notes) r n
    unfolding is
    role_is r = rw note_role

    pub known_is : ltb 1 x ≡ is_known (draft s notes) n
    unfolding is_known
    known_is = rw note_role

  -- what was read at the first byte
  module _ (f : ℕ) (e : f ≡ first (draft s notes) n) where
    pub attribute_read : (name v : List ℕ) → v ≡ attribute_of s f name → v ≡ attribute (draft s notes) n name
    unfolding draft attribute
    attribute_read name v g = g ∙ rw e

    pub text_read : (v : List ℕ) → v ≡ text_of s f → v ≡ said (draft s notes) n
    unfolding draft said
    text_read v g = g ∙ rw e

  -- ---- a test that was made of it
  module _ {A : Type 0} (test : List ℕ → A) (f : ℕ) (e : f ≡ first (draft s notes) n) where
    pub attribute_asked : (name : List ℕ) (r : A) → r ≡ test (attribute_of s f name) → r ≡ test (attribute (draft s notes) n name)
    unfolding draft attribute
    attribute_asked name r g = g ∙ rw e

-- nothing but the empty string equals it
equal_empty : (x : List ℕ) → equal x [] ≡ is_empty x
unfolding equal pairs
equal_empty [] = refl
equal_empty (b ∷ x) = sym (ne_eqb (length (b ∷ x)) 0 (λ h. omega arith))

module _ (s notes : List ℕ) (n f : ℕ) (e : f ≡ first (draft s notes) n) (name : List ℕ) (r : Bool) where
  pub attribute_equal : (w : List ℕ) → r ≡ equal (attribute_of s f name) w → r ≡ equal (attribute (draft s notes) n name) w
  attribute_equal w = attribute_asked s notes n (λ x. equal x w) f e name r

  pub attribute_missing : r ≡ equal (attribute_of s f name) [] → r ≡ is_empty (attribute (draft s notes) n name)
  attribute_missing g = attribute_asked s notes n is_empty f e name r (g ∙ equal_empty (attribute_of s f name))

-- ---- a test of what was read
module _ {A : Type 0} (test : List ℕ → A) (s notes : List ℕ) (n f : ℕ) (e : f ≡ first (draft s notes) n) (v : List ℕ) where
  pub attribute_tested : (name : List ℕ) → v ≡ attribute_of s f name → (r : A) → r ≡ test v → r ≡ test (attribute (draft s notes) n name)
  attribute_tested name g r h = h ∙ ap test (attribute_read s notes n f e name v g)

  pub text_tested : v ≡ text_of s f → (r : A) → r ≡ test v → r ≡ test (said (draft s notes) n)
  text_tested g r h = h ∙ ap test (text_read s notes n f e v g)

module _ (s notes : List ℕ) (n f : ℕ) (e : f ≡ first (draft s notes) n) (v : List ℕ) where
  pub text_missing : v ≡ text_of s f → (r : Bool) → r ≡ equal v [] → r ≡ is_empty (said (draft s notes) n)
  text_missing g r h = text_tested is_empty s notes n f e v g r (h ∙ equal_empty v)

module _ (s notes : List ℕ) (n f : ℕ) (e : f ≡ first (draft s notes) n) (v w : List ℕ) where
  pub attribute_begins : (name : List ℕ) → v ≡ attribute_of s f name → (r : Bool) → r ≡ begins_with w v → r ≡ begins_with w (attribute (draft s notes) n name)
  attribute_begins = attribute_tested (begins_with w) s notes n f e v

  pub text_equals : v ≡ text_of s f → (r : Bool) → r ≡ equal v w → r ≡ equal (said (draft s notes) n) w
  text_equals = text_tested (λ x. equal x w) s notes n f e v

-- ---- a form that was asked of a value
pub formed : (k form : Form) (v : List ℕ) → form ≡ k → (r : Bool) → r ≡ has_form k v → r ≡ has_form form v
formed k form v e r g = g ∙ rw e

module _ (form : Form) (v : List ℕ) where
  pub version_formed : form ≡ Version → (n : ℕ) → n ≡ version_of v → ltb 0 n ≡ has_form form v
  version_formed e n g = rw (e, g)

  -- and of what was read
  pub attribute_formed : (s notes : List ℕ) (n f : ℕ) → f ≡ first (draft s notes) n → (name : List ℕ) → v ≡ attribute_of s f name → (r : Bool) → r ≡ has_form form v → r ≡ has_form form (attribute (draft s notes) n name)
  attribute_formed s notes n f e = attribute_tested (has_form form) s notes n f e v
