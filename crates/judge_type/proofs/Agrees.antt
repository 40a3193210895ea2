-- A document has a type when 7 holds, and the type that is told of a document without one is that of its draft: the header is the same for all
-- types, for what the root lists does not depend on the type.
-- Assumes nothing.
use Rattle.std.specs.Prelude.{Option, None, Some, ℕ}
use mathlib.Core.Path.{◌≡◌, refl, sym, ◌∙◌, ap}
use mathlib.Core.Bool.{Bool, true, false}
use mathlib.Core.List.{List}
use Prim.Native.Nat.{ℕ, zero, suc, ◌+◌, ◌*◌, ◌/◌, ◌<◌, ◌≤◌}
use native.Mathlib.Omega.{arith}
use borrow.Author.Tests.{ltb-true, ltb-false, eqb-true, eqb-false}
use lib.Dec.{eqb, ltb}
use lib.ListN.{length, get_or, get_or-eq_default}
use Rattle.text_scan.specs.Choice.{pick, ◌or◌, ◌and◌, not}
use Rattle.xml_steps.specs.Reading.{parent_of, first_of}
use Rattle.judge_paths.specs.declared.DocumentType.{DocumentType}
use Rattle.judge_paths.specs.declared.DocumentType.TheVariants.{Neither, Registration, Request}
use Rattle.judge_paths.specs.Roles.{Unknown, Root, Id, Code, EffectiveTime, SetId, VersionNumber}
use Rattle.judge_paths.specs.Paths.{either, fits, role_named, child_role, has_row, element_name, role_of}
use Rattle.judge_paths.proofs.Walks.{role_root, role_told}
use Rattle.judge_notes.specs.Notes.{notes_of}
use Rattle.judge_notes.proofs.Noted.{notes_length, note_role, note_parent, note_first}
use Rattle.judge_draft.specs.Below.{ancestor_in, stands_below, those, all_below}
use Rattle.judge_draft.specs.Drafts.{Draft, full_draft, element_count, role, parent, first, is, attribute}
use Rattle.judge_tests.specs.declared.Test.TheVariants.{Any}
use Rattle.judge_tests.specs.Passing.{passes}
use Rattle.judge_below.specs.Chosen.{meets, chosen, wanted, kids, one_has, only_one, only_kid}
use Rattle.judge_header.specs.declared.Header.{Header}
use Rattle.judge_header.specs.Header.{header_of, registration_code, request_code, code_is, typed_code, has_type, type_of}
use Rattle.judge_type.specs.Drafted.{draft_as, type_in, draft_of}

-- ---- a document has a type when 7 holds
pub has_type_lem : (d : Draft) (h : Header) → has_type d h ≡ fits either (type_of d h)
unfolding has_type typed_code type_of
has_type_lem d h = by h.code
  where
    of : (a b : Bool) → a or b ≡ fits either (pick a Registration (pick b Request Neither))
    of true b = refl
    of false true = refl
    of false false = refl

    by : (x : Option ℕ) → one_has x (typed_code d) ≡ fits either (pick (one_has x (code_is d registration_code)) Registration (pick (one_has x (code_is d request_code)) Request Neither))
    by None = refl
    by (Some k) = of (code_is d registration_code k) (code_is d request_code k)

-- ---- what the root lists
root_lists : (t : DocumentType) (name : List ℕ) → child_role t Root name ≡ child_role Neither Root name
unfolding child_role role_named
root_lists Neither name = refl
root_lists Registration name = refl
root_lists Request name = refl

one_same : (x : Option ℕ) (p q : ℕ → Bool) → ((k : ℕ) → p k ≡ q k) → one_has x p ≡ one_has x q
one_same None p q f = refl
one_same (Some k) p q f = f k

module _ (s rows : List ℕ) where
  -- the role of a child of the root
  by_root : (t : DocumentType) (k : ℕ) → (k ≡ 0 → ⊥) → parent_of rows k ≡ 0 → role_of s rows t k ≡ pick (has_row s rows k) (child_role Neither Root (element_name s rows k)) Unknown
  by_root t k z e =
      role_told s rows t k z
      ∙ (ap (λ (p : ℕ). pick (has_row s rows k) (child_role t (role_of s rows t p) (element_name s rows k)) Unknown) e
      ∙ (ap (λ (r : ℕ). pick (has_row s rows k) (child_role t r (element_name s rows k)) Unknown) (sym (role_root s rows t 0 refl))
      ∙ ap (λ (r : ℕ). pick (has_row s rows k) r Unknown) (root_lists t (element_name s rows k))))

  -- a number that is told of the element table alone is the same for all types
  same_at : (j : ℕ) (x : ℕ → ℕ) → ((t : DocumentType) (k : ℕ) → k < length rows / 4 → get_or (notes_of s rows t) (4 * k + j) 0 ≡ x k) → (t : DocumentType) (k : ℕ) → get_or (notes_of s rows t) (4 * k + j) 0 ≡ get_or (notes_of s rows Neither) (4 * k + j) 0
  same_at j x f t k = go (ltb k (length rows / 4)) refl
    where
      go : (b : Bool) → ltb k (length rows / 4) ≡ b → get_or (notes_of s rows t) (4 * k + j) 0 ≡ get_or (notes_of s rows Neither) (4 * k + j) 0
      go true q = f t k (ltb-true k (length rows / 4) q) ∙ sym (f Neither k (ltb-true k (length rows / 4) q))
      go false q =
          let h : length rows / 4 ≤ k = ltb-false k (length rows / 4) q in
          get_or-eq_default (notes_of s rows t) 0 (omega (arith, notes_length s rows t))
          ∙ sym (get_or-eq_default (notes_of s rows Neither) 0 (omega (arith, notes_length s rows Neither)))

  -- the children of the root
  abbrev sought : Draft → ℕ → ℕ → Bool
  sought d r k = stands_below d.notes 1 0 k and meets d (wanted r 1 Any) k

  kids_are : (t : DocumentType) (r : ℕ) → kids (draft_as t s rows) 0 r ≡ those (sought (draft_as t s rows) r) 0 (element_count (draft_as t s rows))
  unfolding draft_as full_draft chosen all_below
  kids_are t r = refl

  module _ (t : DocumentType) where
    abbrev a : Draft
    a = draft_as t s rows

    abbrev b : Draft
    b = draft_as Neither s rows

    same_parent : (k : ℕ) → parent a k ≡ parent b k
    unfolding draft_as full_draft
    same_parent k = same_at 1 (parent_of rows) (note_parent s rows) t k

    same_first : (k : ℕ) → first a k ≡ first b k
    unfolding draft_as full_draft
    same_first k = same_at 2 (first_of rows) (note_first s rows) t k

    same_count : element_count a ≡ element_count b
    unfolding draft_as full_draft
    same_count = ap (λ (n : ℕ). n / 4) (notes_length s rows t ∙ sym (notes_length s rows Neither))

    count_is : element_count b ≡ length rows / 4
    unfolding draft_as full_draft
    count_is = omega (arith, notes_length s rows Neither)

    -- the role of a child of the root
    same_role : (k : ℕ) → k < length rows / 4 → (k ≡ 0 → ⊥) → parent b k ≡ 0 → role a k ≡ role b k
    unfolding draft_as full_draft
    same_role k h z e =
        let p : parent_of rows k ≡ 0 = sym (note_parent s rows Neither k h) ∙ e in
        note_role s rows t k h ∙ (by_root t k z p ∙ (sym (by_root Neither k z p) ∙ sym (note_role s rows Neither k h)))

    same_sought : (r k : ℕ) → k < length rows / 4 → sought a r k ≡ sought b r k
    unfolding ancestor_in is passes
    same_sought r k h = rw (same_parent k) (go (eqb (parent b k) 0) (eqb k 0) refl refl)
      where
        go : (v z : Bool) → eqb (parent b k) 0 ≡ v → eqb k 0 ≡ z → (v and not z) and (is a r k and passes a Any k) ≡ (v and not z) and (is b r k and passes b Any k)
        go true false q e = rw (same_role k h (eqb-false k 0 e) (eqb-true (parent b k) 0 q))
        go true true q e = refl
        go false z q e = refl

    same_those : (r m k : ℕ) → k + m ≤ length rows / 4 → those (sought a r) k m ≡ those (sought b r) k m
    unfolding those
    same_those r zero k h = refl
    same_those r (suc m) k h = rw (same_sought r k (omega arith), same_those r m (k + 1) (omega arith))

    same_kid : (r : ℕ) → only_kid a 0 r ≡ only_kid b 0 r
    same_kid r = ap only_one (kids_are t r ∙ (by (element_count b) refl ∙ sym (kids_are Neither r)))
      where
        by : (m : ℕ) → element_count b ≡ m → those (sought a r) 0 (element_count a) ≡ those (sought b r) 0 m
        by m e = rw (same_count, e) (same_those r m 0 (omega (arith, e, count_is)))

    pub same_header : header_of a ≡ header_of b
    unfolding header_of
    same_header = rw (same_kid Id, same_kid Code, same_kid EffectiveTime, same_kid SetId, same_kid VersionNumber)

    same_code : (type : List ℕ) (k : ℕ) → code_is a type k ≡ code_is b type k
    unfolding code_is attribute draft_as full_draft
    same_code type k = rw (same_first k)

    pub same_type : type_of a (header_of a) ≡ type_in s rows
    unfolding type_in type_of
    same_type =
        rw (same_header, one_same (header_of b).code (code_is a registration_code) (code_is b registration_code) (same_code registration_code), one_same (header_of b).code (code_is a request_code) (code_is b request_code) (same_code request_code))

-- the draft has the type that it is read with
pub type_agrees : (s rows : List ℕ) → type_of (draft_of s rows) (header_of (draft_of s rows)) ≡ type_in s rows
unfolding draft_of
type_agrees s rows = same_type s rows (type_in s rows)
