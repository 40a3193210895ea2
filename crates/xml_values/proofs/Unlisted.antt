-- What a tag without unlisted attributes says of the others: a bare one has none at all, and where none but the listed ones has a value, an
-- attribute that is not listed says nothing.
-- Assumes nothing.
use mathlib.Core.Path.{◌≡◌, refl, sym, ◌∙◌}
use mathlib.Core.Bool.{Bool, true, false}
use mathlib.Core.List.{List, [], ◌∷◌}
use Prim.Native.Nat.{ℕ, ◌+◌, ◌-◌, ◌<◌}
use Prim.Native.Char.{code}
use native.Mathlib.Omega.{arith}
use borrow.Author.Tests.{eq-eqb, ltb-false, eqb-true}
use lib.Dec.{eqb, leb}
use lib.ListN.{length, get_or, drop}
use Rattle.std.specs.Prelude.{Option, Some, None, Ok}
use Rattle.text_scan.specs.Choice.{◌or◌}
use Rattle.text_scan.specs.Lists.{begins, stands, pairs}
use Rattle.text_scan.proofs.Tests.{never, pick_case, and_left, and_right, and_true, or_left, or_right}
use Rattle.text_scan.proofs.Lists.{run_stops}
use Rattle.text_scan.proofs.Within.{there}
use Rattle.text_facts.specs.Strings.{equal, is_one_of}
use Rattle.xml_names.specs.Names.{is_space, space_end, name_end, name_is}
use Rattle.xml_reader.specs.Limits.{value_limit}
use Rattle.xml_references.specs.Decoded.{replaced}
use Rattle.xml_attributes.specs.declared.Attribute.{Attribute}
use Rattle.xml_attributes.specs.declared.TagPart.TheVariants.{Ended}
use Rattle.xml_attributes.specs.declared.Tag.TheVariants.{Start}
use Rattle.xml_attributes.specs.Attributes.{attribute_at}
use Rattle.xml_attributes.specs.Chains.{items}
use Rattle.xml_attributes.specs.Parts.{some_attribute}
use Rattle.xml_attributes.proofs.Parts.{part_start, attributes_stop}
use Rattle.xml_values.specs.Attributes.{name_after, is_bare, attributes_of, value_place, first_named, attribute_place, value_at, attribute_of, has_value, is_listed, is_other, has_other}
use Rattle.xml_values.specs.Places.{from_to}

-- ---- a bare tag
pub bare_byte : (s : List ℕ) (first n b : ℕ) → n ≡ name_after s first → b ≡ get_or s n 0 → eqb b (code ">") ≡ is_bare s first
unfolding is_bare
bare_byte s first n b en eb = rw (eb, en)

no_space : (b : ℕ) → b ≡ code ">" → false ≡ is_space b
no_space b e = rw e

pub bare_none : (s : List ℕ) (first : ℕ) → is_bare s first ≡ true → attributes_of s first ≡ []
unfolding is_bare items
bare_none s first t =
    let i : ℕ = name_after s first in
    let e : get_or s i 0 ≡ code ">" = eqb-true (get_or s i 0) (code ">") t in
    let h : i < length s = there s i (code ">") (omega arith) e in
    let g : i ≡ space_end s i = run_stops is_space s i i refl false h (no_space (get_or s i 0) e) refl in
    rw (attributes_stop s i (Ended (Ok (Start (i + 1)))) (part_start s i i g (get_or s i 0) refl e) (Ok (Start (i + 1))) refl h)

pub bare_other : (s : List ℕ) (first : ℕ) (names : List (List ℕ)) → is_bare s first ≡ true → has_other s first names ≡ false
unfolding has_other some_attribute
bare_other s first names t = rw (bare_none s first t)

-- ---- two names at one position are one
same_text : (t u xs : List ℕ) → begins t xs ≡ true → begins u xs ≡ true → length t ≡ length u → equal t u ≡ true
unfolding begins equal pairs
same_text [] [] xs e f l = refl
same_text [] (u ∷ us) xs e f l = absurd (omega arith)
same_text (t ∷ ts) [] xs e f l = absurd (omega arith)
same_text (t ∷ ts) (u ∷ us) [] e f l = never (sym e)
same_text (t ∷ ts) (u ∷ us) (x ∷ xs) e f l =
    let a : x ≡ t = eqb-true x t (and_left (eqb x t) (begins ts xs) e) in
    let b : x ≡ u = eqb-true x u (and_left (eqb x u) (begins us xs) f) in
    rw (eq-eqb t u (sym a ∙ b)) (same_text ts us xs (and_right (eqb x t) (begins ts xs) e) (and_right (eqb x u) (begins us xs) f) (omega arith))

one_name : (t u s : List ℕ) (b : ℕ) → name_is t s b ≡ true → name_is u s b ≡ true → equal t u ≡ true
unfolding name_is
one_name t u s b e f =
    let l : length t ≡ length u = sym (eqb-true (name_end s b - b) (length t) (and_right (stands t s b) _ e)) ∙ eqb-true (name_end s b - b) (length u) (and_right (stands u s b) _ f) in
    same_text t u (drop b s) (and_left (stands t s b) _ e) (and_left (stands u s b) _ f) l

not_listed : (names : List (List ℕ)) (name s : List ℕ) (b : ℕ) → is_one_of names name ≡ false → name_is name s b ≡ true → is_listed names s b ≡ false
unfolding is_listed is_one_of
not_listed [] name s b e f = refl
not_listed (t ∷ ts) name s b e f = go (name_is t s b) refl (not_listed ts name s b (or_right (equal name t) (is_one_of ts name) e) f)
  where
    go : (r : Bool) → name_is t s b ≡ r → is_listed ts s b ≡ false → name_is t s b or is_listed ts s b ≡ false
    go true g k = never (sym (one_name name t s b f g) ∙ or_left (equal name t) (is_one_of ts name) e)
    go false g k = rw (g, k)

-- ---- what has no value says nothing
empty_says : (s : List ℕ) (x : Option Attribute) → has_value x ≡ false → value_at s (value_place x) ≡ []
unfolding replaced
empty_says s (Some a) f =
    let z : a.value_end - a.value ≡ 0 = omega (arith, ltb-false a.value a.value_end f) in
    pick_case (λ p. value_at s p ≡ []) (leb (a.value_end - a.value) value_limit) (from_to a.value a.value_end) None (λ _. rw z) (λ _. refl)
empty_says s None f = refl

module _ (s : List ℕ) (names : List (List ℕ)) (name : List ℕ) (u : is_one_of names name ≡ false) where
  nothing_said : (bs : List ℕ) → some_attribute (λ b _. is_other names s b) bs ≡ false → value_at s (first_named name s bs) ≡ []
  unfolding some_attribute first_named is_other
  nothing_said [] e = refl
  nothing_said (b ∷ bs) e =
      pick_case (λ p. value_at s p ≡ []) (name_is name s b) (value_place (attribute_at s b)) (first_named name s bs)
      (λ y. empty_says s (attribute_at s b) (unvalued y))
      (λ _. nothing_said bs (or_right (is_other names s b) (some_attribute (λ c _. is_other names s c) bs) e))
    where
      unvalued : name_is name s b ≡ true → has_value (attribute_at s b) ≡ false
      unvalued y =
          sym (and_true (has_value (attribute_at s b)))
          ∙ (rw (not_listed names name s b u y) at (or_left (is_other names s b) (some_attribute (λ c _. is_other names s c) bs) e))

  pub unlisted_says : (first : ℕ) → has_other s first names ≡ false → attribute_of s first name ≡ []
  unfolding has_other attribute_place
  unlisted_says first e = nothing_said (attributes_of s first) e
