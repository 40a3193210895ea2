-- The attributes of a tag, by what the loops over them know; and where a raw value stands, for callers.
-- Assumes nothing.
use mathlib.Core.Path.{◌≡◌, refl, sym, ◌∙◌, ap}
use mathlib.Core.Bool.{Bool, true, false}
use mathlib.Core.List.{List, [], ◌∷◌, ◌++◌}
use Prim.Native.Nat.{ℕ, ◌+◌, ◌-◌, ◌<◌, ◌≤◌}
use Prim.Native.Char.{code}
use native.Mathlib.Omega.{arith}
use borrow.Author.Tests.{eq-eqb, ne_eqb, lt-ltb, le-ltb, le-leb, lt-leb, leb-true}
use lib.Dec.{ltb, leb}
use lib.ListN.{length, get_or}
use Rattle.std.specs.Prelude.{Option, Some, None, cond}
use Rattle.std.specs.List.{find}
use Rattle.text_scan.specs.Choice.{pick, ◌or◌, ◌and◌, not}
use Rattle.text_scan.specs.Lists.{begins}
use Rattle.text_scan.proofs.Tests.{pick_case, and_false}
use Rattle.xml_names.specs.Names.{name_end, name_is}
use Rattle.xml_reader.specs.Limits.{value_limit}
use Rattle.xml_attributes.specs.declared.Attribute.{Attribute}
use Rattle.xml_names.specs.ElementNames.{element_end}
use Rattle.xml_attributes.specs.Attributes.{attribute_at}
use Rattle.xml_attributes.specs.Chains.{items}
use Rattle.xml_attributes.specs.Parts.{attributes, some_attribute}
use Rattle.xml_attributes.proofs.Pieces.{Inside, attribute_inside}
use Rattle.xml_attributes.specs.Listed.{listed}
use Rattle.xml_attributes.proofs.Listed.{Here, along, found_here}
use Rattle.xml_values.specs.declared.Place.{Place}
use Rattle.xml_values.specs.Attributes.{name_after, attributes_of, value_place, first_named, attribute_place, has_value, is_listed, is_other, has_other}
use Rattle.xml_values.specs.Places.{from_to}

-- ---- the name of the tag
module _ (s : List ℕ) (first b : ℕ) (eb : b ≡ get_or s first 0) where
  pub no_tag : (b ≡ code "<" → ⊥) → length s ≡ name_after s first
  unfolding name_after
  no_tag f = rw (← eb, ne_eqb b (code "<") f)

  module _ (y : b ≡ code "<") (n : ℕ) (en : n ≡ element_end s (first + 1)) where
    pub no_name : n ≤ first + 1 → length s ≡ name_after s first
    unfolding name_after
    no_name h = rw (← eb, eq-eqb b (code "<") y, ← en, le-ltb (first + 1) n h)

    pub named : first + 1 < n → n ≡ name_after s first
    unfolding name_after
    named h = rw (← eb, eq-eqb b (code "<") y, ← en, lt-ltb (first + 1) n h)

-- ---- the value is that of the first attribute with the name
abbrev pub has_name : List ℕ → List ℕ → Attribute → Bool
has_name name s a = name_is name s a.at

first_of : (name s : List ℕ) (i : ℕ) → first_named name s (items (attributes s i)) ≡ value_place (find (has_name name s) (listed s i))
unfolding first_named
first_of name s = along s (λ bs l. first_named name s bs ≡ value_place (find (has_name name s) l)) refl (λ a h e. ap (λ x. pick (name_is name s a.at) (value_place x) (first_named name s (items (attributes s (a.value_end + 1))))) h.0 ∙ more (name_is name s a.at) a (listed s (a.value_end + 1)) _ e)
  where
    more : (t : Bool) (a : Attribute) (l : List Attribute) (p : Option Place) → p ≡ value_place (find (has_name name s) l) → pick t (value_place (Some a)) p ≡ value_place (cond t (Some a) (find (has_name name s) l))
    more true a l p e = refl
    more false a l p e = e

module _ (name s : List ℕ) (first i : ℕ) (ei : i ≡ name_after s first) (r : Option Attribute) (er : r ≡ find (has_name name s) (listed s i)) where
  finds : attribute_place s first name ≡ value_place r
  unfolding attribute_place
  finds = ap (λ (k : ℕ). first_named name s (items (attributes s k))) (sym ei) ∙ first_of name s i ∙ ap value_place (sym er)

  pub finds_none : r ≡ None → None ≡ attribute_place s first name
  finds_none z = sym (finds ∙ rw z)

  module _ (a : Attribute) (z : r ≡ Some a) where
    pub finds_ahead : a.value ≤ a.value_end
    finds_ahead = (found_here s (has_name name s) i a (sym er ∙ z)).1.4

    pub finds_within : a.value_end - a.value ≤ value_limit → from_to a.value a.value_end ≡ attribute_place s first name
    finds_within k = sym (finds ∙ rw (z, le-leb (a.value_end - a.value) value_limit k))

    pub finds_long : value_limit < a.value_end - a.value → None ≡ attribute_place s first name
    finds_long k = sym (finds ∙ rw (z, lt-leb (a.value_end - a.value) value_limit k))

-- ---- three names, one after the other
module _ (s : List ℕ) (b : ℕ) (valued : Bool) (x y z : List ℕ) (t : Bool) (et : t ≡ name_is x s b) where
  abbrev Three : Bool
  Three = valued and not (is_listed (x ∷ y ∷ z ∷ []) s b)

  pub first_listed : t ≡ true → false ≡ Three
  unfolding is_listed
  first_listed f = rw (← et, f) (sym (and_false valued))

  module _ (f : t ≡ false) (u : Bool) (eu : u ≡ name_is y s b) where
    pub second_listed : u ≡ true → false ≡ Three
    unfolding is_listed
    second_listed g = rw (← et, f, ← eu, g) (sym (and_false valued))

    module _ (g : u ≡ false) (w : Bool) (ew : w ≡ name_is z s b) where
      pub third_listed : w ≡ true → false ≡ Three
      unfolding is_listed
      third_listed k = rw (← et, f, ← eu, g, ← ew, k) (sym (and_false valued))

      pub none_listed : w ≡ false → valued ≡ true → true ≡ Three
      unfolding is_listed
      none_listed k v = rw (v, ← et, f, ← eu, g, ← ew, k)

pub no_value : (s : List ℕ) (b : ℕ) (valued : Bool) (names : List (List ℕ)) → valued ≡ false → false ≡ valued and not (is_listed names s b)
no_value s b valued names f = rw f

-- ---- an attribute that is not listed
abbrev pub other : List (List ℕ) → List ℕ → Attribute → Bool
other names s a = ltb a.value a.value_end and not (is_listed names s a.at)

pub other_here : (names : List (List ℕ)) (s : List ℕ) (a : Attribute) → Here s a → other names s a ≡ is_other names s a.at
unfolding is_other
other_here names s a h = rw h.0

pub others_told : (names : List (List ℕ)) (s : List ℕ) (first i : ℕ) (r : Bool) → i ≡ name_after s first → r ≡ some_attribute (λ b _. is_other names s b) (items (attributes s i)) → r ≡ has_other s first names
unfolding has_other
others_told names s first i r e f = f ∙ rw e

-- ---- bounds: a raw value stands within, and within the limit
abbrev pub Within : List ℕ → Option Place → Type 0
Within s (Some p) = (p.first ≤ p.after) × (p.after ≤ length s) × (p.after - p.first ≤ value_limit)
Within s None = Unit {0}

module _ (s : List ℕ) where
  value_within : (b : ℕ) (x : Option Attribute) → Inside s b x → Within s (value_place x)
  value_within b (Some a) w =
      pick_case (Within s) (leb (a.value_end - a.value) value_limit) _ _ (λ k. (w.4, omega (arith, w.5), leb-true (a.value_end - a.value) value_limit k)) (λ _. tt)
  value_within b None w = tt

  named_within : (name bs : List ℕ) → Within s (first_named name s bs)
  unfolding first_named
  named_within name [] = tt
  named_within name (b ∷ bs) =
      pick_case (Within s) (name_is name s b) _ _ (λ _. value_within b (attribute_at s b) (attribute_inside s b)) (λ _. named_within name bs)

  pub attribute_within : (first : ℕ) (name : List ℕ) → Within s (attribute_place s first name)
  unfolding attribute_place
  attribute_within first name = named_within name (attributes_of s first)

-- the same of a place that the code was told
module _ (s : List ℕ) (first : ℕ) (name : List ℕ) (p : Option Place) (ep : p ≡ attribute_place s first name) (there : Place) (z : p ≡ Some there) where
  told : Within s (Some there)
  told = rw z at (rw (← ep) at (attribute_within s first name))

  pub place_ahead : there.first ≤ there.after
  place_ahead = told.0

  pub place_inside : there.after ≤ length s
  place_inside = told.1

  pub place_room : (out : List ℕ) → value_limit ≤ length out → there.after - there.first ≤ length out
  place_room out h = omega (arith, told.2)

-- ---- for callers: an empty name lists nothing, so a caller with fewer names hands in empty ones
unnamed : (s : List ℕ) (b : ℕ) → b < name_end s b → name_is [] s b ≡ false
unfolding name_is begins
unnamed s b h = ne_eqb (name_end s b - b) 0 (λ e. omega arith)

append_listed : (names : List (List ℕ)) (s : List ℕ) (b : ℕ) → name_is [] s b ≡ false → is_listed (names ++ ([] ∷ [])) s b ≡ is_listed names s b
unfolding is_listed
append_listed [] s b u = rw u
append_listed (t ∷ ts) s b u = ap (λ l. name_is t s b or l) (append_listed ts s b u)

append_other : (names : List (List ℕ)) (s : List ℕ) (b : ℕ) → is_other (names ++ ([] ∷ [])) s b ≡ is_other names s b
unfolding is_other
append_other names s b = go (attribute_at s b) (attribute_inside s b)
  where
    go : (x : Option Attribute) → Inside s b x → has_value x and not (is_listed (names ++ ([] ∷ [])) s b) ≡ has_value x and not (is_listed names s b)
    go (Some a) w = rw (append_listed names s b (unnamed s b (rw w.1 at w.2)))
    go None w = refl

some_same : (p q : ℕ → List ℕ → Bool) → ((b : ℕ) (bs : List ℕ) → p b bs ≡ q b bs) → (bs : List ℕ) → some_attribute p bs ≡ some_attribute q bs
unfolding some_attribute
some_same p q f [] = refl
some_same p q f (b ∷ bs) = ap (λ t. t or some_attribute p bs) (f b bs) ∙ ap (λ t. q b bs or t) (some_same p q f bs)

pub empty_name : (s : List ℕ) (first : ℕ) (names : List (List ℕ)) → has_other s first (names ++ ([] ∷ [])) ≡ has_other s first names
unfolding has_other
empty_name s first names =
    some_same (λ b _. is_other (names ++ ([] ∷ [])) s b) (λ b _. is_other names s b) (λ b _. append_other names s b) (attributes_of s first)
