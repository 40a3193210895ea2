-- How a value is shown, by the tests of the code; and that the bytes which are shown are those that the value says.
-- Assumes nothing.
use Rattle.std.specs.Prelude.{Option, None, Some}
use mathlib.Core.Path.{◌≡◌, refl, sym, ◌∙◌, ap}
use mathlib.Core.Bool.{Bool, true, false, ◌&&◌}
use Rattle.std.specs.List.{list_all}
use mathlib.Core.List.{List, [], ◌∷◌, ◌++◌}
use Prim.Native.Nat.{ℕ, ◌+◌, ◌-◌, ◌<◌, ◌≤◌, min}
use Prim.Native.Char.{code}
use native.Mathlib.Omega.{arith}
use borrow.Author.Tests.{le-leb, lt-leb, leb-true}
use lib.Dec.{eqb, leb}
use lib.ListN.{length, take, drop, length-append, length-drop}
use lib.Seq.{sets, take_at, length-take-le}
use native.Mathlib.Nat.{min-eq_left}
use Rattle.std.proofs.lemmas.List.{take_min}
use denote.Ref.{Bor}
use Rattle.text_scan.specs.Choice.{pick, ◌and◌, not}
use Rattle.text_scan.specs.Lists.{every}
use Rattle.text_scan.proofs.Tests.{pick_case, and_left, and_right}
use Rattle.text_scan.proofs.Within.{inside}
use Rattle.xml_reader.specs.Limits.{value_limit}
use Rattle.xml_references.specs.Decoded.{part, decoded, is_plain}
use Rattle.xml_references.proofs.Replaced.{decoded_most, plain_same}
use Rattle.xml_references.proofs.Writes.{fronted}
use Rattle.xml_values.specs.declared.Place.{Place}
use Rattle.xml_values.specs.declared.View.{View}
use Rattle.xml_values.specs.declared.View.TheVariants.{Document, Scratch}
use Rattle.xml_values.specs.Attributes.{attribute_place, value_at, attribute_of}
use Rattle.xml_values.specs.Views.{is_shown, view_of, view_in, said_in, plain_of, scratch_after, seen, InRange, view_within, Shows, stand_of, ShowsAt}
use Rattle.xml_values.proofs.Attributes.{Within, attribute_within, place_room}
use Rattle.xml_values.specs.Places.{from_to}

-- ---- all bytes, asked by an iterator
pub all_every : (p : ℕ → Bool) (xs : List ℕ) → list_all p xs ≡ every p xs
unfolding every
all_every p [] = refl
all_every p (x ∷ xs) = both (p x) (list_all p xs) (every p xs) (all_every p xs)
  where
    both : (t a b : Bool) → a ≡ b → t && a ≡ t and b
    both true a b e = e
    both false a b e = refl

-- what is shown as it stands has no reference
pub shown_plain : (xs : List ℕ) → every is_shown xs ≡ true → every is_plain xs ≡ true
unfolding every
shown_plain [] e = refl
shown_plain (x ∷ xs) e =
    rw (and_left (not (eqb x (code "&"))) (not (eqb x (code "<"))) (and_left (is_shown x) (every is_shown xs) e)) (shown_plain xs (and_right (is_shown x) (every is_shown xs) e))

-- ---- with a scratch area that has room for a value, and with one that has not
module _ (s : List ℕ) (place : Option Place) (bytes out : List ℕ) where
  pub view_roomy : value_limit ≤ length out → view_in out s place bytes ≡ view_of s place bytes
  unfolding view_in
  view_roomy h = rw (le-leb value_limit (length out) h)

  view_small : length out < value_limit → view_in out s place bytes ≡ Document 0 0
  unfolding view_in
  view_small h = rw (lt-leb value_limit (length out) h)

  -- an empty part of the document is shown of the same view
  shows_empty : view_in out s place bytes ≡ Document 0 0 → Shows s place bytes out (Document 0 0) out
  unfolding scratch_after
  shows_empty e = record { answers = sym e; leaves = rw e }

  pub shows_small : length out < value_limit → Shows s place bytes out (Document 0 0) out
  shows_small h = shows_empty (view_small h)

-- for callers: what is said with room is what the value says
pub room_says : (out said bytes : List ℕ) → said ≡ said_in out bytes → value_limit ≤ length out → said ≡ bytes
unfolding said_in
room_says out said bytes e h = e ∙ rw (le-leb value_limit (length out) h)

-- ---- by the tests of the code, which was told the place p
module _ (s : List ℕ) (place : Option Place) (bytes out : List ℕ) (p : Option Place) (ep : p ≡ place) where
  pub shows_nothing : p ≡ None → Shows s place bytes out (Document 0 0) out
  unfolding view_in view_of
  shows_nothing z =
      shows_empty s place bytes out (rw (← ep, z) (pick_case (λ v. v ≡ Document 0 0) (leb value_limit (length out)) (Document 0 0) (Document 0 0) (λ _. refl) (λ _. refl)))

  module _ (there : Place) (z : p ≡ Some there) (t : Bool) (et : t ≡ every is_shown (part s there.first there.after)) (room : value_limit ≤ length out) where
    pub shows_part : t ≡ true → Shows s place bytes out (Document there.first there.after) out
    unfolding view_of scratch_after
    shows_part f = record { answers = rw (view_roomy s place bytes out room, ← ep, z, ← et, f); leaves = rw (view_roomy s place bytes out room, ← ep, z, ← et, f) }

    pub shows_front : (n : ℕ) (out' : List ℕ) → t ≡ false → (n ≡ length bytes) × (out' ≡ bytes ++ drop n out) → Shows s place bytes out (Scratch n) out'
    unfolding view_of scratch_after
    shows_front n out' f g =
        record { answers = rw (view_roomy s place bytes out room, ← ep, z, ← et, f, g.0); leaves = rw (view_roomy s place bytes out room, ← ep, z, ← et, f, ← g.0) g.1 }

-- ---- where it says the bytes there, by the same tests
module _ (s : List ℕ) (place p : Option Place) (ep : p ≡ place) where
  pub plain_nothing : p ≡ None → from_to 0 0 ≡ plain_of s place
  unfolding plain_of
  plain_nothing z = rw (← ep, z)

  module _ (there : Place) (z : p ≡ Some there) (t : Bool) (et : t ≡ every is_shown (part s there.first there.after)) where
    pub plain_part : t ≡ true → Some there ≡ plain_of s place
    unfolding plain_of
    plain_part f = rw (← ep, z, ← et, f)

    pub not_plain : t ≡ false → None ≡ plain_of s place
    unfolding plain_of
    not_plain f = rw (← ep, z, ← et, f)

-- the bytes of a place are those of the part of it that is within
pub bytes_within : (s : List ℕ) (a e a' e' : ℕ) → e' ≡ min e (length s) → a' ≡ min a e' → part s a' e' ≡ part s a e
bytes_within s a e a' e' he ha = inside a e' outside among
  where
    there : min (e - a) (length (drop a s)) ≡ e' - a
    there = rw (he, length-drop a s) (omega arith)

    same : take (e' - a) (drop a s) ≡ part s a e
    same = rw (← there) (take_min (e - a) (drop a s))

    outside : e' < a → part s a' e' ≡ part s a e
    outside h =
        let z : e' - a' ≡ 0 = omega (arith, ha) in
        let y : e' - a ≡ 0 = omega arith in
        rw z (rw y at same)

    among : a ≤ e' → part s a' e' ≡ part s a e
    among h = rw (ha ∙ min-eq_left h) same

-- ---- what is seen
-- a value with this raw place, which is within and within the limit: it says the bytes there, where they are shown as they stand, and never more
abbrev pub Says : List ℕ → Option Place → List ℕ → Type 0
Says s (Some p) bytes =
    (p.first ≤ p.after) × (p.after ≤ length s) × (p.after - p.first ≤ value_limit) × (every is_shown (part s p.first p.after) ≡ true → bytes ≡ part s p.first p.after) × (length bytes ≤ p.after - p.first)
Says s None bytes = bytes ≡ []

pub says_most : (s : List ℕ) (place : Option Place) (bytes : List ℕ) → Says s place bytes → length bytes ≤ value_limit
says_most s (Some p) bytes k = omega (arith, k.2, k.4)
says_most s None bytes k = rw k (omega arith)

module _ (s bytes scratch : List ℕ) where
  -- of the view that the definition gives, and the scratch area that it leaves
  Seen : View → List ℕ → Type 0
  Seen v said = InRange s (scratch_after v bytes scratch) v × (seen s (scratch_after v bytes scratch) v ≡ said)

  seen_at : value_limit ≤ length scratch → (a e : ℕ) → Says s (from_to a e) bytes → (t : Bool) → every is_shown (part s a e) ≡ t → Seen (pick t (Document a e) (Scratch (length bytes))) bytes
  unfolding Seen scratch_after
  seen_at room a e k true q = ((k.0, k.1), sym (k.3 q))
  seen_at room a e k false q =
      (simp (length-append, length-drop) (omega arith), take_at bytes (drop (length bytes) scratch) (length bytes) refl)

  seen_of : value_limit ≤ length scratch → (place : Option Place) → Says s place bytes → Seen (view_of s place bytes) bytes
  unfolding view_of Seen scratch_after
  seen_of room (Some p) k = seen_at room p.first p.after k (every is_shown (part s p.first p.after)) refl
  seen_of room None k = ((omega arith, omega arith), sym k)

  seen_in : (place : Option Place) → Says s place bytes → Seen (view_in scratch s place bytes) (said_in scratch bytes)
  unfolding view_in said_in Seen scratch_after
  seen_in place k =
      inside value_limit (length scratch) (λ h. rw (lt-leb value_limit (length scratch) h) ((omega arith, omega arith), refl))
      (λ h. rw (le-leb value_limit (length scratch) h) (seen_of h place k))

  module _ (place : Option Place) (k : Says s place bytes) (view : View) (after : List ℕ) (x : Shows s place bytes scratch view after) where
    pub in_range : InRange s after view
    unfolding Seen
    in_range = rw (x.leaves, x.answers) (seen_in place k).0

    pub seen_is : seen s after view ≡ said_in scratch bytes
    unfolding Seen
    seen_is = rw (x.leaves, x.answers) (seen_in place k).1

-- ---- for callers: a value that stands within and says the bytes there
abbrev pub AsItStands : List ℕ → List ℕ → Option Place → Type 0
AsItStands s bytes (Some p) = (p.first ≤ p.after) × (p.after ≤ length s) × (part s p.first p.after ≡ bytes)
AsItStands s bytes None = Unit {0}

pub plain_stands : (s bytes : List ℕ) (place : Option Place) → Says s place bytes → AsItStands s bytes (plain_of s place)
unfolding plain_of
plain_stands s bytes (Some p) k = go (every is_shown (part s p.first p.after)) refl
  where
    go : (t : Bool) → every is_shown (part s p.first p.after) ≡ t → AsItStands s bytes (pick t (from_to p.first p.after) None)
    go true q = (k.0, k.1, sym (k.3 q))
    go false q = tt
plain_stands s bytes None k = (omega arith, omega arith, sym k)

-- ---- the parts that are shown, for the code
module _ (s scratch : List ℕ) (view : View) (r : InRange s scratch view) where
  module _ (a e : ℕ) (z : view ≡ Document a e) where
    pub part_ahead : a ≤ e
    part_ahead = (rw z at r).0

    pub part_inside : e ≤ length s
    part_inside = (rw z at r).1

    pub part_seen : part s a e ≡ seen s scratch view
    part_seen = rw z

    pub part_stands : (d o : Bor (List ℕ)) → (d.ref_ptr.0, a + d.ref_ptr.1) ≡ stand_of d o view
    part_stands d o = rw z

  module _ (n : ℕ) (z : view ≡ Scratch n) where
    pub front_length : n ≡ length (take n scratch)
    front_length = sym (length-take-le n scratch (rw z at r))

    pub front_seen : take n scratch ≡ seen s scratch view
    front_seen = rw z

    pub front_stands : (d o : Bor (List ℕ)) → o.ref_ptr ≡ stand_of d o view
    front_stands d o = rw z

-- ---- a view in range, and one that is not
module _ (m k : ℕ) (view : View) where
  module _ (a e : ℕ) (z : view ≡ Document a e) where
    pub ends_first : e < a → Document 0 0 ≡ view_within m k view
    unfolding view_within
    ends_first h = rw (z, lt-leb a e h)

    module _ (h : a ≤ e) where
      pub ends_outside : m < e → Document 0 0 ≡ view_within m k view
      unfolding view_within
      ends_outside g = rw (z, le-leb a e h, lt-leb e m g)

      pub part_within : e ≤ m → Document a e ≡ view_within m k view
      unfolding view_within
      part_within g = rw (z, le-leb a e h, le-leb e m g)

  module _ (n : ℕ) (z : view ≡ Scratch n) where
    pub front_outside : k < n → Document 0 0 ≡ view_within m k view
    unfolding view_within
    front_outside h = rw (z, lt-leb n k h)

    pub front_within : n ≤ k → Scratch n ≡ view_within m k view
    unfolding view_within
    front_within h = rw (z, le-leb n k h)

pub within_range : (s scratch : List ℕ) (view : View) → InRange s scratch (view_within (length s) (length scratch) view)
unfolding view_within
within_range s scratch (Document a e) = go (leb a e) refl (leb e (length s)) refl
  where
    go : (t : Bool) → leb a e ≡ t → (u : Bool) → leb e (length s) ≡ u → InRange s scratch (pick (t and u) (Document a e) (Document 0 0))
    go true p true q = (leb-true a e p, leb-true e (length s) q)
    go true p false q = (omega arith, omega arith)
    go false p u q = (omega arith, omega arith)
within_range s scratch (Scratch n) =
    pick_case (InRange s scratch) (leb n (length scratch)) (Scratch n) (Document 0 0) (λ e. leb-true n (length scratch) e) (λ _. (omega arith, omega arith))

pub within_same : (s scratch : List ℕ) (view : View) → InRange s scratch view → view_within (length s) (length scratch) view ≡ view
unfolding view_within
within_same s scratch (Document a e) r = rw (le-leb a e r.0, le-leb e (length s) r.1)
within_same s scratch (Scratch n) r = rw (le-leb n (length scratch) r)

-- the document is handed on as e
module _ (d e o : Bor (List ℕ)) (q : e ≡ d) (view v : View) (w : v ≡ view_within (length d.now) (length o.now) view) where
  pub same_range : InRange e.now o.now v
  same_range = rw (q, w) (within_range d.now o.now view)

  pub same_shown : (r : Bor (List ℕ)) → ShowsAt e o v (seen e.now o.now v) r → ShowsAt d o (view_within (length d.now) (length o.now) view) (seen d.now o.now (view_within (length d.now) (length o.now) view)) r
  same_shown r x = rw (← w, ← q) x

-- what is shown of a scratch area t, lent on from o, is shown of o
same_stand : (d t o : Bor (List ℕ)) (view : View) → t.ref_ptr ≡ o.ref_ptr → stand_of d t view ≡ stand_of d o view
same_stand d t o (Document a e) q = refl
same_stand d t o (Scratch n) q = q

pub shown_of : (d t : Bor (List ℕ)) (view : View) (r : Bor (List ℕ)) → ShowsAt d t (view_within (length d.now) (length t.now) view) (seen d.now t.now (view_within (length d.now) (length t.now) view)) r → InRange d.now t.now view → (o : Bor (List ℕ)) (right : View) (said : List ℕ) → t.ref_ptr ≡ o.ref_ptr → view ≡ right → seen d.now t.now view ≡ said → ShowsAt d o right said r
shown_of d t view r x w o right said q v b =
    let e : view_within (length d.now) (length t.now) view ≡ view = within_same d.now t.now view w in
    record { says = x.says ∙ ap (seen d.now t.now) e ∙ b; stands = x.stands ∙ ap (stand_of d t) e ∙ same_stand d t o view q ∙ ap (stand_of d o) v }

-- ---- an attribute's value is shown, and seen
pub attribute_front : (s : List ℕ) (first : ℕ) (name out : List ℕ) (p : Option Place) → p ≡ attribute_place s first name → (there : Place) → p ≡ Some there → (t : Bool) → t ≡ every is_shown (part s there.first there.after) → value_limit ≤ length out → (n : ℕ) (out' : List ℕ) → t ≡ false → (n ≡ length (decoded s there.first there.after)) × (out' ≡ sets out 0 (decoded s there.first there.after)) → Shows s (attribute_place s first name) (attribute_of s first name) out (Scratch n) out'
attribute_front s first name out p ep there z t et room n out' f g =
    let q : attribute_place s first name ≡ Some there = sym ep ∙ z in
    let w : (n ≡ length (decoded s there.first there.after)) × (out' ≡ decoded s there.first there.after ++ drop n out) = fronted s out out' there.first there.after n (place_room s first name p ep there z out room) g in
    shows_front s (attribute_place s first name) (attribute_of s first name) out p ep there z t et room n out' f (rw q w)

pub attribute_says : (s : List ℕ) (first : ℕ) (name : List ℕ) → Says s (attribute_place s first name) (attribute_of s first name)
attribute_says s first name = go (attribute_place s first name) (attribute_within s first name)
  where
    go : (p : Option Place) → Within s p → Says s p (value_at s p)
    go (Some p) w = (w.0, w.1, w.2, λ q. plain_same (part s p.first p.after) (shown_plain (part s p.first p.after) q), decoded_most s p.first p.after)
    go None w = refl

module _ (s : List ℕ) (first : ℕ) (name scratch : List ℕ) (view : View) (after : List ℕ) (x : Shows s (attribute_place s first name) (attribute_of s first name) scratch view after) where
  pub attribute_in_range : InRange s after view
  attribute_in_range = in_range s (attribute_of s first name) scratch (attribute_place s first name) (attribute_says s first name) view after x

  pub attribute_seen : seen s after view ≡ said_in scratch (attribute_of s first name)
  attribute_seen = seen_is s (attribute_of s first name) scratch (attribute_place s first name) (attribute_says s first name) view after x

-- ---- an attribute that says the bytes where it stands
module _ (s : List ℕ) (first : ℕ) (name : List ℕ) (p : Option Place) where
  module _ (ep : p ≡ plain_of s (attribute_place s first name)) (there : Place) (z : p ≡ Some there) where
    stands : AsItStands s (attribute_of s first name) (Some there)
    stands = rw (sym ep ∙ z) at (plain_stands s (attribute_of s first name) (attribute_place s first name) (attribute_says s first name))

    pub plain_attribute_ahead : there.first ≤ there.after
    plain_attribute_ahead = stands.0

    pub plain_attribute_inside : there.after ≤ length s
    plain_attribute_inside = stands.1

    pub plain_attribute_says : part s there.first there.after ≡ attribute_of s first name
    plain_attribute_says = stands.2
