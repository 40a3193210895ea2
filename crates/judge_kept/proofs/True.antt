-- What is held of an element whose numbers were kept is what the document says.
-- Assumes nothing.
use Rattle.std.specs.Prelude.{Option, None, Some}
use mathlib.Core.Path.{◌≡◌, refl, sym, ◌∙◌}
use mathlib.Core.Bool.{Bool, true, false}
use mathlib.Core.List.{List, [], ◌∷◌}
use Prim.Native.Nat.{ℕ, ◌+◌, ◌-◌, ◌*◌, ◌<◌}
use native.Mathlib.Omega.{arith}
use lib.Dec.{eqb, ltb, leb}
use lib.ListN.{length, get_or}
use Rattle.text_scan.specs.Choice.{pick, ◌and◌}
use Rattle.text_scan.proofs.Tests.{never, pick_case}
use Rattle.text_facts.specs.Strings.{equal, is_one_of}
use Rattle.text_facts.proofs.StringLaws.{equal_is}
use Rattle.xml_references.specs.Decoded.{part}
use Rattle.xml_values.specs.declared.Place.{Place}
use Rattle.xml_values.specs.Attributes.{attribute_place, attribute_of, has_other}
use Rattle.xml_values.specs.Views.{plain_of}
use Rattle.xml_values.proofs.Attributes.{empty_name}
use Rattle.xml_values.proofs.Unlisted.{unlisted_says}
use Rattle.xml_values.proofs.Views.{AsItStands, plain_stands, attribute_says}
use Rattle.xml_listed.specs.declared.Listed.{Listed}
use Rattle.xml_listed.specs.Listed.{listed_in}
use Rattle.xml_texts.specs.Texts.{text_place, text_of}
use Rattle.xml_texts.proofs.Texts.{text_says}
use Rattle.judge_paths.specs.Roles.{is_known_role}
use Rattle.judge_paths.specs.Attributes.{Lists, attribute_table, is_role, listed_names}
use Rattle.judge_kept.specs.Kept.{kept_width, kept_in, is_kept, first_number, after_number, text_roles, text_kept, Three, three, names_of, nothing_listed, listed_by, listed_kept, flag_of, kept_of, standing, text_held, which_of, role_in, first_in, no_other, attribute_held, held_or, value_in, words_in, other_in}
use Rattle.xml_values.specs.Places.{from_to}

-- ---- a place in numbers: it stands as it stood, or is not kept
module _ (s v : List ℕ) where
  back : (a e : ℕ) → part s a e ≡ v → (b : Bool) → held_or s (standing s (pick b a 0) (pick b (e + 1) 0)) v ≡ v
  unfolding standing
  back a e q true =
      let z : e + 1 - 1 ≡ e = omega arith in
      rw z (pick_case (λ p. held_or s p v ≡ v) (ltb a (e + 1) and leb e (length s)) (from_to a e) None (λ _. q) (λ _. refl))
  back a e q false = refl

  pub place_back : (p : Option Place) → AsItStands s v p → held_or s (standing s (first_number p) (after_number p)) v ≡ v
  unfolding standing
  place_back (Some p) k = back p.first p.after k.2 (is_kept p.first p.after)
  place_back None k = refl

-- ---- the text
module _ (s : List ℕ) (f r : ℕ) where
  pub text_true : held_or s (standing s (first_number (text_kept s f r)) (after_number (text_kept s f r))) (text_of s f) ≡ text_of s f
  unfolding text_kept
  text_true = place_back s (text_of s f) (text_kept s f r) (stands (is_role r text_roles))
    where
      stands : (b : Bool) → AsItStands s (text_of s f) (pick b (plain_of s (text_place s f)) None)
      stands true = plain_stands s (text_of s f) (text_place s f) (text_says s f)
      stands false = tt

-- ---- the attributes
-- what is told of three names: each stands as it stands, and where there is no other, none
pub record Told (s : List ℕ) (f : ℕ) (t : Three) (l : Listed) : Type 0 where
  pub first_stands : AsItStands s (attribute_of s f t.x) l.x
  pub second_stands : AsItStands s (attribute_of s f t.y) l.y
  pub third_stands : AsItStands s (attribute_of s f t.z) l.z
  pub no_more : l.other ≡ false → has_other s f (t.x ∷ t.y ∷ t.z ∷ []) ≡ false

told : (s : List ℕ) (f : ℕ) (t : Three) (b : Bool) → Told s f t (pick b (listed_by s f t) nothing_listed)
unfolding listed_in
told s f t true =
    record {
      first_stands = plain_stands s (attribute_of s f t.x) (attribute_place s f t.x) (attribute_says s f t.x);
      second_stands = plain_stands s (attribute_of s f t.y) (attribute_place s f t.y) (attribute_says s f t.y);
      third_stands = plain_stands s (attribute_of s f t.z) (attribute_place s f t.z) (attribute_says s f t.z);
      no_more = λ e. e;
    }
told s f t false = record { first_stands = tt; second_stands = tt; third_stands = tt; no_more = λ e. never e }

kept_told : (s : List ℕ) (f r : ℕ) → Told s f (names_of r) (listed_kept s f r)
unfolding listed_kept
kept_told s f r = told s f (names_of r) (is_known_role r)

-- ---- the names of a role are three or fewer
abbrev Short : List (List ℕ) → Type 0
Short [] = Unit {0}
Short (a ∷ []) = Unit {0}
Short (a ∷ b ∷ []) = Unit {0}
Short (a ∷ b ∷ c ∷ []) = Unit {0}
Short (a ∷ b ∷ c ∷ d ∷ more) = ⊥

abbrev AllShort : List Lists → Type 0
AllShort [] = Unit {0}
AllShort (x ∷ xs) = Short x.names × AllShort xs

short : (r : ℕ) (xs : List Lists) → AllShort xs → Short (listed_names r xs)
unfolding listed_names
short r [] k = tt
short r (x ∷ xs) k = pick_case Short (is_role r x.roles) x.names (listed_names r xs) (λ _. k.0) (λ _. short r xs k.1)

same_others : (s : List ℕ) (f : ℕ) (names : List (List ℕ)) → Short names → has_other s f ((three names).x ∷ (three names).y ∷ (three names).z ∷ []) ≡ has_other s f names
same_others s f [] k = empty_name s f ([] ∷ [] ∷ []) ∙ empty_name s f ([] ∷ []) ∙ empty_name s f []
same_others s f (a ∷ []) k = empty_name s f (a ∷ [] ∷ []) ∙ empty_name s f (a ∷ [])
same_others s f (a ∷ b ∷ []) k = empty_name s f (a ∷ b ∷ [])
same_others s f (a ∷ b ∷ c ∷ []) k = refl
same_others s f (a ∷ b ∷ c ∷ d ∷ more) k = absurd k

pub their_others : (s : List ℕ) (f r : ℕ) → has_other s f ((names_of r).x ∷ (names_of r).y ∷ (names_of r).z ∷ []) ≡ has_other s f (listed_names r attribute_table)
their_others s f r = same_others s f (listed_names r attribute_table) (short r attribute_table (tt, (tt, (tt, (tt, (tt, (tt, tt)))))))

-- ---- element n of a run that holds what is kept of it
module _ (s w : List ℕ) (n f r : ℕ) (at_first : first_in w n ≡ f) (of-role : role_in w n ≡ r) (holds : (i : ℕ) → i < kept_width → kept_in w n i ≡ get_or (kept_of s f r) i 0) where
  k : Told s f (names_of r) (listed_kept s f r)
  k = kept_told s f r

  its_text : (kept_in w n 0 ≡ first_number (text_kept s f r)) × (kept_in w n 1 ≡ after_number (text_kept s f r))
  unfolding kept_of
  its_text = (holds 0 (omega arith), holds 1 (omega arith))

  its_x : (kept_in w n 2 ≡ first_number (listed_kept s f r).x) × (kept_in w n 3 ≡ after_number (listed_kept s f r).x)
  unfolding kept_of
  its_x = (holds 2 (omega arith), holds 3 (omega arith))

  its_y : (kept_in w n 4 ≡ first_number (listed_kept s f r).y) × (kept_in w n 5 ≡ after_number (listed_kept s f r).y)
  unfolding kept_of
  its_y = (holds 4 (omega arith), holds 5 (omega arith))

  its_z : (kept_in w n 6 ≡ first_number (listed_kept s f r).z) × (kept_in w n 7 ≡ after_number (listed_kept s f r).z)
  unfolding kept_of
  its_z = (holds 6 (omega arith), holds 7 (omega arith))

  its_flag : kept_in w n 8 ≡ flag_of (listed_kept s f r).other
  unfolding kept_of
  its_flag = holds 8 (omega arith)

  pub words_true : words_in s w n ≡ text_of s f
  unfolding words_in text_held
  words_true = rw (at_first, its_text.0, its_text.1) (text_true s f r)

  pub other_true : other_in s w n ≡ has_other s f (listed_names r attribute_table)
  unfolding other_in
  other_true = rw (at_first, of-role, its_flag) (go (listed_kept s f r).other refl)
    where
      go : (b : Bool) → (listed_kept s f r).other ≡ b → pick (eqb (flag_of b) 1) false (has_other s f (listed_names r attribute_table)) ≡ has_other s f (listed_names r attribute_table)
      go true q = refl
      go false q = sym (sym (their_others s f r) ∙ k.no_more q)

  module _ (name : List ℕ) where
    abbrev v : List ℕ
    v = attribute_of s f name

    abbrev held_by : ℕ → Option Place
    held_by j = pick (ltb j 3) (standing s (kept_in w n (2 + 2 * j)) (kept_in w n (3 + 2 * j))) (pick (no_other w n) (from_to 0 0) None)

    named : (x : List ℕ) (p : Option Place) → equal name x ≡ true → AsItStands s (attribute_of s f x) p → held_or s (standing s (first_number p) (after_number p)) v ≡ v
    named x p e q = place_back s v p (rw (equal_is name x e) q)

    unnamed : equal name (names_of r).x ≡ false → equal name (names_of r).y ≡ false → equal name (names_of r).z ≡ false → (b : Bool) → (listed_kept s f r).other ≡ b → held_or s (pick (eqb (flag_of b) 1) (from_to 0 0) None) v ≡ v
    unfolding is_one_of
    unnamed a b c true q = refl
    unnamed a b c false q =
        sym (unlisted_says s ((names_of r).x ∷ (names_of r).y ∷ (names_of r).z ∷ []) name (rw (a, b, c)) f (k.no_more q))

    by_name : (a b c : Bool) → equal name (names_of r).x ≡ a → equal name (names_of r).y ≡ b → equal name (names_of r).z ≡ c → held_or s (held_by (pick a 0 (pick b 1 (pick c 2 3)))) v ≡ v
    by_name true b c p q o = rw (its_x.0, its_x.1) (named (names_of r).x (listed_kept s f r).x p k.first_stands)
    by_name false true c p q o = rw (its_y.0, its_y.1) (named (names_of r).y (listed_kept s f r).y q k.second_stands)
    by_name false false true p q o = rw (its_z.0, its_z.1) (named (names_of r).z (listed_kept s f r).z o k.third_stands)
    by_name false false false p q o = rw its_flag (unnamed p q o (listed_kept s f r).other refl)

    pub value_true : value_in s w n name ≡ v
    unfolding value_in attribute_held which_of
    value_true = rw (at_first, of-role) (by_name (equal name (names_of r).x) (equal name (names_of r).y) (equal name (names_of r).z) refl refl refl)
