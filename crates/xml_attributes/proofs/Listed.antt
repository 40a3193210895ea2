-- The attributes of a tag as a list: what one call of the iterator takes from it, and what holds of the list and of the positions.
-- Assumes nothing.
use mathlib.Core.Path.{◌≡◌, refl, sym, ◌∙◌, ap, subst}
use mathlib.Core.Bool.{Bool, true, false, cond}
use mathlib.Core.List.{List, [], ◌∷◌}
use Prim.Native.Nat.{ℕ, zero, suc, ◌+◌, ◌-◌, ◌<◌}
use native.Mathlib.Omega.{arith}
use lib.ListN.{length, get_or}
use denote.Param.Members.{Mut, Called}
use Rattle.std.specs.Fn.{Takes, CalledAt, TakesAt}
use denote.Ref.{Bor}
use Rattle.std.specs.Prelude.{Option, Some, None, Result}
use Rattle.std.specs.List.{slice_get, find, list_any}
use borrow.Author.Tests.{lt-ltb, le-ltb}
use lib.Dec.{ltb}
use Rattle.std.specs.Option.{is_some, option_map}
use Rattle.std.specs.Iterator.{YieldsFirst, ChecksAny, FindsItem, SkipsThenYields, CallableWhile, CallableWhileAt}
use Rattle.std.proofs.lemmas.Iterator.{YieldsList}
use Rattle.std.proofs.lemmas.Iterator.Adapters.{serves_from_places}
use Rattle.std.proofs.lemmas.Iterator.Consumers.{YieldsList-from_first, nth_from_yields_List}
use Rattle.std.proofs.lemmas.Iterator.Search.{any_from_yields_List, find_from_yields_List}
use Rattle.refusals.specs.declared.Reason.{Reason}
use Rattle.text_scan.proofs.Tests.{never}
use Rattle.text_scan.proofs.Within.{inside}
use Rattle.xml_attributes.specs.declared.Attribute.{Attribute}
use Rattle.xml_attributes.specs.declared.TagPart.{TagPart}
use Rattle.xml_attributes.specs.declared.TagPart.TheVariants.{Read, Ended}
use Rattle.xml_attributes.specs.declared.Tag.{Tag}
use Rattle.xml_attributes.specs.Attributes.{attribute_at}
use Rattle.xml_attributes.specs.Chains.{item, items}
use Rattle.xml_attributes.specs.Parts.{part_at, attributes, some_attribute}
use Rattle.xml_attributes.specs.declared.Attributes.{Attributes}
use Rattle.xml_attributes.specs.Listed.{listed, left}
use Rattle.xml_attributes.proofs.Pieces.{Inside}
use Rattle.xml_attributes.proofs.Some.{or_same}
use Rattle.xml_attributes.proofs.Parts.{read_inside, read_falls, read_attribute, attributes_go, attributes_stop, attributes_out}

-- ---- what stands at a place, the list begins with
module _ (s : List ℕ) (i : ℕ) (x : TagPart) (ex : x ≡ part_at s i) where
  pub row_goes : (a : Attribute) → x ≡ Read a → attributes s i ≡ item a.at (attributes s (a.value_end + 1))
  row_goes a z = attributes_go s i x ex a z (omega (arith, read_falls s i x ex a z))

  pub list_goes : (a : Attribute) → x ≡ Read a → listed s i ≡ a ∷ listed s (a.value_end + 1)
  unfolding listed items
  list_goes a z = rw (row_goes a z, read_attribute s i x ex a z)

  pub row_stops : (t : Result Tag Reason) → x ≡ Ended t → items (attributes s i) ≡ []
  unfolding items
  row_stops t z = inside (length s) i (λ h. rw (attributes_stop s i x ex t z h)) (λ h. rw (attributes_out s i h))

  pub list_stops : (t : Result Tag Reason) → x ≡ Ended t → listed s i ≡ []
  unfolding listed
  list_stops t z = rw (row_stops t z)

  -- a call from i takes one, and fewer are left
  pub list_falls : (a : Attribute) → x ≡ Read a → length (listed s (a.value_end + 1)) < length (listed s i)
  list_falls a z = rw (list_goes a z) (omega arith)

-- ---- what an attribute of the list is: it stands at its place, and its parts are within
abbrev pub Here : List ℕ → Attribute → Type 0
Here s a = (attribute_at s a.at ≡ Some a) × Inside s a.at (Some a)

-- what holds of nothing, and of an attribute in front of those behind it, holds of the positions and the list
module _ (s : List ℕ) (P : List ℕ → List Attribute → Type 0) (none : P [] []) (some : (a : Attribute) → Here s a → P (items (attributes s (a.value_end + 1))) (listed s (a.value_end + 1)) → P (a.at ∷ items (attributes s (a.value_end + 1))) (a ∷ listed s (a.value_end + 1))) where
  along_to : (k i : ℕ) → length s - i < k → P (items (attributes s i)) (listed s i)
  unfolding items
  along_to zero i h = absurd (omega arith)
  along_to (suc k) i h = here (part_at s i) refl (along_to k)
    where
      here : (x : TagPart) → x ≡ part_at s i → ((j : ℕ) → length s - j < k → P (items (attributes s j)) (listed s j)) → P (items (attributes s i)) (listed s i)
      here (Read a) e again =
          rw (row_goes s i (Read a) e a refl, list_goes s i (Read a) e a refl)
          (some a (read_attribute s i (Read a) e a refl, read_inside s i (Read a) e a refl) (again (a.value_end + 1) (omega (arith, read_falls s i (Read a) e a refl))))
      here (Ended t) e again = rw (row_stops s i (Ended t) e t refl, list_stops s i (Ended t) e t refl) none

  pub along : (i : ℕ) → P (items (attributes s i)) (listed s i)
  along i = along_to (suc (length s - i)) i (omega arith)

-- ---- a test of the list is the same test of the positions
module _ (s : List ℕ) (p : Attribute → Bool) (q : ℕ → List ℕ → Bool) (same : (a : Attribute) → Here s a → p a ≡ q a.at (items (attributes s (a.value_end + 1)))) where
  pub any_is : (i : ℕ) → list_any p (listed s i) ≡ some_attribute q (items (attributes s i))
  unfolding some_attribute
  any_is = along s (λ bs l. list_any p l ≡ some_attribute q bs) none_is some_is
    where
      none_is : list_any p [] ≡ some_attribute q []
      none_is = refl

      some_is : (a : Attribute) → Here s a → list_any p (listed s (a.value_end + 1)) ≡ some_attribute q (items (attributes s (a.value_end + 1))) → list_any p (a ∷ listed s (a.value_end + 1)) ≡ some_attribute q (a.at ∷ items (attributes s (a.value_end + 1)))
      some_is a h e = or_same (p a) (q a.at (items (attributes s (a.value_end + 1)))) (list_any p (listed s (a.value_end + 1))) (some_attribute q (items (attributes s (a.value_end + 1)))) (same a h) e

-- there are as many attributes as positions
pub length_is : (s : List ℕ) (i : ℕ) → length (listed s i) ≡ length (items (attributes s i))
length_is s = along s (λ bs l. length l ≡ length bs) refl (λ a h e. ap suc e)

-- each of them stands at its place
pub here_at : (s : List ℕ) (i k : ℕ) → k < length (listed s i) → (d : Attribute) → Here s (get_or (listed s i) k d)
here_at s = along s (λ bs l. (k : ℕ) → k < length l → (d : Attribute) → Here s (get_or l k d)) (λ k h d. absurd (omega arith)) (λ a h e. more a (listed s (a.value_end + 1)) h e)
  where
    more : (a : Attribute) (l : List Attribute) → Here s a → ((k : ℕ) → k < length l → (d : Attribute) → Here s (get_or l k d)) → (k : ℕ) → k < length (a ∷ l) → (d : Attribute) → Here s (get_or (a ∷ l) k d)
    more a l h e zero g d = h
    more a l h e (suc k) g d = e k (omega arith) d

-- ---- an iterator t: what `any` asks of a closure that leaves what it captures, and what it answers
yields : (t : Attributes) → YieldsList (YieldsFirst left) (λ x. x) t (listed t.s.now t.at)
yields t = YieldsList-from_first (λ x. x) left (listed t.s.now t.at) refl

module _ (t : Attributes) {F : Type 0} {g : Mut F (Attribute × Unit {0}) Bool} {f : F} where
  -- it is called at attributes that stand at their places
  pub any_calls : ((x : Attribute) (q : F) → Called g f (x, tt) false q → q ≡ f) → ((x : Attribute) → Here t.s.now x → Takes g f (x, tt)) → CallableWhile (YieldsFirst left) g false t f
  any_calls stays takes =
      serves_from_places (yields t) stays (λ x k h e. takes x (subst (Here t.s.now) (sym e) (here_at t.s.now t.at k h x)))

  pub any_answers : (u : Attributes) {r : Bool} (p : Attribute → Bool) (q : ℕ → List ℕ → Bool) → ChecksAny (YieldsFirst left) g t f r u → ((x : Attribute) (b : Bool) (v : F) → Called g f (x, tt) b v → (v ≡ f) × (b ≡ p x)) → ((a : Attribute) → Here t.s.now a → p a ≡ q a.at (items (attributes t.s.now (a.value_end + 1)))) → r ≡ some_attribute q (items (attributes t.s.now t.at))
  any_answers u {r} p q ran closure same = any_from_yields_List p u f r ran (yields t) closure ∙ any_is t.s.now p q same t.at

-- ---- a loop over the iterator: where the list begins with an attribute, that is the next part, and behind it the list goes on
pub turn : (s : List ℕ) (i : ℕ) (a : Attribute) (l : List Attribute) → listed s i ≡ a ∷ l → (Read a ≡ part_at s i) × (l ≡ listed s (a.value_end + 1))
turn s i a l q = here (part_at s i) refl
  where
    here : (x : TagPart) → x ≡ part_at s i → (Read a ≡ part_at s i) × (l ≡ listed s (a.value_end + 1))
    here (Read b) e = same (sym (list_goes s i (Read b) e b refl) ∙ q)
      where
        same : b ∷ listed s (b.value_end + 1) ≡ a ∷ l → (Read a ≡ part_at s i) × (l ≡ listed s (a.value_end + 1))
        same w =
            let f : b ≡ a = cc in
            let g : listed s (b.value_end + 1) ≡ l = cc in
            (ap Read (sym f) ∙ e, sym g ∙ ap (λ c. listed s (c.value_end + 1)) f)
    here (Ended t) e =
        let w : length (a ∷ l) ≡ 0 = ap length (sym q ∙ list_stops s i (Ended t) e t refl) in
        absurd (omega arith)

pub none_left : (s : List ℕ) (i : ℕ) → listed s i ≡ [] → items (attributes s i) ≡ []
none_left s = along s (λ bs l. l ≡ [] → bs ≡ []) (λ e. refl) (λ a h e f. absurd (let w : length (a ∷ listed s (a.value_end + 1)) ≡ 0 = ap length f in omega arith))

got : {A : Type 0} (l : List A) (n : ℕ) → is_some (slice_get l n) ≡ ltb n (length l)
got [] n = sym (le-ltb n 0 (omega arith))
got (x ∷ xs) zero = sym (lt-ltb 0 (suc (length xs)) (omega arith))
got (x ∷ xs) (suc n) = got xs n ∙ inside (length xs) n (λ h. rw (lt-ltb n (length xs) h, lt-ltb (suc n) (suc (length xs)) (omega arith))) (λ h. rw (le-ltb n (length xs) h, le-ltb (suc n) (suc (length xs)) (omega arith)))

same_item : {A : Type 0} (r : Option A) → r ≡ option_map (λ x. x) r
same_item None = refl
same_item (Some x) = refl

-- whether it has one behind the first n
pub nth_answers : (t u : Attributes) (r : Option Attribute) (n : ℕ) → SkipsThenYields (YieldsFirst left) t n r u → is_some r ≡ ltb n (length (items (attributes t.s.now t.at)))
nth_answers t u r n ran =
    ap is_some (same_item r)
    ∙ ap is_some (nth_from_yields_List r u n ran (yields t))
    ∙ got (listed t.s.now t.at) n
    ∙ ap (ltb n) (length_is t.s.now t.at)

-- ---- the same of `find`
module _ (t : Attributes) {F : Type 0} {g : Mut F (Bor Attribute × Unit {0}) Bool} {f : F} where
  pub find_calls : ((x : Attribute) (q : F) → CalledAt g f x false q → q ≡ f) → ((x : Attribute) → Here t.s.now x → TakesAt g f x) → CallableWhileAt (YieldsFirst left) g false t f
  find_calls stays takes =
      serves_from_places (yields t) stays (λ x k h e. takes x (subst (Here t.s.now) (sym e) (here_at t.s.now t.at k h x)))

  pub find_answers : (u : Attributes) {r : Option Attribute} (p : Attribute → Bool) → FindsItem (YieldsFirst left) g t f r u → ((x : Attribute) (b : Bool) (v : F) → CalledAt g f x b v → (v ≡ f) × (b ≡ p x)) → r ≡ find p (listed t.s.now t.at)
  find_answers u {r} p ran closure = same_item r ∙ find_from_yields_List p u f r ran (yields t) closure

-- what is found stands at its place
pub found_here : (s : List ℕ) (p : Attribute → Bool) (i : ℕ) (a : Attribute) → find p (listed s i) ≡ Some a → Here s a
found_here s p = along s (λ bs l. (a : Attribute) → find p l ≡ Some a → Here s a) (λ a e. never (sym (ap is_some e))) (λ b h e a q. more b (listed s (b.value_end + 1)) a h (e a) (p b) q)
  where
    more : (b : Attribute) (l : List Attribute) (a : Attribute) → Here s b → (find p l ≡ Some a → Here s a) → (t : Bool) → cond t (Some b) (find p l) ≡ Some a → Here s a
    more b l a h e true q = let w : b ≡ a = cc in subst (Here s) w h
    more b l a h e false q = e q
