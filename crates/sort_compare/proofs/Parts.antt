-- A part of bytes by its units: the byte that stands there and one more, or 0 at its end. A field and a value compare as the first units that differ.
-- Assumes nothing.
use mathlib.Core.Path.{◌≡◌, refl, sym, ◌∙◌, ap}
use mathlib.Core.Bool.{Bool, true, false}
use mathlib.Core.List.{List, [], ◌∷◌}
use Prim.Native.Nat.{ℕ, zero, suc, ◌+◌, ◌-◌, ◌<◌, ◌≤◌, min, max}
use native.Mathlib.Omega.{arith}
use borrow.Author.Tests.{eq-eqb, ne_eqb, lt-ltb, le-ltb, eqb-true, ltb-true}
use lib.Dec.{eqb, ltb}
use lib.ListN.{length, take, drop, get_or, drop_of_length-le, length-drop, get_or-eq_default}
use lib.Seq.{take_all}
use Rattle.text_scan.specs.Choice.{pick, ◌and◌}
use Rattle.text_scan.specs.Bytes.{lower}
use Rattle.text_scan.proofs.Tests.{not_passed, and_left, and_right, and_false}
use Rattle.text_scan.proofs.Within.{inside, drop_here}
use Rattle.table_lines.specs.Lines.{is_tab, front}
use Rattle.table_lines.specs.Blocks.{plain_end}
use Rattle.table_lines.proofs.Blocks.{along}
use Rattle.std.specs.declared.cmp.Ordering.{Ordering}
use Rattle.std.specs.declared.cmp.Ordering.TheVariants.{Less, Equal, Greater}
use Rattle.sort_compare.specs.Order.{order}
use Rattle.sort_compare.specs.Fields.{ends, front_field, shown, next_place}
use Rattle.sort_compare.specs.Units.{alike_from, unit_of}
use Rattle.std.specs.Ordering.{nat_cmp}
use Rattle.sort_compare.proofs.Ordering.{by_less, by_more, by_rest, told}

-- ---- what follows a place
pub rest_from : (s : List ℕ) (i m : ℕ) → m ≡ min i (length s) → take (length s - m) (drop m s) ≡ drop i s
rest_from s i m e = inside (length s) i (λ h. at (omega arith)) (λ h. past h (omega arith))
  where
    at : m ≡ i → take (length s - m) (drop m s) ≡ drop i s
    at f = rw f (take_all (length s - i) (drop i s) (omega (arith, length-drop i s)))

    past : length s ≤ i → m ≡ length s → take (length s - m) (drop m s) ≡ drop i s
    past h f =
        let z : length s - length s ≡ 0 = omega arith in
        rw (f, z, drop_of_length-le s h)

-- ---- where a part ends
pub ends_tab : (cut : Bool) (b : ℕ) → cut ≡ true → b ≡ 9 → true ≡ ends cut b
ends_tab cut b e f = rw (e, f)

pub no_end : (cut : Bool) (b : ℕ) → (b ≡ 9 → ⊥) → (b ≡ 10 → ⊥) → ends cut b ≡ false
no_end cut b e f = rw (ne_eqb b 9 e, ne_eqb b 10 f) (and_false cut)

-- ---- the units of a part
abbrev pub shown_byte : Bool → ℕ → ℕ
shown_byte true b = lower b
shown_byte false b = b

pub shown_nil : (any : Bool) → shown any [] ≡ []
unfolding shown
shown_nil true = refl
shown_nil false = refl

pub shown_cons : (any : Bool) (b : ℕ) (bs : List ℕ) → shown any (b ∷ bs) ≡ shown_byte any b ∷ shown any bs
unfolding shown
shown_cons true b bs = refl
shown_cons false b bs = refl

shown_none : (any : Bool) (bs : List ℕ) → unit_of (shown any bs) ≡ 0 → bs ≡ []
shown_none any [] e = refl
shown_none any (b ∷ bs) e = absurd (let f = rw (shown_cons any b bs) at e in omega arith)

pub unit_any : (any : Bool) (b x y r : ℕ) → any ≡ true → x ≡ lower b → y ≡ x → r ≡ y → r + 1 ≡ unit_of (shown any (b ∷ []))
unfolding shown
unit_any any b x y r e f g h = rw (e, ← f) (omega arith)

pub unit_exact : (any : Bool) (b : ℕ) → any ≡ false → b + 1 ≡ unit_of (shown any (b ∷ []))
unfolding shown
unit_exact any b e = rw e (omega arith)

pub unit_plain : (any : Bool) (b y r : ℕ) → any ≡ false → y ≡ b → r ≡ y → r + 1 ≡ unit_of (shown any (b ∷ []))
unit_plain any b y r e f g = rw (g ∙ f) (unit_exact any b e)

module _ (cut : Bool) (t : List ℕ) (k : ℕ) where
  part_past : length t ≤ k → front_field cut (drop k t) ≡ []
  unfolding front_field front
  part_past h = rw (drop_of_length-le t h)

  part_ends : k < length t → ends cut (get_or t k 0) ≡ true → front_field cut (drop k t) ≡ []
  unfolding front_field front
  part_ends h e = rw (drop_here t k h, e)

  pub part_goes : k < length t → ends cut (get_or t k 0) ≡ false → front_field cut (drop k t) ≡ get_or t k 0 ∷ front_field cut (drop (k + 1) t)
  unfolding front_field front
  part_goes h e = rw (drop_here t k h, e)

  module _ (any : Bool) where
    pub unit_past : length t ≤ k → 0 ≡ unit_of (shown any (front_field cut (drop k t)))
    unit_past h = sym (rw (part_past h, shown_nil any))

    module _ (h : k < length t) (u : Bool) (eu : u ≡ ends cut (get_or t k 0)) where
      pub unit_end : u ≡ true → 0 ≡ unit_of (shown any (front_field cut (drop k t)))
      unit_end f = sym (rw (part_ends h (sym eu ∙ f), shown_nil any))

      pub unit_here : u ≡ false → (r : ℕ) → r ≡ unit_of (shown any (get_or t k 0 ∷ [])) → r ≡ unit_of (shown any (front_field cut (drop k t)))
      unit_here f r e =
          e ∙ rw (part_goes h (sym eu ∙ f), shown_cons any (get_or t k 0) [], shown_cons any (get_or t k 0) (front_field cut (drop (k + 1) t)))

    -- where the unit is not 0 the part goes on, and where it is 0 the part ends
    module _ (u : ℕ) (eu : u ≡ unit_of (shown any (front_field cut (drop k t)))) where
      pub unit_inside : (u ≡ 0 → ⊥) → k < length t
      unit_inside z = inside (length t) k (λ h. h) (λ h. absurd (z (eu ∙ sym (unit_past h))))

      pub unit_goes : (u ≡ 0 → ⊥) → ends cut (get_or t k 0) ≡ false
      unit_goes z = not_passed (ends cut (get_or t k 0)) (λ e. z (eu ∙ sym (unit_end (unit_inside z) true (sym e) refl)))

      -- it is that of the byte
      pub unit_is : (u ≡ 0 → ⊥) → u ≡ suc (shown_byte any (get_or t k 0))
      unit_is z = eu ∙ rw (part_goes (unit_inside z) (unit_goes z), shown_cons any (get_or t k 0) (front_field cut (drop (k + 1) t)))

      pub unit_none : u ≡ 0 → front_field cut (drop k t) ≡ []
      unit_none z = shown_none any (front_field cut (drop k t)) (sym eu ∙ z)

-- ---- the walk to the end of a field: as far from here as from the start
abbrev pub Ending : List ℕ → ℕ → ℕ → Type 0
Ending s at i = at + length (front_field true (drop at s)) ≡ i + length (front_field true (drop i s))

module _ (s : List ℕ) (at i : ℕ) (l : Ending s at i) where
  end_past : length s ≤ i → i ≡ at + length (front_field true (drop at s))
  end_past h = omega (arith, l, ap length (part_past true s i h))

  pub end_most : (from m : ℕ) → m ≡ max from (length s) → length s ≤ i → from ≤ i → i ≤ max from (length s) → m ≡ at + length (front_field true (drop at s))
  end_most from m e h g f =
      let p : m ≡ i = omega arith in
      rw p (end_past h)

  module _ (h : i < length s) (u : Bool) (eu : u ≡ ends true (get_or s i 0)) where
    pub end_here : u ≡ true → i ≡ at + length (front_field true (drop at s))
    end_here f = omega (arith, l, ap length (part_ends true s i h (sym eu ∙ f)))

    pub end_goes : u ≡ false → Ending s at (i + 1)
    end_goes f = omega (arith, l, ap length (part_goes true s i h (sym eu ∙ f)))

pub end_plain : (s : List ℕ) (at e : ℕ) → e ≡ plain_end s at → Ending s at e
end_plain s at e q =
    rw q
    (along (ltb 13) s (λ k. Ending s at k)
    (λ k h t l. end_goes s at k l h false (sym (no_end true (get_or s k 0) (λ p. absurd (omega (arith, ltb-true 13 (get_or s k 0) t))) (λ p. absurd (omega (arith, ltb-true 13 (get_or s k 0) t))))) refl)
    at refl)

-- ---- the place behind it
module _ (s : List ℕ) (i : ℕ) where
  pub next_tab : get_or s i 0 ≡ 9 → i + 1 ≡ next_place s i
  unfolding next_place
  next_tab e = rw e

  pub next_other : (get_or s i 0 ≡ 9 → ⊥) → i ≡ next_place s i
  unfolding next_place
  next_other e = rw (ne_eqb (get_or s i 0) 9 e)

  pub next_past : length s ≤ i → i ≡ next_place s i
  unfolding next_place
  next_past h = rw (get_or-eq_default s 0 h)

pub next_least : (s : List ℕ) (i r : ℕ) → r ≡ next_place s i → i ≤ r
unfolding next_place
next_least s i r e = go (is_tab (get_or s i 0)) e
  where
    go : (t : Bool) → r ≡ pick t (i + 1) i → i ≤ r
    go true f = omega arith
    go false f = omega arith

-- ---- the same bytes in front of two strings: as many from the start as k and those from place k on
abbrev pub Alike : List ℕ → List ℕ → ℕ → Type 0
Alike x y k = alike_from x y ≡ k + alike_from (drop k x) (drop k y)

module _ (x y : List ℕ) (k : ℕ) (l : Alike x y k) where
  over : alike_from (drop k x) (drop k y) ≡ 0 → k ≡ alike_from x y
  over e = omega arith

  pub alike_past : length x ≤ k → k ≡ alike_from x y
  alike_past h = over (unfold alike_from in rw (drop_of_length-le x h))

  module _ (h : k < length x) where
    pub alike_none : length y ≤ k → k ≡ alike_from x y
    alike_none g = over (unfold alike_from in rw (drop_here x k h, drop_of_length-le y g))

    module _ (g : k < length y) where
      pub alike_other : (get_or x k 0 ≡ get_or y k 0 → ⊥) → k ≡ alike_from x y
      alike_other e = over (unfold alike_from in rw (drop_here x k h, drop_here y k g, ne_eqb (get_or x k 0) (get_or y k 0) e))

      module _ (e : get_or x k 0 ≡ get_or y k 0) where
        pub alike_low : get_or x k 0 ≤ 13 → k ≡ alike_from x y
        alike_low f = over (unfold alike_from in rw (drop_here x k h, drop_here y k g, eq-eqb (get_or x k 0) (get_or y k 0) e, le-ltb 13 (get_or x k 0) f))

        pub alike_goes : 13 < get_or x k 0 → Alike x y (k + 1)
        alike_goes f = omega (arith, l, one)
          where
            one : alike_from (drop k x) (drop k y) ≡ suc (alike_from (drop (k + 1) x) (drop (k + 1) y))
            one = unfold alike_from in rw (drop_here x k h, drop_here y k g, eq-eqb (get_or x k 0) (get_or y k 0) e, lt-ltb 13 (get_or x k 0) f)

pub alike_ends : (x y : List ℕ) (k n : ℕ) → n ≡ min (length x) (length y) → Alike x y k → n ≤ k → k ≤ n → n ≡ alike_from x y
alike_ends x y k n e l h g =
    let f : n ≡ k = omega arith in
    rw f (inside (length x) k (λ p. alike_none x y k l p (omega arith)) (λ p. alike_past x y k l p))

-- each of them
alike_at : (x y : List ℕ) (k : ℕ) → k < alike_from x y → (get_or x k 0 ≡ get_or y k 0) × (13 < get_or x k 0)
unfolding alike_from
alike_at [] y k h = absurd (omega arith)
alike_at (b ∷ x) [] k h = absurd (omega arith)
alike_at (b ∷ x) (c ∷ y) k h = go (eqb b c and ltb 13 b) refl k h (alike_at x y)
  where
    go : (t : Bool) → eqb b c and ltb 13 b ≡ t → (n : ℕ) → n < pick t (suc (alike_from x y)) 0 → ((m : ℕ) → m < alike_from x y → (get_or x m 0 ≡ get_or y m 0) × (13 < get_or x m 0))
        → (get_or (b ∷ x) n 0 ≡ get_or (c ∷ y) n 0) × (13 < get_or (b ∷ x) n 0)
    go false q n g f = absurd (omega arith)
    go true q zero g f = (eqb-true b c (and_left (eqb b c) (ltb 13 b) q), ltb-true 13 b (and_right (eqb b c) (ltb 13 b) q))
    go true q (suc n) g f = f n (omega arith)

module _ (x y : List ℕ) (k : ℕ) (h : k < alike_from x y) where
  pub same_byte : get_or x k 0 ≡ get_or y k 0
  same_byte = (alike_at x y k h).0

  high : 13 < get_or x k 0
  high = (alike_at x y k h).1

  pub first_inside : k < length x
  first_inside = inside (length x) k (λ g. g) (λ g. absurd (omega (arith, high, get_or-eq_default x 0 g)))

  pub second_inside : k < length y
  second_inside = inside (length y) k (λ g. g) (λ g. absurd (omega (arith, high, same_byte, get_or-eq_default y 0 g)))

  -- no part ends before it
  pub first_on : (cut : Bool) → ends cut (get_or x k 0) ≡ false
  first_on cut = no_end cut (get_or x k 0) (λ e. omega (arith, high)) (λ e. omega (arith, high))

  pub second_on : (cut : Bool) → ends cut (get_or y k 0) ≡ false
  second_on cut = rw (← same_byte) (first_on cut)

-- they all lie within
pub alike_first : (x y : List ℕ) → alike_from x y ≤ length x
alike_first x y = inside (alike_from x y) (length x) (λ h. absurd (omega (arith, first_inside x y (length x) h))) (λ h. h)

-- ---- the order by the units
unit_less : (l m : List ℕ) → unit_of l < unit_of m → order l m ≡ Less
unfolding order
unit_less [] [] h = absurd (omega arith)
unit_less [] (y ∷ ys) h = refl
unit_less (x ∷ xs) [] h = absurd (omega arith)
unit_less (x ∷ xs) (y ∷ ys) h = by_less x y xs ys (omega arith)

unit_more : (l m : List ℕ) → unit_of m < unit_of l → order l m ≡ Greater
unfolding order
unit_more [] [] h = absurd (omega arith)
unit_more [] (y ∷ ys) h = absurd (omega arith)
unit_more (x ∷ xs) [] h = refl
unit_more (x ∷ xs) (y ∷ ys) h = by_more x y xs ys (omega arith)

-- ---- a field against a value: they compare as what is left of them from place k on
whole : (bs : List ℕ) → front_field false bs ≡ bs
unfolding front_field front
whole [] = refl
whole (b ∷ bs) = ap (λ (l : List ℕ). b ∷ l) (whole bs)

unfoldable pub Comparing : List ℕ → List ℕ → Bool → ℕ → Type 0
Comparing x v any k = order (shown any (front_field true x)) (shown any v) ≡ order (shown any (front_field true (drop k x))) (shown any (front_field false (drop k v)))

module _ (x v : List ℕ) (any : Bool) where
  abbrev asked : Ordering
  asked = order (shown any (front_field true x)) (shown any v)

  value_starts : Comparing x v any 0
  unfolding Comparing
  value_starts = sym (rw (whole v))

  module _ (k : ℕ) (l : Comparing x v any k) where
    on : k < length x → k < length v → ends true (get_or x k 0) ≡ false → ends false (get_or v k 0) ≡ false → shown_byte any (get_or x k 0) ≡ shown_byte any (get_or v k 0) → Comparing x v any (k + 1)
    unfolding Comparing
    on h g e f q =
        l
        ∙ rw (part_goes true x k h e, part_goes false v k g f, shown_cons any (get_or x k 0) (front_field true (drop (k + 1) x)), shown_cons any (get_or v k 0) (front_field false (drop (k + 1) v)))
        (by_rest (shown_byte any (get_or x k 0)) (shown_byte any (get_or v k 0)) (shown any (front_field true (drop (k + 1) x))) (shown any (front_field false (drop (k + 1) v))) q)

    pub value_over : k ≤ length x → length x < k → Equal ≡ asked
    value_over h g = absurd (omega arith)

    module _ (u : ℕ) (eu : u ≡ unit_of (shown any (front_field true (drop k x)))) (w : ℕ) (ew : w ≡ unit_of (shown any (front_field false (drop k v)))) where
      value_less : u < w → Less ≡ asked
      unfolding Comparing
      value_less h = sym (l ∙ unit_less (shown any (front_field true (drop k x))) (shown any (front_field false (drop k v))) (rw (← eu, ← ew) h))

      value_more : w < u → Greater ≡ asked
      unfolding Comparing
      value_more h = sym (l ∙ unit_more (shown any (front_field true (drop k x))) (shown any (front_field false (drop k v))) (rw (← eu, ← ew) h))

      pub value_told : (u ≡ w → ⊥) → (r : Ordering) → r ≡ nat_cmp u w → r ≡ asked
      value_told z r e = told u w r asked e value_less (λ h. absurd (z h)) value_more

      module _ (q : u ≡ w) where
        same : w ≡ u
        same = sym q

        ended : u ≡ 0 → Equal ≡ asked
        unfolding Comparing order
        ended z = sym (l ∙ rw (unit_none true x k any u eu z, unit_none false v k any w ew (same ∙ z), shown_nil any))

        pub value_same : u ≡ 0 → (r : Ordering) → r ≡ nat_cmp u w → r ≡ asked
        value_same z r e = told u w r asked e (λ h. absurd (omega arith)) (λ h. ended z) (λ h. absurd (omega arith))

        pub value_inside : (u ≡ 0 → ⊥) → k + 1 ≤ length x
        value_inside z = omega (arith, unit_inside true x k any u eu z)

        pub value_goes : (u ≡ 0 → ⊥) → Comparing x v any (k + 1)
        value_goes z =
            let y : w ≡ 0 → ⊥ = λ e. z (sym same ∙ e) in
            on (unit_inside true x k any u eu z) (unit_inside false v k any w ew y) (unit_goes true x k any u eu z) (unit_goes false v k any w ew y)
            (bytes (sym (unit_is true x k any u eu z) ∙ sym same ∙ unit_is false v k any w ew y))
          where
            bytes : {m n : ℕ} → suc m ≡ suc n → m ≡ n
            bytes q = omega arith

-- the bytes that are the same in front are passed
module _ (x v : List ℕ) (any : Bool) where
  passed : (n : ℕ) → n ≤ alike_from x v → Comparing x v any n
  passed zero h = value_starts x v any
  passed (suc n) h =
      let e : n + 1 ≡ suc n = omega arith in
      let g : n < alike_from x v = omega arith in
      rw e at (on x v any n (passed n (omega arith)) (first_inside x v n g) (second_inside x v n g) (first_on x v n g true) (second_on x v n g false) (ap (shown_byte any) (same_byte x v n g)))

  module _ (k : ℕ) (e : k ≡ alike_from x v) where
    pub value_near : k ≤ length x
    value_near = omega (arith, alike_first x v)

    pub value_alike : Comparing x v any k
    value_alike = passed k (omega arith)
