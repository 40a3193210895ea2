-- What is asked for is compared with a row value by value, each with the field that stands there, as keys compare field by field.
-- Assumes nothing.
use mathlib.Core.Path.{◌≡◌, refl, sym, ◌∙◌, ap}
use mathlib.Core.Bool.{Bool, true, false}
use mathlib.Core.List.{List, [], ◌∷◌}
use Prim.Native.Nat.{ℕ, ◌+◌, ◌<◌, ◌^◌}
use native.Mathlib.Omega.{arith}
use lib.Dec.{eqb}
use lib.ListN.{length, drop, length-drop, length-map}
use mir.Val.{Fits}
use mir.Syntax.{w64}
use Rattle.text_scan.specs.Bytes.{lower}
use Rattle.std.specs.declared.cmp.Ordering.{Ordering}
use Rattle.std.specs.declared.cmp.Ordering.TheVariants.{Less, Equal, Greater}
use Rattle.std.specs.Ordering.{ordering_then}
use Rattle.sort_compare.specs.Order.{order}
use Rattle.sort_compare.specs.Fields.{front_field, after_field, shown, next_place, skip_place, fields_from, coded, row_key}
use Rattle.sort_compare.specs.Keys.{key_at}
use Rattle.sort_compare.proofs.Skipping.{part_most, drop_skip}
use Rattle.sort_compare.proofs.Ordering.{order_same}
use Rattle.sort_compare.proofs.Comparing.{order_coded}
use Rattle.table_index.specs.declared.Lookup.{Lookup}
use Rattle.table_index.specs.Indexed.{by_of, key_from}

pub value_compared : (s : List ℕ) (at : ℕ) (v : List ℕ) (any : Bool) (x : List ℕ) → x ≡ drop at s → (r : Ordering) → r ≡ order (shown any (front_field true x)) (shown any v) → r ≡ order (shown any (front_field true (drop at s))) (shown any v)
value_compared s at v any x e r f = f ∙ rw e

order_last : (f g : List ℕ) → order (coded (f ∷ [])) (coded (g ∷ [])) ≡ order f g
unfolding coded order
order_last f g = order_coded f g [] [] ∙ ends (order f g)
  where
    ends : (o : Ordering) → ordering_then o Equal ≡ o
    ends Less = refl
    ends Equal = refl
    ends Greater = refl

-- ---- a field that is the same as a value has as many bytes
shown_length : (any : Bool) (bs : List ℕ) → length (shown any bs) ≡ length bs
unfolding shown
shown_length true bs = length-map bs lower
shown_length false bs = refl

module _ (s : List ℕ) (at : ℕ) (a : List ℕ) (any : Bool) (o : Ordering) (e : o ≡ order (shown any (front_field true (drop at s))) (shown any a)) (l : o ≡ Equal) where
  as_long : length (front_field true (drop at s)) ≡ length a
  as_long =
      let q : shown any (front_field true (drop at s)) ≡ shown any a = order_same (shown any (front_field true (drop at s))) (shown any a) (sym e ∙ l) in
      sym (shown_length any (front_field true (drop at s))) ∙ ap length q ∙ shown_length any a

  next_is : next_place s (at + length a) ≡ skip_place s at
  next_is = unfold skip_place in rw as_long

  pub end_fits : at < 2 ^ 64 → length s < 2 ^ 64 → Fits w64 (at + length a)
  end_fits h g = omega (arith, as_long, part_most (drop at s), length-drop at s)

-- ---- several fields: by the first, then by the others
module _ (f g : List ℕ) (fs gs : List (List ℕ)) (o : Ordering) (e : o ≡ order f g) where
  first_less : o ≡ Less → Less ≡ order (coded (f ∷ fs)) (coded (g ∷ gs))
  first_less l = sym (order_coded f g fs gs ∙ rw (← e, l))

  first_more : o ≡ Greater → Greater ≡ order (coded (f ∷ fs)) (coded (g ∷ gs))
  first_more l = sym (order_coded f g fs gs ∙ rw (← e, l))

  first_same : o ≡ Equal → order (coded (f ∷ fs)) (coded (g ∷ gs)) ≡ order (coded fs) (coded gs)
  first_same l = order_coded f g fs gs ∙ rw (← e, l)

module _ (s : List ℕ) (at : ℕ) (a b : List ℕ) (folded : ℕ) (o : Ordering) (e : o ≡ order (shown (eqb 2 folded) (front_field true (drop at s))) (shown (eqb 2 folded) a)) where
  abbrev two : List ℕ
  two = coded (shown (eqb 2 folded) a ∷ shown (eqb 1 folded) b ∷ [])

  pub two_less : o ≡ Less → Less ≡ order (row_key 2 folded (drop at s)) two
  unfolding row_key fields_from
  two_less = first_less (shown (eqb 2 folded) (front_field true (drop at s))) (shown (eqb 2 folded) a) (fields_from 1 folded (after_field (drop at s))) (shown (eqb 1 folded) b ∷ []) o e

  pub two_more : o ≡ Greater → Greater ≡ order (row_key 2 folded (drop at s)) two
  unfolding row_key fields_from
  two_more = first_more (shown (eqb 2 folded) (front_field true (drop at s))) (shown (eqb 2 folded) a) (fields_from 1 folded (after_field (drop at s))) (shown (eqb 1 folded) b ∷ []) o e

  pub two_same : o ≡ Equal → (p : ℕ) → p ≡ next_place s (at + length a) → (r : Ordering) → r ≡ order (shown (eqb 1 folded) (front_field true (drop p s))) (shown (eqb 1 folded) b) → r ≡ order (row_key 2 folded (drop at s)) two
  unfolding row_key fields_from
  two_same l p f r g =
      g ∙ rw (f, next_is s at a (eqb 2 folded) o e l, drop_skip s at)
      (sym (order_last (shown (eqb 1 folded) (front_field true (after_field (drop at s)))) (shown (eqb 1 folded) b))
      ∙ sym (first_same (shown (eqb 2 folded) (front_field true (drop at s))) (shown (eqb 2 folded) a) (fields_from 1 folded (after_field (drop at s))) (shown (eqb 1 folded) b ∷ []) o e l))

module _ (s : List ℕ) (at : ℕ) (a b c : List ℕ) (o : Ordering) (e : o ≡ order (shown false (front_field true (drop at s))) (shown false a)) where
  pub code_less : o ≡ Less → Less ≡ order (row_key 3 1 (drop at s)) (key_from Lookup.Code a b c)
  unfolding row_key fields_from key_from shown
  code_less = first_less (front_field true (drop at s)) a (fields_from 2 1 (after_field (drop at s))) (b ∷ shown true c ∷ []) o e

  pub code_more : o ≡ Greater → Greater ≡ order (row_key 3 1 (drop at s)) (key_from Lookup.Code a b c)
  unfolding row_key fields_from key_from shown
  code_more = first_more (front_field true (drop at s)) a (fields_from 2 1 (after_field (drop at s))) (b ∷ shown true c ∷ []) o e

  pub code_same : o ≡ Equal → (p : ℕ) → p ≡ next_place s (at + length a) → (r : Ordering) → r ≡ order (row_key 2 1 (drop p s)) (coded (shown (eqb 2 1) b ∷ shown (eqb 1 1) c ∷ [])) → r ≡ order (row_key 3 1 (drop at s)) (key_from Lookup.Code a b c)
  unfolding row_key fields_from key_from shown
  code_same l p f r g = g ∙ rw (f, next_is s at a false o e l, drop_skip s at) (sym (first_same (front_field true (drop at s)) a (fields_from 2 1 (after_field (drop at s))) (b ∷ shown true c ∷ []) o e l))

-- ---- by the lookup
module _ (q : Lookup) (s : List ℕ) (at : ℕ) (a b c : List ℕ) (r : Ordering) where
  pub asked_code : q ≡ Lookup.Code → r ≡ order (row_key 3 1 (drop at s)) (key_from Lookup.Code a b c) → r ≡ order (key_at (by_of q) s at) (key_from q a b c)
  unfolding by_of
  asked_code e f = rw e f

  pub asked_name : q ≡ Lookup.Name → r ≡ order (row_key 2 0 (drop at s)) (coded (shown (eqb 2 0) a ∷ shown (eqb 1 0) b ∷ [])) → r ≡ order (key_at (by_of q) s at) (key_from q a b c)
  unfolding by_of key_from shown
  asked_name e f = rw e f

  pub asked_key : q ≡ Lookup.KeyElsewhere → r ≡ order (shown false (front_field true (drop at s))) (shown false b) → r ≡ order (key_at (by_of q) s at) (key_from q a b c)
  unfolding by_of key_from row_key fields_from shown
  asked_key e f = rw e (f ∙ sym (order_last (front_field true (drop at s)) b))
