-- Telephone values, by the pieces that the code finds in a row.
-- Assumes nothing.
use mathlib.Core.Path.{◌≡◌, refl, sym, ◌∙◌}
use mathlib.Core.Bool.{Bool, true, false}
use mathlib.Core.List.{List}
use Prim.Native.Nat.{ℕ, ◌+◌, ◌-◌, ◌<◌, ◌≤◌, ◌^◌}
use native.Mathlib.Omega.{arith}
use borrow.Author.Tests.{eq-eqb, ne_eqb, eqb-true, lt-ltb, le-ltb}
use lib.Dec.{eqb, ltb}
use lib.ListN.{length, get_or}
use mir.Val.{Fits}
use mir.Syntax.{w64}
use Rattle.text_scan.specs.Choice.{pick, ◌and◌}
use Rattle.text_scan.specs.Bytes.{text, is_digit}
use Rattle.text_scan.specs.Lists.{stands}
use Rattle.text_scan.specs.Walk.{from}
use Rattle.text_scan.proofs.Tests.{pick_case, and_left}
use Rattle.text_scan.proofs.Within.{there, next_fits}
use Rattle.text_scan.proofs.Lists.{run_most, text_fits}
use Rattle.text_scan.proofs.Walk as walks
use Rattle.text_telephones.specs.Telephones.{digits_end, group_end, group_step, groups_end, ends_at, is_telephone}

-- ---- one group
module _ (s : List ℕ) (i b : ℕ) (e : b ≡ get_or s i 0) where
  pub no_hyphen : (b ≡ 45 → ⊥) → i ≡ group_end s i
  unfolding group_end
  no_hyphen h = rw (← e, ne_eqb b 45 h)

  pub hyphen_fits : b ≡ 45 → length s < 2 ^ 64 → Fits w64 (i + 1)
  hyphen_fits h l = next_fits s i b 45 e h (omega arith) l

  module _ (h : b ≡ 45) (r : ℕ) (q : r ≡ digits_end s (i + 1)) where
    pub hyphen_digits : i + 1 < r → r ≡ group_end s i
    unfolding group_end
    hyphen_digits g = rw (← e, eq-eqb b 45 h, ← q, lt-ltb _ _ g)

    pub hyphen_alone : r ≤ i + 1 → i ≡ group_end s i
    unfolding group_end
    hyphen_alone g = rw (← e, eq-eqb b 45 h, ← q, le-ltb _ _ g)

-- a group ends within
pub group_most : (s : List ℕ) (i : ℕ) → i ≤ length s → group_end s i ≤ length s
unfolding group_end
group_most s i h =
    pick_case (λ (n : ℕ). n ≤ length s) (eqb (get_or s i 0) 45 and ltb (i + 1) (digits_end s (i + 1))) (digits_end s (i + 1)) i
    (λ e. run_most is_digit s (i + 1) (omega (arith, there s i 45 (omega arith) (eqb-true _ 45 (and_left (eqb (get_or s i 0) 45) _ e)))))
    (λ e. h)

-- ---- the groups
abbrev pub Groups : List ℕ → ℕ → ℕ → Type 0
Groups s at i = groups_end s at ≡ from (group_step s) (length s) (length s) i

pub groups_start : (s : List ℕ) (at : ℕ) → Groups s at at
unfolding groups_end
groups_start s at = refl

module _ (s : List ℕ) (at i : ℕ) (l : Groups s at i) where
  pub groups_end_lem : length s ≤ i → length s ≡ groups_end s at
  groups_end_lem h = sym (l ∙ walks.ends (group_step s) (length s) (length s) i h)

  module _ (h : i < length s) (g : ℕ) (e : g ≡ group_end s i) where
    pub groups_stop : g ≤ i → i ≡ groups_end s at
    unfolding group_step
    groups_stop k = sym (l ∙ walks.stops (group_step s) (length s) (length s) i i h (rw (← e, le-ltb i g k)))

    pub groups_go : i < g → Groups s at g
    unfolding group_step
    groups_go k =
        let a : i + 1 + (g - (i + 1)) ≡ g = omega arith in
        l ∙ (rw a at (walks.goes (group_step s) (length s) (length s) i (g - (i + 1)) (omega (arith, group_most s i (omega arith))) (rw (← e, lt-ltb i g k))))

    pub groups_fall : i < g → length s - g < length s - i
    groups_fall k = omega arith

-- ---- the end
module _ (s : List ℕ) (i : ℕ) where
  pub ends_here : i ≡ length s → true ≡ ends_at s i
  unfolding ends_at
  ends_here e = rw (eq-eqb i (length s) e)

  module _ (n : i ≡ length s → ⊥) (t : Bool) (e : t ≡ stands (text ";ext=") s i) where
    pub ends_other : t ≡ false → false ≡ ends_at s i
    unfolding ends_at
    ends_other f = rw (ne_eqb i (length s) n, ← e, f)

    pub extension_fits : t ≡ true → length s < 2 ^ 64 → Fits w64 (i + 5)
    extension_fits f l = omega (arith, text_fits (text ";ext=") s i (omega arith) (sym e ∙ f))

    module _ (f : t ≡ true) (r : ℕ) (q : r ≡ digits_end s (i + 5)) where
      pub extension : i + 5 < r → eqb r (length s) ≡ ends_at s i
      unfolding ends_at
      extension h = rw (ne_eqb i (length s) n, ← e, f, ← q, lt-ltb _ _ h)

      pub extension_empty : r ≤ i + 5 → false ≡ ends_at s i
      unfolding ends_at
      extension_empty h = rw (ne_eqb i (length s) n, ← e, f, ← q, le-ltb _ _ h)

-- ---- the value
module _ (s : List ℕ) (t : Bool) (e : t ≡ stands (text "tel:+") s 0) where
  pub no_tel : t ≡ false → false ≡ is_telephone s
  unfolding is_telephone
  no_tel f = rw (← e, f)

  module _ (f : t ≡ true) (n a b : ℕ) (en : n ≡ digits_end s 5) (ea : a ≡ group_end s n) (eb : b ≡ group_end s a) where
    pub no_number : n ≤ 5 → false ≡ is_telephone s
    unfolding is_telephone
    no_number h = rw (← e, f, ← en, le-ltb 5 n h)

    module _ (h : 5 < n) where
      pub no_first : a ≤ n → false ≡ is_telephone s
      unfolding is_telephone
      no_first g = rw (← e, f, ← en, lt-ltb 5 n h, ← ea, le-ltb n a g)

      module _ (g : n < a) where
        pub no_second : b ≤ a → false ≡ is_telephone s
        unfolding is_telephone
        no_second k = rw (← e, f, ← en, lt-ltb 5 n h, ← ea, lt-ltb n a g, ← eb, le-ltb a b k)

        pub groups : (z : ℕ) (r : Bool) → a < b → z ≡ groups_end s b → r ≡ ends_at s z → r ≡ is_telephone s
        unfolding is_telephone
        groups z r k q x = rw (← e, f, ← en, lt-ltb 5 n h, ← ea, lt-ltb n a g, ← eb, lt-ltb a b k, ← q) x
