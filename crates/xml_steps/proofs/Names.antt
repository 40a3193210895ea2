-- The comparison of two names, byte by byte.
-- Assumes nothing.
use mathlib.Core.Path.{◌≡◌, refl, sym, ◌∙◌, ap}
use mathlib.Core.Bool.{Bool, true, false}
use mathlib.Core.List.{List, [], ◌∷◌}
use Prim.Native.Nat.{ℕ, suc, ◌+◌, ◌-◌, ◌<◌, ◌≤◌, ◌^◌}
use native.Mathlib.Omega.{arith}
use borrow.Author.Tests.{eq-eqb, ne_eqb}
use lib.ListN.{length, get_or, drop_of_length-le, get_or-eq_default}
use lib.Seq.{take-nil}
use mir.Val.{Fits}
use mir.Syntax.{w64}
use Rattle.text_scan.specs.Choice.{◌and◌, not}
use Rattle.text_scan.specs.Lists.{pairs, run_end, run_from}
use Rattle.text_scan.proofs.Lists.{run_least}
use Rattle.text_scan.proofs.Within.{drop_here, inside, holds_there}
use Rattle.text_facts.specs.Strings.{equal}
use Rattle.text_facts.proofs.StringLaws.{equal_is}
use Rattle.xml_names.specs.Names.{is_name_start, is_name_char, name_end, name_at}
use Rattle.xml_steps.specs.Walked.{name_bytes}

-- ---- past the end no name starts or goes on
module _ (s : List ℕ) (k : ℕ) (h : length s ≤ k) where
  pub none_starts : false ≡ is_name_start (get_or s k 0)
  none_starts = rw (get_or-eq_default s 0 h)

  pub none_goes_on : true ≡ not (is_name_char (get_or s k 0))
  none_goes_on = rw (get_or-eq_default s 0 h)

-- at two places
pub over_both : (x y : ℕ) (t r : Bool) → t ≡ not (is_name_char x) → t ≡ true → r ≡ not (is_name_char y) → r ≡ not (is_name_char x) and not (is_name_char y)
over_both x y t r e f g = g ∙ rw (← e, f)

pub over_not : (x y : ℕ) (t : Bool) → t ≡ not (is_name_char x) → t ≡ false → false ≡ not (is_name_char x) and not (is_name_char y)
over_not x y t e f = rw (← e, f)

pub goes_on_not : (x : ℕ) (t : Bool) → t ≡ is_name_char x → not t ≡ not (is_name_char x)
goes_on_not x t e = rw e

-- ---- the bytes of a name, by the first of them
module _ (s : List ℕ) (i : ℕ) where
  bytes_past : length s ≤ i → name_bytes s i ≡ []
  unfolding name_bytes
  bytes_past h = rw (drop_of_length-le s h) (take-nil (run_end is_name_char i [] - i))

  bytes_go : i < length s → is_name_char (get_or s i 0) ≡ true → name_bytes s i ≡ get_or s i 0 ∷ name_bytes s (i + 1)
  unfolding name_bytes run_end
  bytes_go h e =
      let f : run_from is_name_char s i ≡ run_from is_name_char s (i + 1) = rw (drop_here s i h, e) in
      let g : run_from is_name_char s (i + 1) - i ≡ suc (run_from is_name_char s (i + 1) - (i + 1)) = omega (arith, run_least is_name_char s (i + 1)) in
      rw (f, g, drop_here s i h)

  bytes_over : is_name_char (get_or s i 0) ≡ false → name_bytes s i ≡ []
  unfolding name_bytes run_end
  bytes_over e = inside (length s) i
      (λ h.
      let f : run_from is_name_char s i ≡ i = rw (drop_here s i h, e) in
      let g : i - i ≡ 0 = omega arith in
      rw (f, g))
      bytes_past

-- ---- the loop
-- what is left to compare, at positions a and b
abbrev pub Left : List ℕ → ℕ → ℕ → ℕ → ℕ → Type 0
Left s i j a b = equal (name_bytes s i) (name_bytes s j) ≡ equal (name_bytes s a) (name_bytes s b)

-- the place that is read first stands before the other
pub before_within : (s : List ℕ) (a b : ℕ) → b < length s → a ≤ b → a < length s
before_within s a b h g = omega arith

pub before_fits : (s : List ℕ) (a b : ℕ) → b < length s → a ≤ b → length s < 2 ^ 64 → Fits w64 (a + 1)
before_fits s a b h g l = omega arith

module _ (s : List ℕ) (i j a b : ℕ) (l : Left s i j a b) where
  -- the second name is over: it is the same where the first is over too
  pub second_past : length s ≤ b → (r : Bool) → r ≡ not (is_name_char (get_or s a 0)) → r ≡ equal (name_bytes s i) (name_bytes s j)
  unfolding equal pairs
  second_past h r f = f ∙ sym (l ∙ rw (bytes_past s b h) (go (is_name_char (get_or s a 0)) refl))
    where
      go : (t : Bool) → is_name_char (get_or s a 0) ≡ t → equal (name_bytes s a) [] ≡ not t
      go true q = rw (bytes_go s a (holds_there is_name_char refl s a q) q)
      go false q = rw (bytes_over s a q)

  -- the bytes differ: both names are over, or they are not the same
  pub bytes_differ : (get_or s a 0 ≡ get_or s b 0 → ⊥) → (r : Bool) → r ≡ not (is_name_char (get_or s a 0)) and not (is_name_char (get_or s b 0)) → r ≡ equal (name_bytes s i) (name_bytes s j)
  unfolding equal pairs
  bytes_differ d r f = f ∙ sym (l ∙ go (is_name_char (get_or s a 0)) (is_name_char (get_or s b 0)) refl refl)
    where
      go : (t u : Bool) → is_name_char (get_or s a 0) ≡ t → is_name_char (get_or s b 0) ≡ u → equal (name_bytes s a) (name_bytes s b) ≡ not t and not u
      go true true q p =
          rw (bytes_go s a (holds_there is_name_char refl s a q) q, bytes_go s b (holds_there is_name_char refl s b p) p, ne_eqb (get_or s a 0) (get_or s b 0) d)
      go true false q p = rw (bytes_go s a (holds_there is_name_char refl s a q) q, bytes_over s b p)
      go false true q p = rw (bytes_over s a q, bytes_go s b (holds_there is_name_char refl s b p) p)
      go false false q p = rw (bytes_over s a q, bytes_over s b p)

  module _ (d : get_or s a 0 ≡ get_or s b 0) (t : Bool) (e : t ≡ is_name_char (get_or s b 0)) where
    pub bytes_same : t ≡ true → Left s i j (a + 1) (b + 1)
    unfolding equal pairs
    bytes_same f =
        let p : is_name_char (get_or s b 0) ≡ true = sym e ∙ f in
        let q : is_name_char (get_or s a 0) ≡ true = ap is_name_char d ∙ p in
        l ∙ rw (bytes_go s a (holds_there is_name_char refl s a q) q, bytes_go s b (holds_there is_name_char refl s b p) p, eq-eqb (get_or s a 0) (get_or s b 0) d)

    pub bytes_end : t ≡ false → true ≡ equal (name_bytes s i) (name_bytes s j)
    unfolding equal pairs
    bytes_end f =
        let p : is_name_char (get_or s b 0) ≡ false = sym e ∙ f in
        sym (l ∙ rw (bytes_over s a (ap is_name_char d ∙ p), bytes_over s b p))

-- ---- where no name starts
start_goes_on : (x : ℕ) → is_name_start x ≡ true → is_name_char x ≡ true
start_goes_on x e = rw e

-- the first of the bytes starts a name where the byte at the position does
first_starts : (s : List ℕ) (k : ℕ) → is_name_start (get_or (name_bytes s k) 0 0) ≡ is_name_start (get_or s k 0)
first_starts s k = go (is_name_char (get_or s k 0)) refl
  where
    go : (t : Bool) → is_name_char (get_or s k 0) ≡ t → is_name_start (get_or (name_bytes s k) 0 0) ≡ is_name_start (get_or s k 0)
    go true q = rw (bytes_go s k (holds_there is_name_char refl s k q) q)
    go false q = rw (bytes_over s k q) (none (is_name_start (get_or s k 0)) refl)
      where
        none : (t : Bool) → is_name_start (get_or s k 0) ≡ t → false ≡ t
        none true r = sym q ∙ start_goes_on (get_or s k 0) r
        none false r = refl

module _ (s : List ℕ) (k : ℕ) where
  name_none : is_name_start (get_or s k 0) ≡ false → name_at s k ≡ []
  unfolding name_end
  name_none e =
      let g : k - k ≡ 0 = omega arith in
      rw (e, g)

  name_some : is_name_start (get_or s k 0) ≡ true → name_at s k ≡ name_bytes s k
  unfolding name_end name_bytes
  name_some e = rw e

  name_begins : is_name_start (get_or s k 0) ≡ true → name_bytes s k ≡ get_or s k 0 ∷ name_bytes s (k + 1)
  name_begins e =
      let q : is_name_char (get_or s k 0) ≡ true = start_goes_on (get_or s k 0) e in
      bytes_go s k (holds_there is_name_char refl s k q) q

module _ (s : List ℕ) (i j : ℕ) where
  -- a name's bytes differ from those at a place where no name starts
  apart : is_name_start (get_or s i 0) ≡ true → is_name_start (get_or s j 0) ≡ false → (t : Bool) → equal (name_bytes s i) (name_bytes s j) ≡ t → t ≡ false
  apart e f true q =
      let w : name_bytes s i ≡ name_bytes s j = equal_is (name_bytes s i) (name_bytes s j) q in
      sym e ∙ sym (first_starts s i) ∙ ap (λ (x : List ℕ). is_name_start (get_or x 0 0)) w ∙ first_starts s j ∙ f
  apart e f false q = refl

  module _ (t : Bool) (e : t ≡ is_name_start (get_or s i 0)) where
    pub from_start : (r : Bool) → t ≡ true → r ≡ equal (name_bytes s i) (name_bytes s j) → r ≡ equal (name_at s i) (name_at s j)
    unfolding equal pairs
    from_start r f g = go (is_name_start (get_or s j 0)) refl
      where
        go : (u : Bool) → is_name_start (get_or s j 0) ≡ u → r ≡ equal (name_at s i) (name_at s j)
        go true q = rw (name_some s i (sym e ∙ f), name_some s j q) g
        go false q =
            g ∙ apart (sym e ∙ f) q (equal (name_bytes s i) (name_bytes s j)) refl
            ∙ rw (name_some s i (sym e ∙ f), name_none s j q, name_begins s i (sym e ∙ f))

    pub from_none : (u : Bool) → t ≡ false → u ≡ is_name_start (get_or s j 0) → not u ≡ equal (name_at s i) (name_at s j)
    unfolding equal pairs
    from_none u f g = rw (name_none s i (sym e ∙ f)) (go u g)
      where
        go : (u : Bool) → u ≡ is_name_start (get_or s j 0) → not u ≡ equal [] (name_at s j)
        go true q = rw (name_some s j (sym q), name_begins s j (sym q))
        go false q = rw (name_none s j (sym q))
