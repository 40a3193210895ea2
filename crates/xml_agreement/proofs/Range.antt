-- A range of the document, read as bytes of its own: n bytes from position d on. What ends inside the range is the same in both.
-- Assumes nothing.
use mathlib.Core.Path.{◌≡◌, refl, sym, ◌∙◌, ap}
use mathlib.Core.Bool.{Bool, true, false}
use mathlib.Core.List.{List, [], ◌∷◌}
use Prim.Native.Nat.{ℕ, zero, suc, ◌+◌, ◌-◌, ◌<◌, ◌≤◌}
use native.Mathlib.Omega.{arith}
use borrow.Author.Tests.{eqb-true}
use lib.Dec.{eqb}
use lib.ListN.{length, take, drop, get_or, length-drop}
use lib.Seq.{length-take-le, get_or-take, get_or-drop, take-take, drop-drop}
use Rattle.text_scan.specs.Choice.{pick, ◌and◌}
use Rattle.text_scan.specs.Lists.{begins, stands, run_from}
use Rattle.text_scan.proofs.Tests.{and_false}
use Rattle.text_scan.proofs.Within.{inside}
use Rattle.text_scan.proofs.Lists.{run_goes, run_stops, run_ends, run_least}
use Rattle.xml_references.specs.Decoded.{part}
use Rattle.xml_names.specs.Names.{is_name_start, is_name_char, name_end, name_at, name_is}
use Rattle.xml_names.specs.ElementNames.{is_element_start, is_element_char, element_end}
use Rattle.xml_value_reader.proofs.Shown.{drop_take}

-- ---- a text at the front of bytes of which m are left
pub begins_short : (t xs : List ℕ) (m : ℕ) → length t ≤ m → begins t (take m xs) ≡ begins t xs
unfolding begins
begins_short [] xs m h = refl
begins_short (t ∷ ts) xs zero h = absurd (omega arith)
begins_short (t ∷ ts) [] (suc m) h = refl
begins_short (t ∷ ts) (x ∷ xs) (suc m) h = ap (λ (b : Bool). eqb x t and b) (begins_short ts xs m (omega arith))

pub begins_less : (t xs : List ℕ) (m : ℕ) → begins t xs ≡ false → begins t (take m xs) ≡ false
unfolding begins
begins_less [] xs m e = e
begins_less (t ∷ ts) xs zero e = refl
begins_less (t ∷ ts) [] (suc m) e = refl
begins_less (t ∷ ts) (x ∷ xs) (suc m) e = go (eqb x t) e (begins_less ts xs m)
  where
    go : (b : Bool) → b and begins ts xs ≡ false → (begins ts xs ≡ false → begins ts (take m xs) ≡ false) → b and begins ts (take m xs) ≡ false
    go true q f = f q
    go false q f = refl

module _ (s : List ℕ) (d n : ℕ) (fits : d + n ≤ length s) where
  abbrev pub range : List ℕ
  range = take n (drop d s)

  pub range_length : length range ≡ n
  range_length = length-take-le n (drop d s) (omega (arith, length-drop d s))

  pub byte : (i : ℕ) → i < n → get_or range i 0 ≡ get_or s (d + i) 0
  byte i h = get_or-take n (drop d s) i 0 h ∙ get_or-drop d s i 0

  pub rest : (i : ℕ) → drop i range ≡ take (n - i) (drop (d + i) s)
  rest i = drop_take i n (drop d s) ∙ ap (take (n - i)) (drop-drop i d s)

  pub part_same : (a e : ℕ) → e ≤ n → part s (d + a) (d + e) ≡ part range a e
  part_same a e h =
      let m : d + e - (d + a) ≡ e - a = omega arith in
      rw (m, rest a) (sym (take-take (e - a) (n - a) (drop (d + a) s) (omega arith)))

  pub text_same : (t : List ℕ) (i : ℕ) → i + length t ≤ n → stands t range i ≡ stands t s (d + i)
  text_same t i h = ap (begins t) (rest i) ∙ begins_short t (drop (d + i) s) (n - i) (omega arith)

  pub text_none : (t : List ℕ) (i : ℕ) → stands t s (d + i) ≡ false → stands t range i ≡ false
  text_none t i e = ap (begins t) (rest i) ∙ begins_less t (drop (d + i) s) (n - i) e

  -- ---- runs
  pub run_same : (p : ℕ → Bool) (k i : ℕ) → n - i < k → i ≤ n → run_from p s (d + i) ≤ d + n → run_from p s (d + i) ≡ d + run_from p range i
  run_same p zero i f h g = absurd (omega arith)
  run_same p (suc k) i f h g =
      inside n i (λ l. go l (p (get_or s (d + i) 0)) refl (λ q. run_same p k (i + 1) (omega arith) (omega arith) q))
      (λ l.
      let z : i ≡ run_from p range i = run_ends p range i i refl (omega (arith, range_length)) in
      let y : d + i ≡ d + n = omega arith in
      let low : d + i ≤ run_from p s (d + i) = run_least p s (d + i) in
      let a : run_from p s (d + i) ≡ d + i = omega arith in
      a ∙ ap (λ (j : ℕ). d + j) z)
    where
      go : i < n → (t : Bool) → t ≡ p (get_or s (d + i) 0) → (run_from p s (d + (i + 1)) ≤ d + n → run_from p s (d + (i + 1)) ≡ d + run_from p range (i + 1)) → run_from p s (d + i) ≡ d + run_from p range i
      go l true e next =
          let q : d + i + 1 ≡ d + (i + 1) = omega arith in
          let a : run_from p s (d + i) ≡ run_from p s (d + (i + 1)) = run_goes p s (d + i) (d + i) refl true (omega arith) e refl ∙ ap (run_from p s) q in
          let b : run_from p range i ≡ run_from p range (i + 1) = run_goes p range i i refl true (omega (arith, range_length)) (e ∙ ap p (sym (byte i l))) refl in
          a ∙ next (omega (arith, a)) ∙ ap (λ (j : ℕ). d + j) (sym b)
      go l false e next =
          let b : i ≡ run_from p range i = run_stops p range i i refl false (omega (arith, range_length)) (e ∙ ap p (sym (byte i l))) refl in
          sym (run_stops p s (d + i) (d + i) refl false (omega arith) e refl) ∙ ap (λ (j : ℕ). d + j) b

  pub run_here : (p : ℕ → Bool) (i : ℕ) → i ≤ n → run_from p s (d + i) ≤ d + n → run_from p s (d + i) ≡ d + run_from p range i
  run_here p i = run_same p (suc (n - i)) i (omega arith)

  -- ---- names
  headed : (p : ℕ → Bool) (i : ℕ) → i < n → (t : Bool) → pick t (run_from p s (d + i)) (d + i) ≤ d + n → pick t (run_from p s (d + i)) (d + i) ≡ d + pick t (run_from p range i) i
  headed p i h true g = run_here p i (omega arith) g
  headed p i h false g = refl

  pub name_same : (i : ℕ) → i < n → name_end s (d + i) ≤ d + n → name_end s (d + i) ≡ d + name_end range i
  unfolding name_end
  name_same i h g = rw (byte i h) (headed is_name_char i h (is_name_start (get_or s (d + i) 0)) g)

  pub element_same : (i : ℕ) → i < n → element_end s (d + i) ≤ d + n → element_end s (d + i) ≡ d + element_end range i
  unfolding element_end
  element_same i h g = rw (byte i h) (headed is_element_char i h (is_element_start (get_or s (d + i) 0)) g)

  module _ (i : ℕ) (h : i < n) (g : name_end s (d + i) ≤ d + n) where
    wide : name_end s (d + i) - (d + i) ≡ name_end range i - i
    wide = omega (arith, name_same i h g)

    pub named_same : name_at s (d + i) ≡ name_at range i
    named_same =
        rw (wide, rest i) (sym (take-take (name_end range i - i) (n - i) (drop (d + i) s) (omega (arith, name_same i h g))))

    pub is_same : (t : List ℕ) → name_is t s (d + i) ≡ name_is t range i
    unfolding name_is
    is_same t = rw wide (go (eqb (name_end range i - i) (length t)) refl)
      where
        go : (b : Bool) → eqb (name_end range i - i) (length t) ≡ b → stands t s (d + i) and b ≡ stands t range i and b
        go true e = ap (λ (x : Bool). x and true) (sym (text_same t i (omega (arith, name_same i h g, eqb-true (name_end range i - i) (length t) e))))
        go false e = and_false (stands t s (d + i)) ∙ sym (and_false (stands t range i))
