-- The walk of `first_bad`, by what the loop of `first_bad` knows.
-- Assumes nothing.
use mathlib.Core.Path.{◌≡◌, refl, sym, ◌∙◌, ap}
use mathlib.Core.Bool.{Bool, true, false}
use mathlib.Core.List.{List}
use Prim.Native.Nat.{ℕ, zero, suc, ◌+◌, ◌-◌, ◌<◌, ◌≤◌, ◌^◌}
use native.Mathlib.Omega.{arith}
use borrow.Author.Tests.{lt-leb, le-leb}
use lib.Dec.{leb}
use Rattle.std.specs.Prelude.{Option, None, Some}
use Rattle.std.proofs.lemmas.Option.{none-some}
use mir.Val.{Fits}
use mir.Syntax.{w64}
use lib.ListN.{length, get_or}
use Rattle.text_scan.specs.Choice.{◌and◌, between}
use Rattle.text_scan.specs.Lists.{stands}
use Rattle.text_scan.specs.Walk.{skip}
use Rattle.text_scan.proofs.Tests.{pick_case, and_left, and_right, within}
use Rattle.text_scan.proofs.Within.{holds_there}
use Rattle.text_scan.proofs.Walk as walks
use Rattle.text_chars.specs.Utf8.{is_xml_char, Char, none, char, sound, tail, decode, char_at, width_of, char_step, steps, mark, first_bad}
use Rattle.text_chars.specs.Blocks.{width, plain, plains, bad_from, bad_walked}
use Rattle.text_chars.proofs.Chars.{first}

-- ---- a character that stands at a position ends within the list
there : (s : List ℕ) (k : ℕ) → tail (get_or s k 0) ≡ true → k < length s
unfolding tail
there s k e = holds_there tail refl s k e

module _ (n i : ℕ) where
  abbrev Within : Char → Type 0
  Within x = i + width_of x ≤ n

  sound_fits : (w least c : ℕ) → i + w ≤ n → Within (sound w least c)
  unfolding sound
  sound_fits w least c h = pick_case Within (leb least c and is_xml_char c) (char w c) none (λ _. h) (λ _. omega arith)

pub fits : (s : List ℕ) (i : ℕ) → i < length s → i + width_of (char_at s i) ≤ length s
unfolding char_at decode
fits s i h =
    pick_case (Within (length s) i) (between 0 0x7F a) _ _ (λ _. sound_fits (length s) i 1 0 a (omega arith))
    (λ _. pick_case (Within (length s) i) (between 0xC0 0xDF a and tail b) _ _ (λ e. sound_fits (length s) i 2 0x80 _ (omega (arith, there s (i + 1) (and_right (between 0xC0 0xDF a) _ e))))
    (λ _. pick_case (Within (length s) i) (between 0xE0 0xEF a and tail b and tail c) _ _
    (λ e. sound_fits (length s) i 3 0x800 _ (omega (arith, there s (i + 2) (and_right (tail b) _ (and_right (between 0xE0 0xEF a) _ e)))))
    (λ _. pick_case (Within (length s) i) (between 0xF0 0xF7 a and tail b and tail c and tail d) _ _
    (λ e. sound_fits (length s) i 4 0x10000 _ (omega (arith, there s (i + 3) (and_right (tail c) _ (and_right (tail b) _ (and_right (between 0xF0 0xF7 a) _ e))))))
    (λ _. omega arith))))
  where
    a : ℕ
    a = get_or s i 0

    b : ℕ
    b = get_or s (i + 1) 0

    c : ℕ
    c = get_or s (i + 2) 0

    d : ℕ
    d = get_or s (i + 3) 0

-- ---- what the width of a character tells of the walk's step; no form is of no bytes
abbrev Wide : Char → Type 0
Wide none = Unit {0}
Wide (char w c) = 0 < w

sound_wide : (w least c : ℕ) → 0 < w → Wide (sound w least c)
unfolding sound
sound_wide w least c h = pick_case Wide (leb least c and is_xml_char c) (char w c) none (λ _. h) (λ _. tt)

wide : (s : List ℕ) (i : ℕ) → Wide (char_at s i)
unfolding char_at decode
wide s i =
    pick_case Wide (between 0 0x7F a) _ _ (λ _. sound_wide 1 0 a (omega arith))
    (λ _. pick_case Wide (between 0xC0 0xDF a and tail b) _ _ (λ _. sound_wide 2 0x80 _ (omega arith))
    (λ _. pick_case Wide (between 0xE0 0xEF a and tail b and tail c) _ _ (λ _. sound_wide 3 0x800 _ (omega arith))
    (λ _. pick_case Wide (between 0xF0 0xF7 a and tail b and tail c and tail d) _ _ (λ _. sound_wide 4 0x10000 _ (omega arith)) (λ _. tt))))
  where
    a : ℕ
    a = get_or s i 0

    b : ℕ
    b = get_or s (i + 1) 0

    c : ℕ
    c = get_or s (i + 2) 0

    d : ℕ
    d = get_or s (i + 3) 0

no_width : (x : Char) → None ≡ width x → width_of x ≡ 0
no_width none e = refl
no_width (char w c) e = absurd (none-some w e)

abbrev or_zero : Option ℕ → ℕ
or_zero None = 0
or_zero (Some w) = w

its_width : (x : Char) (w : ℕ) → Some w ≡ width x → Wide x → (w ≡ width_of x) × (0 < w)
its_width none w e h = absurd (none-some w (sym e))
its_width (char v c) w e h = let f : w ≡ v = ap or_zero e in (f, omega arith)

-- ---- the walk, of which x is told
abbrev pub At : List ℕ → ℕ → Type 0
At s i = first_bad s ≡ bad_from s i

module _ (s : List ℕ) where
  pub marked : (t : Bool) → t ≡ stands mark s 0 → t ≡ true → 0 ≡ first_bad s
  unfolding first_bad
  marked t e f = rw (← e, f)

  pub starts : (t : Bool) → t ≡ stands mark s 0 → t ≡ false → At s 0
  unfolding first_bad bad_from
  starts t e f = rw (← e, f)

  alone : (i : ℕ) → plain (get_or s i 0) ≡ true → steps s i ≡ skip 0
  unfolding char_at decode sound plain
  alone i e = rw (and_left (between 0 0x7F (get_or s i 0)) _ e, le-leb 0 (get_or s i 0) (omega arith), and_right (between 0 0x7F (get_or s i 0)) _ e)

  over_plain : (i : ℕ) → i < length s → plain (get_or s i 0) ≡ true → bad_from s i ≡ bad_from s (i + 1)
  unfolding bad_from
  over_plain i h e = walks.further (steps s) (length s) (length s) i h (alone i e)

  over_plains : (i k : ℕ) → i + k ≤ length s → plains s i k ≡ true → bad_from s i ≡ bad_from s (i + k)
  unfolding plains
  over_plains i zero h e =
      let f : i + 0 ≡ i = omega arith in
      rw f refl
  over_plains i (suc k) h e =
      let f : i + k + 1 ≡ i + suc k = omega arith in
      over_plains i k (omega arith) (and_left (plains s i k) _ e)
      ∙ (rw f at (over_plain (i + k) (omega arith) (and_right (plains s i k) _ e)))

module _ (s : List ℕ) (i x : ℕ) where
  pub passes : (k : ℕ) (t : Bool) → t ≡ plains s i k → t ≡ true → x ≡ bad_from s i → i < length s → k ≤ length s - i → x ≡ bad_from s (i + k)
  passes k t e f a h l = a ∙ over_plains s i k (omega arith) (sym e ∙ f)

  pub ends : x ≡ bad_from s i → length s ≤ i → length s ≡ x
  unfolding bad_from
  ends a h = sym (a ∙ walks.ends (steps s) (length s) (length s) i h)

  -- ---- up to a position that is not behind the end
  module _ (end : ℕ) where
    pub ascii : x ≡ bad_from s i → i < end → end ≤ length s → 0x20 ≤ get_or s i 0 → get_or s i 0 < 0x80 → x ≡ bad_from s (i + 1)
    unfolding plain
    ascii a h l lo hi =
        a ∙ over_plain s i (omega arith) (rw (within 0 0x7F (get_or s i 0) (omega arith) (omega arith), ← first (get_or s i 0) lo (omega arith)))

    module _ (w : ℕ) (h : i < end) (l : end ≤ length s) (e : Some w ≡ width (char_at s i)) where
      told : (w ≡ width_of (char_at s i)) × (0 < w)
      told = its_width (char_at s i) w e (wide s i)

      pub goes : x ≡ bad_from s i → x ≡ bad_from s (i + w)
      unfolding bad_from
      goes a =
          let f : i + 1 + (w - 1) ≡ i + w = omega (arith, told.1) in
          let g : suc (w - 1) ≡ w = omega (arith, told.1) in
          a ∙ (rw f at (walks.goes (steps s) (length s) (length s) i (w - 1) (omega (arith, told.0, told.1, fits s i (omega arith))) (ap (char_step i) (sym told.0 ∙ sym g))))

      pub falls : end - (i + w) < end - i
      falls = omega (arith, told.1)

      pub room : length s < 2 ^ 64 → Fits w64 (i + w)
      room m = omega (arith, told.0, fits s i (omega arith))

    pub stops : x ≡ bad_from s i → i < end → end ≤ length s → None ≡ width (char_at s i) → bad_walked s end i ≡ x
    unfolding bad_from
    stops a h l e =
        rw (lt-leb end i h) (sym (a ∙ walks.stops (steps s) (length s) (length s) i i (omega arith) (ap (char_step i) (no_width (char_at s i) e))))

    pub comes : x ≡ bad_from s i → end ≤ i → bad_walked s end i ≡ x
    comes a h = rw (le-leb end i h) (sym a)

    -- ---- where that walk came to r
    pub bad : (r : ℕ) → x ≡ bad_from s i → bad_walked s end r ≡ bad_from s i → r < end → r ≡ x
    bad r a e h = (rw (lt-leb end r h) at e) ∙ sym a

    pub resumes : (r : ℕ) → x ≡ bad_from s i → bad_walked s end r ≡ bad_from s i → end ≤ r → x ≡ bad_from s r
    resumes r a e h = a ∙ sym (rw (le-leb end r h) at e)
