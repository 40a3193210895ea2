-- The bytes of a code point: at most four, and they decode to it.
-- Assumes nothing.
use mathlib.Core.Path.{◌≡◌, refl}
use mathlib.Core.Bool.{true}
use mathlib.Core.List.{List, [], ◌∷◌, ◌++◌}
use Prim.Native.Nat.{ℕ, ◌+◌, ◌/◌, ◌<◌, ◌≤◌}
use native.Mathlib.Omega.{arith}
use borrow.Author.Tests.{lt-leb, le-leb}
use lib.ListN.{length}
use Rattle.text_scan.proofs.Tests.{within, over}
use Rattle.text_scan.proofs.Within.{inside}
use Rattle.text_chars.specs.Utf8.{is_xml_char, char, sound, tail, decode, char_at}
use Rattle.text_encode.specs.Encode.{tail_of, encoded}
use Rattle.text_chars.proofs.Chars.{char_most}

-- ---- the four forms, and past the last code point none
module _ (c : ℕ) where
  pub form_1 : c < 0x80 → encoded c ≡ c ∷ []
  unfolding encoded
  form_1 h = rw (le-leb c 0x7F (omega arith))

  pub form_2 : 0x80 ≤ c → c < 0x800 → encoded c ≡ (0xC0 + c / 64) ∷ tail_of c ∷ []
  unfolding encoded
  form_2 h g = rw (lt-leb c 0x7F h, le-leb c 0x7FF (omega arith))

  pub form_3 : 0x800 ≤ c → c < 0x10000 → encoded c ≡ (0xE0 + c / 4096) ∷ tail_of (c / 64) ∷ tail_of c ∷ []
  unfolding encoded
  form_3 h g = rw (lt-leb c 0x7F (omega arith), lt-leb c 0x7FF h, le-leb c 0xFFFF (omega arith))

  pub form_4 : 0x10000 ≤ c → c ≤ 0x10FFFF → encoded c ≡ (0xF0 + c / 262144) ∷ tail_of (c / 4096) ∷ tail_of (c / 64) ∷ tail_of c ∷ []
  unfolding encoded
  form_4 h g = rw (lt-leb c 0x7F (omega arith), lt-leb c 0x7FF (omega arith), lt-leb c 0xFFFF h, le-leb c 0x10FFFF g)

  pub no_form : 0x10FFFF < c → encoded c ≡ []
  unfolding encoded
  no_form h = rw (lt-leb c 0x7F (omega arith), lt-leb c 0x7FF (omega arith), lt-leb c 0xFFFF (omega arith), lt-leb c 0x10FFFF h)

-- one to four bytes
abbrev Sized : ℕ → List ℕ → Type 0
Sized c xs = (c ≤ 0x10FFFF → 1 ≤ length xs) × (length xs ≤ 4)

sized : (c : ℕ) → Sized c (encoded c)
sized c =
    inside 0x80 c (λ h. rw (form_1 c h) (λ _. omega arith, omega arith))
    (λ h. inside 0x800 c (λ g. rw (form_2 c h g) (λ _. omega arith, omega arith))
    (λ g. inside 0x10000 c (λ k. rw (form_3 c g k) (λ _. omega arith, omega arith))
    (λ k. inside 0x110000 c (λ l. rw (form_4 c k (omega arith)) (λ _. omega arith, omega arith))
    (λ l. rw (no_form c l) (λ m. absurd (omega arith), omega arith)))))

pub encoded_least : (c : ℕ) → c ≤ 0x10FFFF → 1 ≤ length (encoded c)
encoded_least c = (sized c).0

pub encoded_most : (c : ℕ) → length (encoded c) ≤ 4
encoded_most c = (sized c).1

is_tail : (x : ℕ) → tail (tail_of x) ≡ true
unfolding tail
is_tail x = within 0x80 0xBF (tail_of x) (omega arith) (omega arith)

-- ---- and back
module _ (c : ℕ) (e : is_xml_char c ≡ true) where
  -- a form's value is the code point
  is_sound_lem : (w least x : ℕ) → x ≡ c → least ≤ c → sound w least x ≡ char w c
  unfolding sound
  is_sound_lem w least x q h = rw (q, le-leb least c h, e)

  module _ (x y z : ℕ) where
    back_1 : c ≤ 0x7F → decode c x y z ≡ char 1 c
    unfolding decode
    back_1 h = rw (within 0x00 0x7F c (omega arith) h) (is_sound_lem 1 0 c refl (omega arith))

    back_2 : 0x7F < c → c ≤ 0x7FF → decode (0xC0 + c / 64) (tail_of c) x y ≡ char 2 c
    unfolding decode
    back_2 h g =
        rw (over 0x00 0x7F (0xC0 + c / 64) (omega arith), within 0xC0 0xDF (0xC0 + c / 64) (omega arith) (omega arith), is_tail c)
        (is_sound_lem 2 0x80 _ (omega arith) h)

    back_3 : 0x7FF < c → c ≤ 0xFFFF → decode (0xE0 + c / 4096) (tail_of (c / 64)) (tail_of c) x ≡ char 3 c
    unfolding decode
    back_3 h g =
        rw (over 0x00 0x7F (0xE0 + c / 4096) (omega arith), over 0xC0 0xDF (0xE0 + c / 4096) (omega arith), within 0xE0 0xEF (0xE0 + c / 4096) (omega arith) (omega arith), is_tail (c / 64), is_tail c)
        (is_sound_lem 3 0x800 _ (omega arith) h)

    back_4 : 0xFFFF < c → decode (0xF0 + c / 262144) (tail_of (c / 4096)) (tail_of (c / 64)) (tail_of c) ≡ char 4 c
    unfolding decode
    back_4 h =
        let m : c ≤ 0x10FFFF = char_most c e in
        let p : c / 4096 ≡ c / 64 / 64 = omega arith in
        let q : c / 262144 ≡ c / 4096 / 64 = omega arith in
        rw (over 0x00 0x7F (0xF0 + c / 262144) (omega arith), over 0xC0 0xDF (0xF0 + c / 262144) (omega arith), over 0xE0 0xEF (0xF0 + c / 262144) (omega arith), within 0xF0 0xF7 (0xF0 + c / 262144) (omega arith) (omega arith), is_tail (c / 4096), is_tail (c / 64), is_tail c)
        (is_sound_lem 4 0x10000 _ (omega arith) h)

  -- decoding what was encoded gives it back, whatever follows
  abbrev Back : List ℕ → Type 0
  Back rest = char_at (encoded c ++ rest) 0 ≡ char (length (encoded c)) c

  pub decodes : (rest : List ℕ) → char_at (encoded c ++ rest) 0 ≡ char (length (encoded c)) c
  unfolding char_at
  decodes rest =
      inside 0x80 c one
      (λ h. inside 0x800 c (two h) (λ g. inside 0x10000 c (three g) four))
    where
      one : c < 0x80 → Back rest
      one h = rw (form_1 c h) (back_1 _ _ _ (omega arith))

      two : 0x80 ≤ c → c < 0x800 → Back rest
      two h g = rw (form_2 c h g) (back_2 _ _ 0 h (omega arith))

      three : 0x800 ≤ c → c < 0x10000 → Back rest
      three h g = rw (form_3 c h g) (back_3 _ 0 0 h (omega arith))

      four : 0x10000 ≤ c → Back rest
      four h = rw (form_4 c h (char_most c e)) (back_4 0 0 0 h)
