-- What stands at a position, by the tests in which the code looks.
-- Assumes nothing.
use mathlib.Core.Path.{◌≡◌}
use mathlib.Core.Bool.{Bool, true, false}
use mathlib.Core.List.{List}
use Prim.Native.Nat.{ℕ, ◌+◌, ◌-◌, ◌*◌, ◌<◌, ◌≤◌}
use native.Mathlib.Omega.{arith}
use borrow.Author.Tests.{lt-leb, le-leb}
use Rattle.std.specs.Prelude.{Option, None, Some}
use lib.ListN.{get_or}
use Rattle.text_chars.specs.Utf8.{is_xml_char, sound, tail, decode, char_at}
use Rattle.text_chars.specs.Blocks.{width}
use Rattle.text_scan.proofs.Tests.{and_false, under, within, over}

module _ (w least c : ℕ) where
  pub sound_under : c < least → None ≡ width (sound w least c)
  unfolding sound
  sound_under h = rw (lt-leb least c h)

  pub sound_in : (t : Bool) → least ≤ c → t ≡ is_xml_char c → t ≡ true → Some w ≡ width (sound w least c)
  unfolding sound
  sound_in t h e f = rw (le-leb least c h, ← e, f)

  pub sound_out : (t : Bool) → least ≤ c → t ≡ is_xml_char c → t ≡ false → None ≡ width (sound w least c)
  unfolding sound
  sound_out t h e f = rw (le-leb least c h, ← e, f)

module _ (b : ℕ) where
  pub tail_under : b < 0x80 → tail b ≡ false
  unfolding tail
  tail_under h = under 0x80 0xBF b h

  pub tail_over : 0xBF < b → tail b ≡ false
  unfolding tail
  tail_over h = over 0x80 0xBF b h

  pub tail_in : 0x80 ≤ b → b ≤ 0xBF → tail b ≡ true
  unfolding tail
  tail_in h g = within 0x80 0xBF b h g

module _ (s : List ℕ) (i a : ℕ) where
  pub low : (r : Option ℕ) → a ≡ get_or s i 0 → a < 0x80 → r ≡ width (sound 1 0 a) → r ≡ width (char_at s i)
  unfolding char_at decode
  low r ea h e = rw (← ea, within 0 0x7F a (omega arith) (omega arith)) e

  pub mid : a ≡ get_or s i 0 → 0x80 ≤ a → a < 0xC0 → None ≡ width (char_at s i)
  unfolding char_at decode
  mid ea h g =
      rw (← ea, over 0 0x7F a h, under 0xC0 0xDF a g, under 0xE0 0xEF a (omega arith), under 0xF0 0xF7 a (omega arith))

  pub high : a ≡ get_or s i 0 → 0xF7 < a → None ≡ width (char_at s i)
  unfolding char_at decode
  high ea h =
      rw (← ea, over 0 0x7F a (omega arith), over 0xC0 0xDF a (omega arith), over 0xE0 0xEF a (omega arith), over 0xF0 0xF7 a h)

  module _ (b : ℕ) where
    pub no_b : a ≡ get_or s i 0 → b ≡ get_or s (i + 1) 0 → 0xC0 ≤ a → tail b ≡ false → None ≡ width (char_at s i)
    unfolding char_at decode
    no_b ea eb h t = simp (← ea, ← eb, over 0 0x7F a (omega arith), t, and_false)

    pub two : (r : Option ℕ) → a ≡ get_or s i 0 → b ≡ get_or s (i + 1) 0 → 0xC0 ≤ a → a < 0xE0 → tail b ≡ true → r ≡ width (sound 2 0x80 ((a - 0xC0) * 64 + (b - 0x80))) → r ≡ width (char_at s i)
    unfolding char_at decode
    two r ea eb h g t e = rw (← ea, ← eb, over 0 0x7F a (omega arith), within 0xC0 0xDF a h (omega arith), t) e

    module _ (c : ℕ) where
      pub no_c : a ≡ get_or s i 0 → c ≡ get_or s (i + 2) 0 → 0xE0 ≤ a → tail c ≡ false → None ≡ width (char_at s i)
      unfolding char_at decode
      no_c ea ec h t = simp (← ea, ← ec, over 0 0x7F a (omega arith), over 0xC0 0xDF a (omega arith), t, and_false)

      pub three : (r : Option ℕ) → a ≡ get_or s i 0 → b ≡ get_or s (i + 1) 0 → c ≡ get_or s (i + 2) 0 → 0xE0 ≤ a → a < 0xF0 → tail b ≡ true → tail c ≡ true → r ≡ width (sound 3 0x800 ((a - 0xE0) * 4096 + (b - 0x80) * 64 + (c - 0x80))) → r ≡ width (char_at s i)
      unfolding char_at decode
      three r ea eb ec h g t u e =
          rw (← ea, ← eb, ← ec, over 0 0x7F a (omega arith), over 0xC0 0xDF a (omega arith), within 0xE0 0xEF a h (omega arith), t, u) e

      module _ (d : ℕ) where
        pub no_d : a ≡ get_or s i 0 → d ≡ get_or s (i + 3) 0 → 0xF0 ≤ a → tail d ≡ false → None ≡ width (char_at s i)
        unfolding char_at decode
        no_d ea ed h t =
            simp (← ea, ← ed, over 0 0x7F a (omega arith), over 0xC0 0xDF a (omega arith), over 0xE0 0xEF a (omega arith), t, and_false)

        pub four : (r : Option ℕ) → a ≡ get_or s i 0 → b ≡ get_or s (i + 1) 0 → c ≡ get_or s (i + 2) 0 → d ≡ get_or s (i + 3) 0 → 0xF0 ≤ a → a ≤ 0xF7 → tail b ≡ true → tail c ≡ true → tail d ≡ true → r ≡ width (sound 4 0x10000 ((a - 0xF0) * 262144 + (b - 0x80) * 4096 + (c - 0x80) * 64 + (d - 0x80))) → r ≡ width (char_at s i)
        unfolding char_at decode
        four r ea eb ec ed h g t u v e =
            rw (← ea, ← eb, ← ec, ← ed, over 0 0x7F a (omega arith), over 0xC0 0xDF a (omega arith), over 0xE0 0xEF a (omega arith), within 0xF0 0xF7 a h g, t, u, v) e
