-- The characters of a range that begins and ends with an ASCII byte: where the document has no bad one, neither has the range.
-- Assumes nothing.
use mathlib.Core.Path.{◌≡◌, refl, sym, ◌∙◌, ap}
use mathlib.Core.Bool.{Bool, true, false}
use mathlib.Core.List.{List}
use Prim.Native.Nat.{ℕ, zero, suc, ◌+◌, ◌-◌, ◌*◌, ◌<◌, ◌≤◌}
use native.Mathlib.Omega.{arith}
use borrow.Author.Tests.{ne_eqb}
use lib.Dec.{leb}
use lib.ListN.{length, get_or}
use Rattle.text_scan.specs.Choice.{pick, ◌and◌, between}
use Rattle.text_scan.specs.Lists.{begins, stands}
use Rattle.text_scan.specs.Walk.{from}
use Rattle.text_scan.proofs.Tests.{never, pick_case, and_left, and_right, within}
use Rattle.text_scan.proofs.Within.{inside, drop_here}
use Rattle.text_scan.proofs.Lists.{text_fits}
use Rattle.text_scan.proofs.Walk as walks
use Rattle.text_chars.specs.Utf8.{is_xml_char, Char, none, char, sound, tail, decode, char_at, width_of, char_step, steps, mark, first_bad}
use Rattle.text_chars.proofs.Decode.{tail_under}
use Rattle.text_chars.proofs.Walked.{fits}
use Rattle.xml_agreement.proofs.Range.{range, range_length, byte}

-- ---- the forms of a character, from the longest
module _ (a b c d : ℕ) where
  abbrev four : Char
  four =
      pick (between 0xF0 0xF7 a and tail b and tail c and tail d)
      (sound 4 0x10000 ((a - 0xF0) * 262144 + (b - 0x80) * 4096 + (c - 0x80) * 64 + (d - 0x80)))
      none

  abbrev three : Char
  three = pick (between 0xE0 0xEF a and tail b and tail c) (sound 3 0x800 ((a - 0xE0) * 4096 + (b - 0x80) * 64 + (c - 0x80))) four

  abbrev two : Char
  two = pick (between 0xC0 0xDF a and tail b) (sound 2 0x80 ((a - 0xC0) * 64 + (b - 0x80))) three

  -- how wide it can be, and that the bytes behind its first are tails
  abbrev Formed : ℕ → Char → Type 0
  Formed w x = (width_of x ≡ 0 → ⊥) → (w ≤ width_of x) × (width_of x ≤ 4) × (1 < width_of x → tail b ≡ true) × (2 < width_of x → tail c ≡ true) × (3 < width_of x → tail d ≡ true)

  of_sound : (w least x : ℕ) → ((w ≤ 4) × (1 < w → tail b ≡ true) × (2 < w → tail c ≡ true) × (3 < w → tail d ≡ true)) → Formed w (sound w least x)
  unfolding sound
  of_sound w least x k =
      pick_case (Formed w) (leb least x and is_xml_char x) (char w x) none (λ _ _. (omega arith, k.0, k.1, k.2, k.3)) (λ _ z. absurd (z refl))

  four_formed : Formed 4 four
  four_formed =
      pick_case (Formed 4) (between 0xF0 0xF7 a and tail b and tail c and tail d) _ _
      (λ e.
      let f : tail b and tail c and tail d ≡ true = and_right (between 0xF0 0xF7 a) (tail b and tail c and tail d) e in
      of_sound 4 0x10000 _ (omega arith, λ _. and_left (tail b) (tail c and tail d) f, λ _. and_left (tail c) (tail d) (and_right (tail b) (tail c and tail d) f), λ _. and_right (tail c) (tail d) (and_right (tail b) (tail c and tail d) f)))
      (λ _ z. absurd (z refl))

  more : (w v : ℕ) (x : Char) → w ≤ v → Formed v x → Formed w x
  more w v x h f z = let k = f z in (omega (arith, k.0), k.1, k.2, k.3, k.4)

  three_formed : Formed 3 three
  three_formed =
      pick_case (Formed 3) (between 0xE0 0xEF a and tail b and tail c) _ _
      (λ e.
      let f : tail b and tail c ≡ true = and_right (between 0xE0 0xEF a) (tail b and tail c) e in
      of_sound 3 0x800 _ (omega arith, λ _. and_left (tail b) (tail c) f, λ _. and_right (tail b) (tail c) f, λ l. absurd (omega arith)))
      (λ _. more 3 4 four (omega arith) four_formed)

  two_formed : Formed 2 two
  two_formed =
      pick_case (Formed 2) (between 0xC0 0xDF a and tail b) _ _
      (λ e. of_sound 2 0x80 _ (omega arith, λ _. and_right (between 0xC0 0xDF a) (tail b) e, λ l. absurd (omega arith), λ l. absurd (omega arith)))
      (λ _. more 2 3 three (omega arith) three_formed)

  formed : Formed 1 (decode a b c d)
  unfolding decode
  formed =
      pick_case (Formed 1) (between 0x00 0x7F a) _ _ (λ _. of_sound 1 0 a (omega arith, λ l. absurd (omega arith), λ l. absurd (omega arith), λ l. absurd (omega arith)))
      (λ _. more 1 2 two (omega arith) two_formed)

-- ---- what is decoded is told by as many bytes as it is wide
module _ (a b c d b' c' d' : ℕ) where
  three_same : b' ≡ b → c' ≡ c → (width_of (three a b c d) ≡ 0 → ⊥) → (3 < width_of (three a b c d) → d' ≡ d) → three a b' c' d' ≡ three a b c d
  three_same eb ec z ed = rw (eb, ec) (go (between 0xE0 0xEF a and tail b and tail c) z ed)
    where
      go : (t : Bool) → (width_of (pick t (sound 3 0x800 ((a - 0xE0) * 4096 + (b - 0x80) * 64 + (c - 0x80))) (four a b c d)) ≡ 0 → ⊥) → (3 < width_of (pick t (sound 3 0x800 ((a - 0xE0) * 4096 + (b - 0x80) * 64 + (c - 0x80))) (four a b c d)) → d' ≡ d) → ◌≡◌ {A = Char} (pick t (sound 3 0x800 ((a - 0xE0) * 4096 + (b - 0x80) * 64 + (c - 0x80))) (four a b c d')) (pick t (sound 3 0x800 ((a - 0xE0) * 4096 + (b - 0x80) * 64 + (c - 0x80))) (four a b c d))
      go true z e = refl
      go false z e = let q : d' ≡ d = e (omega (arith, (four_formed a b c d z).0)) in rw q

  two_same : b' ≡ b → (width_of (two a b c d) ≡ 0 → ⊥) → (2 < width_of (two a b c d) → c' ≡ c) → (3 < width_of (two a b c d) → d' ≡ d) → two a b' c' d' ≡ two a b c d
  two_same eb z ec ed = rw eb (go (between 0xC0 0xDF a and tail b) z ec ed)
    where
      go : (t : Bool) → (width_of (pick t (sound 2 0x80 ((a - 0xC0) * 64 + (b - 0x80))) (three a b c d)) ≡ 0 → ⊥) → (2 < width_of (pick t (sound 2 0x80 ((a - 0xC0) * 64 + (b - 0x80))) (three a b c d)) → c' ≡ c) → (3 < width_of (pick t (sound 2 0x80 ((a - 0xC0) * 64 + (b - 0x80))) (three a b c d)) → d' ≡ d) → ◌≡◌ {A = Char} (pick t (sound 2 0x80 ((a - 0xC0) * 64 + (b - 0x80))) (three a b c' d')) (pick t (sound 2 0x80 ((a - 0xC0) * 64 + (b - 0x80))) (three a b c d))
      go true z f e = refl
      go false z f e = sym (ap (λ (x : ℕ). three a x c' d') eb) ∙ three_same eb (f (omega (arith, (three_formed a b c d z).0))) z e

  decode_same : (width_of (decode a b c d) ≡ 0 → ⊥) → (1 < width_of (decode a b c d) → b' ≡ b) → (2 < width_of (decode a b c d) → c' ≡ c) → (3 < width_of (decode a b c d) → d' ≡ d) → decode a b' c' d' ≡ decode a b c d
  unfolding decode
  decode_same = go (between 0x00 0x7F a)
    where
      go : (t : Bool) → (width_of (pick t (sound 1 0 a) (two a b c d)) ≡ 0 → ⊥) → (1 < width_of (pick t (sound 1 0 a) (two a b c d)) → b' ≡ b) → (2 < width_of (pick t (sound 1 0 a) (two a b c d)) → c' ≡ c) → (3 < width_of (pick t (sound 1 0 a) (two a b c d)) → d' ≡ d) → pick t (sound 1 0 a) (two a b' c' d') ≡ pick t (sound 1 0 a) (two a b c d)
      go true z f g e = refl
      go false z f g e = two_same (f (omega (arith, (two_formed a b c d z).0))) z g e

-- ---- a walk along the characters that comes to the end
abbrev pub Good : List ℕ → ℕ → Type 0
Good s i = length s ≤ from (steps s) (length s) (length s) i

pub good_start : (s : List ℕ) → length s ≤ first_bad s → Good s 0
unfolding first_bad
good_start s h = go (stands mark s 0) refl h
  where
    go : (t : Bool) → stands mark s 0 ≡ t → length s ≤ pick t 0 (from (steps s) (length s) (length s) 0) → Good s 0
    go true e l = absurd (omega (arith, text_fits mark s 0 (omega arith) e))
    go false e l = l

module _ (s : List ℕ) (i : ℕ) (h : i < length s) (g : Good s i) where
  pub char_there : width_of (char_at s i) ≡ 0 → ⊥
  char_there z = omega (arith, walks.stops (steps s) (length s) (length s) i i h (ap (char_step i) z))

  good_next : (w : ℕ) → width_of (char_at s i) ≡ suc w → Good s (i + suc w)
  good_next w e =
      let a : i + 1 + w ≡ i + suc w = omega arith in
      let b : from (steps s) (length s) (length s) i ≡ from (steps s) (length s) (length s) (i + suc w) = rw a at (walks.goes (steps s) (length s) (length s) i w (omega (arith, fits s i h)) (ap (char_step i) e)) in
      omega (arith, b)

  pub good_behind : Good s (i + width_of (char_at s i))
  good_behind = go (width_of (char_at s i)) refl
    where
      go : (w : ℕ) → width_of (char_at s i) ≡ w → Good s (i + w)
      go zero e = absurd (char_there e)
      go (suc w) e = good_next w e

  -- no ASCII byte stands inside a character
  pub no_ascii : (k : ℕ) → 0 < k → k < width_of (char_at s i) → get_or s (i + k) 0 < 0x80 → ⊥
  unfolding char_at
  no_ascii k p q l =
      let f = formed (get_or s i 0) (get_or s (i + 1) 0) (get_or s (i + 2) 0) (get_or s (i + 3) 0) char_there in
      go k p q l f.1 f.2 f.3 f.4
    where
      go : (k : ℕ) → 0 < k → k < width_of (char_at s i) → get_or s (i + k) 0 < 0x80 → width_of (char_at s i) ≤ 4 → (1 < width_of (char_at s i) → tail (get_or s (i + 1) 0) ≡ true) → (2 < width_of (char_at s i) → tail (get_or s (i + 2) 0) ≡ true) → (3 < width_of (char_at s i) → tail (get_or s (i + 3) 0) ≡ true) → ⊥
      go zero p q l m a b c = omega arith
      go (suc zero) p q l m a b c = never (sym (a q) ∙ tail_under (get_or s (i + 1) 0) l)
      go (suc (suc zero)) p q l m a b c = never (sym (b q) ∙ tail_under (get_or s (i + 2) 0) l)
      go (suc (suc (suc zero))) p q l m a b c = never (sym (c q) ∙ tail_under (get_or s (i + 3) 0) l)
      go (suc (suc (suc (suc k)))) p q l m a b c = omega arith

-- an ASCII byte is where a character begins
pub good_at : (s : List ℕ) (q : ℕ) → q < length s → get_or s q 0 < 0x80 → (k i : ℕ) → q - i < k → i ≤ q → Good s i → Good s q
good_at s q h l zero i f le g = absurd (omega arith)
good_at s q h l (suc k) i f le g =
    inside q i
    (λ lt. inside (i + width_of (char_at s i)) q
    (λ in'.
    let a : i + (q - i) ≡ q = omega arith in
    absurd (no_ascii s i (omega arith) g (q - i) (omega arith) (omega arith) (rw a l)))
    (λ out. good_at s q h l k (i + width_of (char_at s i)) (omega (arith, char_there s i (omega arith) g)) out (good_behind s i (omega arith) g)))
    (λ ge. let a : i ≡ q = omega arith in rw a at g)

narrow : (s : List ℕ) (i : ℕ) → get_or s i 0 < 0x80 → width_of (char_at s i) ≤ 1
unfolding char_at decode sound
narrow s i l =
    rw (within 0 0x7F (get_or s i 0) (omega arith) (omega arith))
    (pick_case (λ x. width_of x ≤ 1) (leb 0 (get_or s i 0) and is_xml_char (get_or s i 0)) (char 1 (get_or s i 0)) none (λ _. omega arith) (λ _. omega arith))

-- ---- the range
module _ (s : List ℕ) (d n : ℕ) (room : d + n ≤ length s) (some : 0 < n) (first : get_or s d 0 < 0x80) (last : get_or s (d + n - 1) 0 < 0x80) where
  abbrev r : List ℕ
  r = range s d n room

  module _ (i : ℕ) (h : i < n) (g : Good s (d + i)) where
    closed : i + width_of (char_at s (d + i)) ≤ n
    closed =
        inside (i + width_of (char_at s (d + i))) n
        (λ out. inside (n - 1) i
        (λ lt.
        let a : d + i + (n - 1 - i) ≡ d + n - 1 = omega arith in
        absurd (no_ascii s (d + i) (omega arith) g (n - 1 - i) (omega arith) (omega arith) (rw a last)))
        (λ ge.
        let a : d + i ≡ d + n - 1 = omega arith in
        absurd (omega (arith, narrow s (d + i) (rw a last)))))
        (λ le. le)

    behind : (k : ℕ) → k < width_of (char_at s (d + i)) → get_or r (i + k) 0 ≡ get_or s (d + i + k) 0
    behind k l =
        let a : d + (i + k) ≡ d + i + k = omega arith in
        byte s d n room (i + k) (omega (arith, closed)) ∙ ap (λ (j : ℕ). get_or s j 0) a

    char_same : char_at r i ≡ char_at s (d + i)
    unfolding char_at
    char_same =
        rw (byte s d n room i h)
        (decode_same (get_or s (d + i) 0) (get_or s (d + i + 1) 0) (get_or s (d + i + 2) 0) (get_or s (d + i + 3) 0) (get_or r (i + 1) 0) (get_or r (i + 2) 0) (get_or r (i + 3) 0)
        (char_there s (d + i) (omega arith) g) (behind 1) (behind 2) (behind 3))

    range_goes : from (steps r) (length r) (length r) i ≡ from (steps r) (length r) (length r) (i + width_of (char_at s (d + i)))
    range_goes = go (width_of (char_at s (d + i))) refl
      where
        go : (w : ℕ) → width_of (char_at s (d + i)) ≡ w → from (steps r) (length r) (length r) i ≡ from (steps r) (length r) (length r) (i + w)
        go zero e = absurd (char_there s (d + i) (omega arith) g e)
        go (suc w) e =
            let a : i + 1 + w ≡ i + suc w = omega arith in
            rw a at (walks.goes (steps r) (length r) (length r) i w (omega (arith, closed, range_length s d n room)) (ap (char_step i) (ap width_of char_same ∙ e)))

  range_ends : (k i : ℕ) → n - i < k → i ≤ n → Good s (d + i) → from (steps r) (length r) (length r) i ≡ length r
  range_ends zero i f h g = absurd (omega arith)
  range_ends (suc k) i f h g =
      inside n i
      (λ l.
      let a : d + i + width_of (char_at s (d + i)) ≡ d + (i + width_of (char_at s (d + i))) = omega arith in
      range_goes i l g
      ∙ range_ends k (i + width_of (char_at s (d + i))) (omega (arith, char_there s (d + i) (omega arith) g)) (closed i l g) (rw a at (good_behind s (d + i) (omega arith) g)))
      (λ l. walks.ends (steps r) (length r) (length r) i (omega (arith, range_length s d n room)))

  no_mark : stands mark r 0 ≡ false
  unfolding begins
  no_mark =
      let a : d + 0 ≡ d = omega arith in
      let b : get_or r 0 0 ≡ get_or s d 0 = byte s d n room 0 some ∙ ap (λ (j : ℕ). get_or s j 0) a in
      ap (begins mark) (drop_here r 0 (omega (arith, range_length s d n room))) ∙ (rw (ne_eqb (get_or r 0 0) 0xEF (λ z. omega arith)))

  pub sound_range : length s ≤ first_bad s → first_bad r ≡ length r
  unfolding first_bad
  sound_range h =
      let a : d + 0 ≡ d = omega arith in
      let g : Good s d = good_at s d (omega arith) first (suc d) 0 (omega arith) (omega arith) (good_start s h) in
      rw no_mark (range_ends (suc n) 0 (omega arith) (omega arith) (rw (sym a) at g))
