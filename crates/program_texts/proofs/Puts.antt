-- Text behind the first bytes of a room: one more byte, one text behind another, and the lines of a list.
-- Assumes nothing.
use mathlib.Core.Path.{◌≡◌, refl, sym, ◌∙◌, ap, subst}
use mathlib.Core.Bool.{Bool, true, false}
use mathlib.Core.List.{List, [], ◌++◌, append_assoc, append-nil}
use Prim.Native.Nat.{ℕ, zero, suc, ◌+◌, ◌-◌, ◌*◌, ◌^◌, ◌<◌, ◌≤◌}
use native.Mathlib.Nat.{min-le_right}
use native.Mathlib.Omega.{arith}
use lib.ListN.{length, take, drop, length-take, length-drop, length-append}
use borrow.Rule.Slice.PartMut.{put_mid, same_len_mid}
use Rattle.std.proofs.lemmas.Slice.{take-put_mid, drop-put_mid}
use lib.Seq.{drop-drop, length-take-le}
use Rattle.text_scan.specs.Bytes.{text}
use lib.Dec.{leb}
use Rattle.list_findings.specs.declared.Finding.{Finding}
use Rattle.list_findings.specs.Findings.{width, record_at}
use Rattle.list_findings.proofs.Records.{there}
use Rattle.program_texts.specs.Digits.{last_digits, IsDigitCount}
use Rattle.table_join.specs.Written.{decimal}
use Rattle.program_texts.proofs.Decimal.{twenty, decimal_of_lem}
use Rattle.program_texts.specs.Texts.{Put, finding_line, finding_lines, count_text, refusal_text}

-- what is behind a place is as it was, and so it is behind any later one
further : (a b : List ℕ) (j m k : ℕ) → k ≡ j + m → drop j b ≡ drop j a → drop k b ≡ drop k a
further a b j m k e h = rw e (sym (drop-drop m j b) ∙ ap (drop m) h ∙ drop-drop m j a)

-- a text in the place of as many bytes of a room
pub part_put : (a t b : List ℕ) (at : ℕ) → at + length t ≤ length a → b ≡ t → Put a at t (at + length t) (put_mid at (at + length t - at) a b)
part_put a t b at h e =
    let n : at + length t - at ≡ length t = omega arith in
    let m : length t ≡ length (take (length t) (drop at a)) = omega (arith, length-take-le (length t) (drop at a) (omega (arith, length-drop at a))) in
    rw (e, n)
    (record {
      ends = refl;
      stands = take-put_mid at (length t) a t (at + length t) refl (omega arith);
      rest = drop-put_mid at (length t) a t (at + length t) (omega arith) (omega arith) refl;
      long = same_len_mid at (length t) a t m;
    })

-- a text behind a text is one text
pub put_both : (a b c s t : List ℕ) (i j k : ℕ) → Put a i s j b → Put b j t k c → Put a i (s ++ t) k c
put_both a b c s t i j k p q =
    record {
      ends = rw (length-append s t) (omega (arith, p.ends, q.ends));
      stands = q.stands ∙ rw p.stands (append_assoc (take i a) s t);
      rest = q.rest ∙ further a b j (length t) k q.ends p.rest;
      long = q.long ∙ p.long;
    }

-- the text of a number: its digits, at most 20, and then a text
module _ (n k : ℕ) (d : List ℕ) (s : n < 2 ^ 64) (f : IsDigitCount n k) (l : k ≡ length (take k d)) where
  pub digits_room : (at e m : ℕ) → at + 20 + e ≤ m → at + length (take k d) ≤ m
  digits_room at e m r = omega (arith, twenty n k s f, l, r)

  module _ (a b : List ℕ) (i j : ℕ) (p : Put a i (take k d) j b) where
    pub end_room : (e : List ℕ) → i + 20 + length e ≤ length a → j + length e ≤ length b
    end_room e r = omega (arith, twenty n k s f, l, r, p.ends, p.long)

    module _ (e c : List ℕ) (r : ℕ) (q : Put b j e r c) where
      pub number_put : take k d ≡ last_digits k n → Put a i (decimal n ++ e) r c
      number_put t =
          let x : take k d ≡ decimal n = t ∙ decimal_of_lem n k f in
          subst (λ (u : List ℕ). Put a i (u ++ e) r c) x (put_both a b c (take k d) e i j r p q)

      pub number_end : r ≤ i + 20 + length e
      number_end = omega (arith, twenty n k s f, l, p.ends, q.ends)

-- ---- findings
pub line_put : (a b c d : List ℕ) (i j k r : ℕ) (x : Finding) → Put a i (decimal x.procedure ++ text " ") j b → Put b j (decimal x.first ++ text " ") k c → Put c k (decimal x.after ++ text "\n") r d → Put a i (finding_line x) r d
unfolding finding_line
line_put a b c d i j k r x p q s = put_both a c d _ _ i k r (put_both a b c _ _ i j k p q) s

-- what is told so far, and the lines from here on, are the front and all lines; the rest is as it was
unfoldable pub Told : List ℕ → ℕ → List ℕ → ℕ → List ℕ → ℕ → ℕ → ℕ → Type 0
Told old at list n out next k left = (take next out ++ finding_lines list k left ≡ take at old ++ finding_lines list 0 n) × (drop next out ≡ drop next old)

pub told_none : (a l : List ℕ) (i n : ℕ) → Told a i l n a i 0 (n - 0)
unfolding Told
told_none a l i n = let z : n - 0 ≡ n = omega arith in rw z (refl, refl)

module _ (a l b : List ℕ) (i n j k m : ℕ) (e : Told a i l n b j k m) where
  told_more : (t : Bool) → t ≡ leb width (length l - k) → t ≡ true → 0 < m → (x : Finding) → x ≡ record_at l k → (c : List ℕ) (r : ℕ) → Put b j (finding_line x) r c → Told a i l n c r (k + width) (m - 1)
  unfolding Told finding_lines
  told_more t u v h x w c r p = go m e h
    where
      go : (m' : ℕ) → Told a i l n b j k m' → 0 < m' → Told a i l n c r (k + width) (m' - 1)
      go zero f g = absurd (omega (arith, g))
      go (suc q) f g =
          let z : suc q - 1 ≡ q = omega arith in
          (rw (z, p.stands, w, append_assoc (take j b) (finding_line (record_at l k)) (finding_lines l (k + width) q)) (rw (sym u ∙ v) at f.0), p.rest ∙ further a b j (length (finding_line x)) r p.ends f.1)

  told_all : finding_lines l k m ≡ [] → i ≤ length a → j ≤ length b → length b ≡ length a → Put a i (finding_lines l 0 n) j b
  unfolding Told
  told_all z h g s =
      let f : take j b ≡ take i a ++ finding_lines l 0 n = sym (append-nil (take j b)) ∙ rw z at e.0 in
      let x : length (take j b) ≡ length (take i a ++ finding_lines l 0 n) = ap length f in
      record {
        ends = omega (arith, x, length-take-le j b g, length-take-le i a h, length-append (take i a) (finding_lines l 0 n));
        stands = f;
        rest = e.1;
        long = s;
      }

  told_end : m ≤ 0 → i + 21 * length l ≤ length a → j + 21 * (length l - k) ≤ length b → length b ≡ length a → Put a i (finding_lines l 0 n) j b
  unfolding finding_lines
  told_end h x y = told_all (none m h) (omega (arith, x)) (omega (arith, y))
    where
      none : (m' : ℕ) → m' ≤ 0 → finding_lines l k m' ≡ []
      none zero g = refl
      none (suc q) g = absurd (omega (arith, g))

  pub told_out : (t : Bool) → t ≡ leb width (length l - k) → t ≡ false → i + 21 * length l ≤ length a → j + 21 * (length l - k) ≤ length b → length b ≡ length a → Put a i (finding_lines l 0 n) j b
  unfolding finding_lines
  told_out t u v x y = told_all (none m) (omega (arith, x)) (omega (arith, y))
    where
      none : (m' : ℕ) → finding_lines l k m' ≡ []
      none zero = refl
      none (suc q) = rw (← u, v)

-- the record with number q
module _ (a l b : List ℕ) (i n j q : ℕ) (e : Told a i l n b j (q * width) (n - q)) where
  pub told_next : (t : Bool) → t ≡ leb width (length l - q * width) → t ≡ true → q < n → (x : Finding) → x ≡ record_at l (q * width) → (c : List ℕ) (r : ℕ) → Put b j (finding_line x) r c → Told a i l n c r ((q + 1) * width) (n - (q + 1))
  told_next t u v h x w c r p =
      let z : (q + 1) * width ≡ q * width + width = omega arith in
      let y : n - (q + 1) ≡ n - q - 1 = omega arith in
      rw (z, y) (told_more a l b i n j (q * width) (n - q) e t u v (omega arith) x w c r p)

  pub told_over : n ≤ q → i + 21 * length l ≤ length a → j + 21 * (length l - q * width) ≤ length b → length b ≡ length a → Put a i (finding_lines l 0 n) j b
  told_over h = told_end a l b i n j (q * width) (n - q) e (omega arith)

-- a record of three numbers has a line of 63 bytes at most
module _ (l b : List ℕ) (j k : ℕ) (t : Bool) (u : t ≡ leb width (length l - k)) (v : t ≡ true) (h : j + 21 * (length l - k) ≤ length b) where
  pub line_room : j + 21 * width ≤ length b
  line_room = omega (arith, h, there l k t u v)

  room_left : (c s : List ℕ) (r : ℕ) → Put b j s r c → r ≤ j + 21 * width → r + 21 * (length l - (k + width)) ≤ length c
  room_left c s r p g = omega (arith, h, there l k t u v, p.long, g)

module _ (l b : List ℕ) (j q : ℕ) (t : Bool) (u : t ≡ leb width (length l - q * width)) (v : t ≡ true) where
  pub next_there : (q + 1) * width ≤ length l
  next_there = omega (arith, there l (q * width) t u v)

  pub next_room : j + 21 * (length l - q * width) ≤ length b → (c s : List ℕ) (r : ℕ) → Put b j s r c → r ≤ j + 21 * width → r + 21 * (length l - (q + 1) * width) ≤ length c
  next_room h c s r p g = let z : (q + 1) * width ≡ q * width + width = omega arith in rw z (room_left l b j (q * width) t u v h c s r p g)

pub long_still : (a b c s : List ℕ) (j r : ℕ) → length b ≡ length a → Put b j s r c → length c ≡ length a
long_still a b c s j r e p = p.long ∙ e

-- ---- the two texts
module _ (a b c d : List ℕ) (i j k r : ℕ) where
  pub list_put : (s : List ℕ) (n : ℕ) → Put a i (text "findings ") j b → Put b j (decimal n ++ text "\n") k c → Put c k s r d → Put a i (count_text n ++ s) r d
  unfolding count_text
  list_put s n p q o = put_both a c d _ s i k r (put_both a b c _ _ i j k p q) o

  pub refusal_put : (n v : ℕ) → Put a i (text "refused ") j b → Put b j (decimal n ++ text " at ") k c → Put c k (decimal v ++ text "\n") r d → Put a i (refusal_text n v) r d
  unfolding refusal_text
  refusal_put n v p q o = put_both a c d _ _ i k r (put_both a b c _ _ i j k p q) o

-- a text from the start of a room ends within it
pub put_within : (a b t : List ℕ) (r : ℕ) → Put a 0 t r b → r ≤ length b
put_within a b t r p =
    let l : length (take r b) ≡ length t = ap length p.stands in
    omega (arith, l, p.ends, length-take r b, min-le_right r (length b))

pub put_long : (a b t : List ℕ) (r : ℕ) → Put a 0 t r b → r ≡ length (take r b)
put_long a b t r p = sym (length-take-le r b (put_within a b t r p))
