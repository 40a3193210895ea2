-- The bytes of a code point, stored one after the other: together they are the stores of `encode`. Where there is no place, a store changes nothing.
-- Assumes nothing.
use mathlib.Core.Path.{◌≡◌, refl, sym, ◌∙◌, ap}
use mathlib.Core.List.{List, [], ◌∷◌}
use Prim.Native.Nat.{ℕ, suc, min, ◌+◌, ◌*◌, ◌<◌, ◌≤◌, ◌^◌}
use native.Mathlib.Nat.{min-eq_left, min-eq_right}
use native.Mathlib.Omega.{arith}
use borrow.Author.Tests.{le-leb, lt-leb}
use lib.ListN.{length, drop, get_or, set, length-set, drop_of_length-le}
use lib.Seq.{sets, set_out}
use mir.Val.{Fits}
use mir.Syntax.{w64}
use Rattle.text_scan.proofs.Within.{inside, drop_here}
use Rattle.text_encode.specs.Encode.{encoded}
use Rattle.text_encode.specs.Places.{up_to}
use Rattle.text_encode.proofs.Forms.{no_form}

-- ---- a place among n
module _ (n at : ℕ) where
  pub among : at ≤ n → at ≡ up_to n at
  unfolding up_to
  among h = rw (le-leb at n h)

  pub behind : n < at → n ≡ up_to n at
  unfolding up_to
  behind h = rw (lt-leb at n h)

  pub the_less : min at n ≡ up_to n at
  the_less = inside at n (λ h. let g : n ≤ at = omega arith in min-eq_right g ∙ behind h) (λ h. min-eq_left h ∙ among h)

  pub up_to_most : up_to n at ≤ n
  up_to_most = inside at n (λ h. rw (← (behind h)) (omega arith)) (λ h. rw (← (among h)) h)

-- ---- stores behind the end
pub no_place : (l : List ℕ) (at b : ℕ) → length l ≤ at → l ≡ set l at b
no_place l at b h = sym (set_out l at b h)

sets_out : (xs l : List ℕ) (i : ℕ) → length l ≤ i → sets l i xs ≡ l
sets_out [] l i h = refl
sets_out (x ∷ xs) l i h = rw (set_out l i x h) (sets_out xs l (suc i) (omega arith))

pub sets_up_to : (xs l : List ℕ) (at : ℕ) → sets l (up_to (length l) at) xs ≡ sets l at xs
sets_up_to xs l at =
    inside at (length l) (λ h. rw (← (behind (length l) at h)) (sets_out xs l (length l) (omega arith) ∙ sym (sets_out xs l at (omega arith))))
    (λ h. rw (← (among (length l) at h)))

-- ---- the loop: what is still to be stored, stored from here, makes what the whole stored from the start makes
pub record Storing (bytes out₀ : List ℕ) (start : ℕ) (out : List ℕ) (k : ℕ) : Type 0 where
  pub makes : sets out (start + k) (drop k bytes) ≡ sets out₀ start bytes
  pub long : length out ≡ length out₀
  pub few : k ≤ length bytes

pub storing_starts : (bytes out : List ℕ) (start : ℕ) → Storing bytes out start out 0
storing_starts bytes out start =
    let e : start + 0 ≡ start = omega arith in
    record { makes = rw e; long = refl; few = omega arith }

module _ (bytes out₀ : List ℕ) (start : ℕ) (out : List ℕ) (k : ℕ) (l : Storing bytes out₀ start out k) where
  pub place_fits : (at : ℕ) → start ≡ up_to (length out₀) at → length out₀ * 1 < 2 ^ 63 → length bytes * 1 < 2 ^ 63 → Fits w64 (start + k)
  place_fits at e h g = omega (arith, up_to_most (length out₀) at, l.few)

  pub storing_goes : k < length bytes → (out' : List ℕ) → out' ≡ set out (start + k) (get_or bytes k 0) → Storing bytes out₀ start out' (k + 1)
  storing_goes h out' e =
      let a : start + (k + 1) ≡ suc (start + k) = omega arith in
      record {
        makes = rw (e, a) (ap (sets out (start + k)) (sym (drop_here bytes k h)) ∙ l.makes);
        long = ap length e ∙ length-set out (start + k) (get_or bytes k 0) ∙ l.long;
        few = omega arith;
      }

  pub stored_all : length bytes ≤ k → (at : ℕ) → start ≡ up_to (length out₀) at → out ≡ sets out₀ at bytes
  stored_all h at e = ap (sets out (start + k)) (sym (drop_of_length-le bytes h)) ∙ l.makes ∙ rw e (sets_up_to bytes out₀ at)

-- ---- the bytes of a code point, by its form
pub stored_none : (out : List ℕ) (at c : ℕ) → 0x10FFFF < c → (0 ≡ length (encoded c)) × (out ≡ sets out at (encoded c))
stored_none out at c h = rw (no_form c h) (refl, refl)

module _ (c : ℕ) (bytes : List ℕ) where
  pub form_count : (r : ℕ) → r ≡ length bytes → encoded c ≡ bytes → r ≡ length (encoded c)
  form_count r h e = rw e h

  pub form_stored : (out : List ℕ) (at : ℕ) (after : List ℕ) → after ≡ sets out at bytes → encoded c ≡ bytes → after ≡ sets out at (encoded c)
  form_stored out at after h e = rw e h
