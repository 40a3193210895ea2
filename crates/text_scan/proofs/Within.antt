-- Positions within a list: past the end stands 0, so what is not 0 stands within.
-- Assumes nothing.
use mathlib.Core.Path.{◌≡◌, refl, sym, ◌∙◌}
use mathlib.Core.Bool.{Bool, true, false}
use mathlib.Core.List.{List, ◌∷◌}
use Prim.Native.Nat.{ℕ, ◌+◌, ◌<◌, ◌≤◌, ◌^◌}
use native.Mathlib.Numerals.{add-one}
use native.Mathlib.Omega.{arith}
use borrow.Author.Tests.{ltb-true, ltb-false}
use lib.Dec.{ltb}
use lib.ListN.{length, drop, get_or, get_or-eq_default}
use lib.Seq.{drop-cons}
use mir.Val.{Fits}
use mir.Syntax.{w64}
use Rattle.text_scan.proofs.Tests.{never}

-- a position is within or not
pub inside : (n k : ℕ) {A : Type 0} → (k < n → A) → (n ≤ k → A) → A
inside n k {A} f g = go (ltb k n) refl
  where
    go : (t : Bool) → ltb k n ≡ t → A
    go true q = f (ltb-true k n q)
    go false q = g (ltb-false k n q)

-- where a test holds that fails at 0, there is an element
pub holds_there : (p : ℕ → Bool) → p 0 ≡ false → (s : List ℕ) (k : ℕ) → p (get_or s k 0) ≡ true → k < length s
holds_there p z s k e =
    inside (length s) k (λ h. h) (λ h. never (sym e ∙ (rw (get_or-eq_default s 0 h) z)))

pub there : (s : List ℕ) (k b : ℕ) → 0 < b → get_or s k 0 ≡ b → k < length s
there s k b p e = inside (length s) k (λ h. h) (λ h. absurd (omega (arith, get_or-eq_default s 0 h)))

-- a byte that is there leaves room for the next position
pub next_fits : (s : List ℕ) (k c b : ℕ) → c ≡ get_or s k 0 → c ≡ b → 0 < b → length s < 2 ^ 64 → Fits w64 (k + 1)
next_fits s k c b e f p l = omega (arith, there s k b p (sym e ∙ f))

-- a position within: the element there, and the rest, from the next position
pub drop_here : (s : List ℕ) (i : ℕ) → i < length s → drop i s ≡ get_or s i 0 ∷ drop (i + 1) s
drop_here s i h = rw (add-one, drop-cons s i 0)
