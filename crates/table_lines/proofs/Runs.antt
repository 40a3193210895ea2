-- Up to the next byte of a kind: the loop that looks for it, and what stands before it.
-- Assumes nothing.
use mathlib.Core.Path.{◌≡◌, refl, sym, ◌∙◌}
use mathlib.Core.Bool.{Bool, true, false}
use mathlib.Core.List.{List, [], ◌∷◌}
use Prim.Native.Nat.{ℕ, suc, ◌+◌, ◌-◌, ◌*◌, ◌<◌, ◌≤◌, ◌^◌}
use native.Mathlib.Omega.{arith}
use borrow.Author.Tests.{eq-eqb, ne_eqb, ltb-true}
use lib.Dec.{ltb}
use lib.ListN.{length, take, get_or}
use mir.Val.{Fits}
use mir.Syntax.{w64}
use Rattle.text_scan.specs.Choice.{pick}
use Rattle.text_scan.specs.Lists.{run_end, run_from}
use Rattle.text_scan.proofs.Lists.{Run, run_goes, run_stops, run_least, run_most}
use Rattle.text_scan.proofs.Tests.{pick_case}
use Rattle.table_lines.specs.Lines.{other, front, line_end}
use Rattle.table_lines.specs.Blocks.{plain_end}
use Rattle.table_lines.proofs.Blocks.{along}

module _ (s : List ℕ) (at b i : ℕ) (l : Run (other b) s at i) (h : i < length s) where
  pub until_here : get_or s i 0 ≡ b → i ≡ run_from (other b) s at
  until_here e = run_stops (other b) s at i l false h (rw (eq-eqb (get_or s i 0) b e)) refl

  pub until_on : (get_or s i 0 ≡ b → ⊥) → Run (other b) s at (i + 1)
  until_on e = run_goes (other b) s at i l true h (rw (ne_eqb (get_or s i 0) b e)) refl

-- a line goes on behind a byte above all that part it
pub line_on : (s : List ℕ) (at i : ℕ) → Run (other 10) s at i → i < length s → 13 < get_or s i 0 → Run (other 10) s at (i + 1)
line_on s at i l h g = until_on s at 10 i l h (λ p. absurd (omega arith))

-- and behind all that follow it
pub line_plain : (s : List ℕ) (at i e : ℕ) → Run (other 10) s at i → i < length s → 13 < get_or s i 0 → e ≡ plain_end s (i + 1) → Run (other 10) s at e
line_plain s at i e l h g q =
    rw q (along (ltb 13) s (λ k. Run (other 10) s at k) (λ k f t r. line_on s at k r f (ltb-true 13 _ t)) (i + 1) (line_on s at i l h g))

-- its end is that told from a place in it
pub line_same : (s : List ℕ) (at i e : ℕ) → Run (other 10) s at i → e ≡ line_end s i → e ≡ line_end s at
line_same s at i e l q = q ∙ sym l

-- the place lies ahead, and within where the search starts within
pub ahead : (b : ℕ) (s : List ℕ) (i e : ℕ) → e ≡ run_from (other b) s i → i ≤ e
ahead b s i e q = omega (arith, run_least (other b) s i)

pub within : (b : ℕ) (s : List ℕ) (i e : ℕ) → e ≡ run_from (other b) s i → i ≤ length s → e ≤ length s
within b s i e q h = omega (arith, run_most (other b) s i h)

-- a line ends within, and there is a place after its line feed
pub line_within : (s : List ℕ) (i e : ℕ) → e ≡ line_end s i → i < length s → e ≤ length s
line_within s i e p h = within 10 s i e p (omega arith)

pub line_fits : (s : List ℕ) (i e : ℕ) → e ≡ line_end s i → i < length s → length s * 1 < 2 ^ 63 → Fits w64 (e + 1)
line_fits s i e p h g = omega (arith, line_within s i e p h)

-- ---- up to a byte that is not above 13
module _ (s : List ℕ) (i e : ℕ) (q : e ≡ plain_end s (i + 1)) where
  pub plain_least : (m : ℕ) → m ≤ i → m ≤ e
  plain_least m h = omega (arith, run_least (ltb 13) s (i + 1))

  pub plain_less : i < length s → length s - e < length s - i
  plain_less h = omega (arith, run_least (ltb 13) s (i + 1))

-- a tab is none that is passed
pub tab_same : (s : List ℕ) (at m e : ℕ) → m ≡ plain_end s at → e ≡ run_from (other 9) s m → e ≡ run_from (other 9) s at
tab_same s at m e f q =
    q ∙ sym (rw f (along (ltb 13) s (λ k. Run (other 9) s at k) (λ k h t l. until_on s at 9 k l h (λ p. absurd (omega (arith, ltb-true 13 (get_or s k 0) t)))) at refl))

-- what stands before the end of a run
pub least : (p : ℕ → Bool) (i : ℕ) (xs : List ℕ) → i ≤ run_end p i xs
unfolding run_end
least p i [] = omega arith
least p i (x ∷ xs) = pick_case (λ (e : ℕ). i ≤ e) (p x) (run_end p (i + 1) xs) i (λ _. omega (arith, least p (i + 1) xs)) (λ _. omega arith)

pub before : (p : ℕ → Bool) (i : ℕ) (xs : List ℕ) → take (run_end p i xs - i) xs ≡ front p xs
unfolding run_end front
before p i [] =
    let e : i - i ≡ 0 = omega arith in
    rw e
before p i (x ∷ xs) = go (p x) (before p (i + 1) xs)
  where
    go : (t : Bool) → take (run_end p (i + 1) xs - (i + 1)) xs ≡ front p xs → take (pick t (run_end p (i + 1) xs) i - i) (x ∷ xs) ≡ pick t (x ∷ front p xs) []
    go true q =
        let e : run_end p (i + 1) xs - i ≡ suc (run_end p (i + 1) xs - (i + 1)) = omega (arith, least p (i + 1) xs) in
        rw (e, q)
    go false q =
        let e : i - i ≡ 0 = omega arith in
        rw e
