-- A line in a file: where it ends, and what follows.
-- Assumes nothing.
use mathlib.Core.Path.{◌≡◌, refl, sym, ◌∙◌, ap}
use mathlib.Core.Bool.{Bool, true, false}
use mathlib.Core.List.{List, [], ◌∷◌, ◌++◌}
use Prim.Native.Nat.{ℕ, suc, ◌+◌, ◌-◌, ◌<◌}
use native.Mathlib.Omega.{arith}
use borrow.Author.Tests.{eqb-true}
use lib.Dec.{eqb}
use lib.ListN.{length, take, drop, length-append, length-drop}
use lib.Seq.{take-append_seam, drop-append_seam, drop-drop}
use Rattle.text_scan.specs.Choice.{pick, not}
use Rattle.text_scan.specs.Lists.{every, run_end}
use Rattle.text_scan.proofs.Tests.{and_left, and_right}
use Rattle.text_scan.proofs.Lists.{run_least}
use Rattle.table_lines.proofs.Runs.{before, least}
use Rattle.table_lines.specs.Lines.{other, line_end, line_at, front}

-- behind what stands at i
pub drop_past : (s : List ℕ) (i : ℕ) (w xs : List ℕ) → drop i s ≡ w ++ xs → drop (i + length w) s ≡ xs
drop_past s i w xs e = sym (drop-drop (length w) i s) ∙ rw e (drop-append_seam w xs)

run_over : (p : ℕ → Bool) (i : ℕ) (l : List ℕ) (x : ℕ) (xs : List ℕ) → every p l ≡ true → p x ≡ false → run_end p i (l ++ x ∷ xs) ≡ i + length l
unfolding every run_end
run_over p i [] x xs e f = rw f (omega arith)
run_over p i (y ∷ l) x xs e f =
    rw (and_left (p y) (every p l) e) (run_over p (i + 1) l x xs (and_right (p y) (every p l) e) f ∙ omega arith)

-- ---- a line that is written at i
module _ (s : List ℕ) (i : ℕ) (l xs : List ℕ) (e : drop i s ≡ l ++ 10 ∷ xs) (f : every (other 10) l ≡ true) where
  pub line_ends : line_end s i ≡ i + length l
  line_ends = rw e (run_over (other 10) i l 10 xs f refl)

  pub line_is : line_at s i ≡ l
  line_is =
      let n : i + length l - i ≡ length l = omega arith in
      rw (line_ends, e, n) (take-append_seam l (10 ∷ xs))

  pub line_next : drop (line_end s i + 1) s ≡ xs
  line_next =
      rw line_ends
      (sym (drop-drop 1 (i + length l) s) ∙ rw (drop_past s i l (10 ∷ xs) e))

  pub line_feed : line_end s i < length s
  line_feed = rw line_ends (omega (arith, length-drop i s, ap length e, length-append l (10 ∷ xs)))

-- ---- a line that is read at i
front_every : (p : ℕ → Bool) (xs : List ℕ) → every p (front p xs) ≡ true
unfolding every front
front_every p [] = refl
front_every p (x ∷ xs) = go (p x) refl (front_every p xs)
  where
    go : (t : Bool) → p x ≡ t → every p (front p xs) ≡ true → every p (pick t (x ∷ front p xs) []) ≡ true
    go true q f = rw q f
    go false q f = refl

cut : (b i : ℕ) (xs : List ℕ) → run_end (other b) i xs < i + length xs
    → xs ≡ take (run_end (other b) i xs - i) xs ++ b ∷ drop (run_end (other b) i xs - i + 1) xs
unfolding run_end
cut b i [] h = absurd (omega arith)
cut b i (x ∷ xs) h = go (eqb x b) refl (cut b (i + 1) xs) h
  where
    e : ℕ
    e = run_end (other b) (i + 1) xs

    Cut : ℕ → Type 0
    Cut n = x ∷ xs ≡ take n (x ∷ xs) ++ b ∷ drop (n + 1) (x ∷ xs)

    go : (t : Bool) → eqb x b ≡ t → (e < i + 1 + length xs → xs ≡ take (e - (i + 1)) xs ++ b ∷ drop (e - (i + 1) + 1) xs)
        → pick (not t) e i < i + length (x ∷ xs) → Cut (pick (not t) e i - i)
    go true q r g =
        let z : i - i ≡ 0 = omega arith in
        rw (z, eqb-true x b q)
    go false q r g =
        let z : e - i ≡ suc (e - (i + 1)) = omega (arith, least (other b) (i + 1) xs) in
        let y : suc (e - (i + 1)) + 1 ≡ suc (e - (i + 1) + 1) = omega arith in
        rw (z, y) (ap (λ (l : List ℕ). x ∷ l) (r (omega arith)))

module _ (s : List ℕ) (i : ℕ) (h : line_end s i < length s) where
  pub read_line : drop i s ≡ line_at s i ++ 10 ∷ drop (line_end s i + 1) s
  read_line =
      let n : i + (line_end s i - i + 1) ≡ line_end s i + 1 = omega (arith, run_least (other 10) s i) in
      cut 10 i (drop i s) (omega (arith, length-drop i s))
      ∙ rw (drop-drop (line_end s i - i + 1) i s, n)

pub read_plain : (s : List ℕ) (i : ℕ) → every (other 10) (line_at s i) ≡ true
read_plain s i = rw (before (other 10) i (drop i s)) (front_every (other 10) (drop i s))
