-- What the digits of a mark tell is what was pushed: a mark of few digits is small, so that no digit is lost; and of the procedures that cannot be
-- found at an element none is.
-- Assumes nothing.
use mathlib.Core.Path.{◌≡◌, refl, ◌∙◌}
use mathlib.Core.Bool.{Bool, true, false}
use mathlib.Core.List.{List, [], ◌∷◌}
use Prim.Native.Nat.{ℕ, zero, suc, ◌+◌, ◌-◌, ◌*◌, ◌/◌, ◌%◌, ◌<◌, ◌≤◌}
use native.Mathlib.Omega.{arith}
use borrow.Author.Tests.{lt-ltb}
use lib.Dec.{eqb}
use lib.ListN.{length}
use Rattle.text_scan.specs.Choice.{pick}
use Rattle.list_findings.specs.declared.Finding.{Finding}
use Rattle.list_findings.specs.Findings.{last_procedure}
use Rattle.judge_draft.specs.Drafts.{Draft, role}
use Rattle.judge_procedures.specs.Procedures.{found_at, keep, asked_from, asked_at}
use Rattle.judge_findings.specs.Listed.{finding, listed_at, listed_from}
use Rattle.judge_asked.specs.Asked.{most, padded, asked_row}
use Rattle.judge_marks.specs.Marks.{bit, pushed, mark_by, mark_of, marks_of, ones, marked, marked_at, marked_from}
use Rattle.judge_asked.proofs.Table.{asked_few, padded_length}

-- numbers of at most k digits are below this
power : ℕ → ℕ
power zero = 1
power (suc k) = 2 * power k

rises : (j k : ℕ) → power k ≤ power (j + k)
unfolding power
rises zero k =
    let e : zero + k ≡ k = omega arith in
    rw e (omega arith)
rises (suc j) k =
    let e : suc j + k ≡ suc (j + k) = omega arith in
    rw e (omega (arith, rises j k))

few_digits : (k : ℕ) → k ≤ 61 → power k ≤ 2305843009213693952
unfolding power
few_digits k h =
    let e : 61 - k + k ≡ 61 = omega arith in
    rw e at (rises (61 - k) k)

digit_small : (b : Bool) → bit b ≤ 1
digit_small true = omega arith
digit_small false = omega arith

pushed_is : (m : ℕ) (b : Bool) → m < 4611686018427387904 → pushed m b ≡ 2 * m + bit b
unfolding pushed
pushed_is m b h = rw (lt-ltb m 4611686018427387904 h)

is_one : (t : Bool) → eqb (bit t) 1 ≡ t
is_one true = refl
is_one false = refl

none_marked : (d : Draft) (n : ℕ) (ps : List ℕ) → marked d n ps 0 ≡ []
unfolding marked
none_marked d n [] = refl
none_marked d n (p ∷ ps) = none_marked d n ps

-- zeros behind the procedures tell of nothing
padded_told : (d : Draft) (n k : ℕ) (ps : List ℕ) (m : ℕ) → length ps ≤ k → m < power (length ps) → marked d n (padded k ps) m ≡ marked d n ps m
unfolding marked padded power
padded_told d n zero [] m h g = refl
padded_told d n zero (p ∷ ps) m h g = absurd (omega arith)
padded_told d n (suc k) [] m h g =
    let z : m ≡ 0 = omega arith in
    rw z (none_marked d n (padded k []))
padded_told d n (suc k) (p ∷ ps) m h g = rw (padded_told d n k ps (m / 2) (omega arith) (omega arith))

module _ (b : ℕ → ℕ → Bool) (n : ℕ) where
  -- few digits make a small number
  small : (ps : List ℕ) → length ps ≤ 61 → mark_by b n ps < power (length ps)
  unfolding mark_by power
  small [] h = omega arith
  small (p ∷ ps) h =
      let i = small ps (omega arith) in
      let j = few_digits (length ps) (omega arith) in
      let e = pushed_is (mark_by b n ps) (b n p) (omega arith) in
      omega (arith, e, digit_small (b n p))

  module _ (p : ℕ) (ps : List ℕ) (h : length (p ∷ ps) ≤ 61) where
    by_is : mark_by b n (p ∷ ps) ≡ 2 * mark_by b n ps + bit (b n p)
    unfolding mark_by
    by_is =
        let i = small ps (omega arith) in
        let j = few_digits (length ps) (omega arith) in
        pushed_is (mark_by b n ps) (b n p) (omega arith)

    -- the lowest digit, and the others
    lowest : mark_by b n (p ∷ ps) % 2 ≡ bit (b n p)
    lowest = omega (arith, by_is, digit_small (b n p))

    others : mark_by b n (p ∷ ps) / 2 ≡ mark_by b n ps
    others = omega (arith, by_is, digit_small (b n p))

  -- ---- of these procedures the broken ones
  listed_by : Draft → List ℕ → List Finding
  listed_by d [] = []
  listed_by d (p ∷ ps) = pick (b n p) (finding d n p ∷ listed_by d ps) (listed_by d ps)

  told : (d : Draft) (ps : List ℕ) → length ps ≤ 61 → marked d n ps (mark_by b n ps) ≡ listed_by d ps
  unfolding marked listed_by
  told d [] h = refl
  told d (p ∷ ps) h = rw (lowest p ps h, others p ps h, is_one (b n p), told d ps (omega arith))

  -- what is not asked is not broken
  asked_listed : (d : Draft) (r : ℕ) → ((p : ℕ) → found_at p r ≡ false → b n p ≡ false) → (m p : ℕ) → listed_by d (asked_from r p m) ≡ listed_at d b n p m
  unfolding asked_from listed_at listed_by
  asked_listed d r q zero p = refl
  asked_listed d r q (suc m) p = go (found_at p r) refl (asked_listed d r q m (p + 1))
    where
      go : (t : Bool) → found_at p r ≡ t → listed_by d (asked_from r (p + 1) m) ≡ listed_at d b n (p + 1) m → listed_by d (keep t p (asked_from r (p + 1) m)) ≡ pick (b n p) (finding d n p ∷ listed_at d b n (p + 1) m) (listed_at d b n (p + 1) m)
      go true e f = rw f
      go false e f = rw (q p e) f

  -- so the mark tells of all procedures up to the last, whatever its number
  pub mark_told : (d : Draft) → ((p : ℕ) → found_at p (role d n) ≡ false → b n p ≡ false) → marked_at d n (mark_of d b n) ≡ listed_at d b n 1 last_procedure
  unfolding marked_at mark_of asked_at
  mark_told d q =
      let f : length (asked_at (role d n)) ≤ most = asked_few (role d n) in
      padded_told d n most (asked_at (role d n)) (mark_by b n (asked_at (role d n))) f (small (asked_at (role d n)) (omega arith))
      ∙ (told d (asked_at (role d n)) (omega arith) ∙ asked_listed d (role d n) q last_procedure 1)

-- the records of all marks are those that are listed
pub marks_told : (d : Draft) (b : ℕ → ℕ → Bool) → ((n p : ℕ) → found_at p (role d n) ≡ false → b n p ≡ false) → (k n : ℕ) → marked_from d n (marks_of d b n k) ≡ listed_from d b n k
unfolding marked_from marks_of listed_from
marks_told d b q zero n = refl
marks_told d b q (suc k) n = rw (mark_told b n d (q n), marks_told d b q k (n + 1))

-- ---- counting
ones_told : (d : Draft) (n : ℕ) (ps : List ℕ) (m : ℕ) → ones (length ps) m ≡ length (marked d n ps m)
unfolding ones marked
ones_told d n [] m = refl
ones_told d n (p ∷ ps) m = go (m % 2) (omega arith) (ones_told d n ps (m / 2))
  where
    go : (x : ℕ) → x < 2 → ones (length ps) (m / 2) ≡ length (marked d n ps (m / 2)) → x + ones (length ps) (m / 2) ≡ length (pick (eqb x 1) (finding d n p ∷ marked d n ps (m / 2)) (marked d n ps (m / 2)))
    go zero h e = omega (arith, e)
    go (suc zero) h e = omega (arith, e)
    go (suc (suc x)) h e = absurd (omega arith)

pub ones_marked : (d : Draft) (n m : ℕ) → ones most m ≡ length (marked_at d n m)
unfolding marked_at
ones_marked d n m = rw (padded_length most (asked_at (role d n))) at (ones_told d n (asked_row (role d n)) m)

pub no_ones : (k : ℕ) → ones k 0 ≡ 0
unfolding ones
no_ones zero = refl
no_ones (suc k) = omega (arith, no_ones k)

pub ones_few : (k m : ℕ) → ones k m ≤ k
unfolding ones
ones_few zero m = omega arith
ones_few (suc k) m = omega (arith, ones_few k (m / 2))

pub nothing_marked : (d : Draft) (n : ℕ) (ps : List ℕ) (m : ℕ) → m ≡ 0 → marked d n ps m ≡ []
nothing_marked d n ps m e = rw e (none_marked d n ps)
