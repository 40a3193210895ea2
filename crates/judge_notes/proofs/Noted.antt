-- The notes: how many they are, the number at a place, and what storing those of one element more makes of a run.
-- Assumes nothing.
use mathlib.Core.Path.{◌≡◌, refl, sym, ◌∙◌, ap}
use mathlib.Core.Bool.{Bool, true, false}
use mathlib.Core.List.{List, [], ◌∷◌, ◌++◌}
use Prim.Native.Nat.{ℕ, zero, suc, ◌+◌, ◌-◌, ◌*◌, ◌/◌, ◌<◌, ◌≤◌}
use native.Mathlib.Numerals.{add-one}
use native.Mathlib.Nat.{zero-add}
use native.Mathlib.Omega.{arith}
use lib.ListN.{length, take, drop, get_or, set}
use lib.Dec.{leb}
use borrow.Author.Tests.{le-leb, lt-leb}
use lib.Seq.{paste-suc, take_all, take-append_seam, get_or-take, take_at, length-take-le}
use Rattle.xml_steps.specs.Reading.{parent_of, first_of, after_of}
use Rattle.judge_paths.specs.declared.DocumentType.{DocumentType}
use Rattle.judge_paths.specs.Paths.{role_of}
use Rattle.judge_notes.specs.Notes.{notes_from, notes_of, noted}

module _ (s rows : List ℕ) (t : DocumentType) where
  length_from : (m k : ℕ) → length (notes_from s rows t k m) ≡ 4 * m
  unfolding notes_from
  length_from zero k = omega arith
  length_from (suc m) k = omega (arith, length_from m (k + 1))

  -- the four numbers of an element
  abbrev Note : List ℕ → ℕ → ℕ → Type 0
  Note l i k =
      (get_or l i 0 ≡ role_of s rows t k) × (get_or l (i + 1) 0 ≡ parent_of rows k) × (get_or l (i + 2) 0 ≡ first_of rows k) × (get_or l (i + 3) 0 ≡ after_of rows k)

  at_from : (m k i : ℕ) → i < m → Note (notes_from s rows t k m) (4 * i) (k + i)
  unfolding notes_from
  at_from zero k i h = absurd (omega arith)
  at_from (suc m) k zero h =
      let e : k + 0 ≡ k = omega arith in
      rw e (refl, refl, refl, refl)
  at_from (suc m) k (suc i) h =
      let e : k + suc i ≡ k + 1 + i = omega arith in
      let a : 4 * suc i ≡ suc (suc (suc (suc (4 * i)))) = omega arith in
      let b : 4 * suc i + 1 ≡ suc (suc (suc (suc (4 * i + 1)))) = omega arith in
      let c : 4 * suc i + 2 ≡ suc (suc (suc (suc (4 * i + 2)))) = omega arith in
      let d : 4 * suc i + 3 ≡ suc (suc (suc (suc (4 * i + 3)))) = omega arith in
      let r = at_from m (k + 1) i (omega arith) in
      (rw (e, a) r.0, rw (e, b) r.1, rw (e, c) r.2, rw (e, d) r.3)

  pub notes_length : length (notes_of s rows t) ≡ 4 * (length rows / 4)
  unfolding notes_of
  notes_length = length_from (length rows / 4) 0

  note_at : (k : ℕ) → k < length rows / 4 → Note (notes_of s rows t) (4 * k) k
  unfolding notes_of
  note_at k h =
      let e : 0 + k ≡ k = zero-add k in
      rw e at (at_from (length rows / 4) 0 k h)

  module _ (k : ℕ) (h : k < length rows / 4) where
    pub note_role : get_or (notes_of s rows t) (4 * k) 0 ≡ role_of s rows t k
    note_role = (note_at k h).0

    pub note_parent : get_or (notes_of s rows t) (4 * k + 1) 0 ≡ parent_of rows k
    note_parent = (note_at k h).1

    pub note_first : get_or (notes_of s rows t) (4 * k + 2) 0 ≡ first_of rows k
    note_first = (note_at k h).2

    pub note_after : get_or (notes_of s rows t) (4 * k + 3) 0 ≡ after_of rows k
    note_after = (note_at k h).3

  -- a number that is stored says the role
  pub role_stored : (stored : List ℕ) → length stored ≤ 4 * (length rows / 4) → stored ≡ take (length stored) (notes_of s rows t) → (n : ℕ) → n < length stored / 4 → get_or stored (4 * n) 0 ≡ role_of s rows t n
  role_stored stored l e n h = ap (λ (x : List ℕ). get_or x (4 * n) 0) e ∙ get_or-take (length stored) (notes_of s rows t) (4 * n) 0 (omega arith) ∙ note_role n (omega arith)

  -- ---- the first i numbers are stored, and the rest is as it was
  abbrev pub Stored : List ℕ → List ℕ → ℕ → Type 0
  Stored old new i = new ≡ take i (notes_of s rows t) ++ drop i old

  one_more : (old new : List ℕ) (i : ℕ) → Stored old new i → i < 4 * (length rows / 4) → i < length old → (x : ℕ) → x ≡ get_or (notes_of s rows t) i 0 → Stored old (set new i x) (i + 1)
  one_more old new i e h g x f =
      rw (f, e, add-one) (simp zero-add at (paste-suc old 0 (notes_of s rows t) i 0 (omega arith) (omega (arith, notes_length))))

  module _ (old new : List ℕ) (k : ℕ) (e : Stored old new (4 * k)) where
    pub stored_more : k < length rows / 4 → 4 * (length rows / 4) ≤ length old → (x : ℕ) → x ≡ role_of s rows t k → (next : List ℕ) → next ≡ set (set (set (set new (4 * k) x) (4 * k + 1) (get_or rows (4 * k + 1) 0)) (4 * k + 2) (get_or rows (4 * k + 2) 0)) (4 * k + 3) (get_or rows (4 * k + 3) 0) → Stored old next (4 * (k + 1))
    stored_more h l x f next q =
        let z : 4 * (k + 1) ≡ 4 * k + 3 + 1 = omega arith in
        let a : Stored old (set new (4 * k) x) (4 * k + 1) = one_more old new (4 * k) e (omega arith) (omega arith) x (f ∙ sym (note_role k h)) in
        let y : 4 * k + 1 + 1 ≡ 4 * k + 2 = omega arith in
        let b : Stored old (set (set new (4 * k) x) (4 * k + 1) (get_or rows (4 * k + 1) 0)) (4 * k + 2) = rw y at (one_more old _ (4 * k + 1) a (omega arith) (omega arith) _ (sym (note_parent k h))) in
        let w : 4 * k + 2 + 1 ≡ 4 * k + 3 = omega arith in
        let c : Stored old (set (set (set new (4 * k) x) (4 * k + 1) (get_or rows (4 * k + 1) 0)) (4 * k + 2) (get_or rows (4 * k + 2) 0)) (4 * k + 3) = rw w at (one_more old _ (4 * k + 2) b (omega arith) (omega arith) _ (sym (note_first k h))) in
        rw (q, z) (one_more old _ (4 * k + 3) c (omega arith) (omega arith) _ (sym (note_after k h)))

    -- those numbers, lent
    module _ (h : k < length rows / 4) (l : 4 * (length rows / 4) ≤ length old) (w : length new ≡ length old) where
      pub front_length : length (take (4 * k - 0) new) ≤ 4 * (length rows / 4)
      front_length = omega (arith, length-take-le (4 * k - 0) new (omega arith))

      pub front_stored : take (4 * k - 0) new ≡ take (length (take (4 * k - 0) new)) (notes_of s rows t)
      front_stored =
          let z : 4 * k - 0 ≡ 4 * k = omega arith in
          let f : take (4 * k) new ≡ take (4 * k) (notes_of s rows t) = rw e (take_at (take (4 * k) (notes_of s rows t)) (drop (4 * k) old) (4 * k) (length-take-le (4 * k) (notes_of s rows t) (omega (arith, notes_length)))) in
          rw (z, length-take-le (4 * k) new (omega arith)) f

    pub stored_all : (n : ℕ) → n ≡ length rows / 4 → k ≤ n → n ≤ k → new ≡ notes_of s rows t ++ drop (4 * (length rows / 4)) old
    stored_all n g h i =
        let q : k ≡ length rows / 4 = omega arith in
        (rw q at e) ∙ rw (take_all (4 * (length rows / 4)) (notes_of s rows t) (omega (arith, notes_length)))

  -- ---- in a run with room, or not
  module _ (old new : List ℕ) where
    pub noted_there : 4 * (length rows / 4) ≤ length old → new ≡ notes_of s rows t ++ drop (4 * (length rows / 4)) old → new ≡ noted s rows t old
    unfolding noted
    noted_there h e = e ∙ rw (le-leb (4 * (length rows / 4)) (length old) h)

    pub not_noted : length old < 4 * (length rows / 4) → old ≡ noted s rows t old
    unfolding noted
    not_noted h = rw (lt-leb (4 * (length rows / 4)) (length old) h)

    pub noted_front : 4 * (length rows / 4) ≤ length old → take (4 * (length rows / 4)) (noted s rows t old) ≡ notes_of s rows t
    unfolding noted
    noted_front h = rw (le-leb (4 * (length rows / 4)) (length old) h, ← notes_length) (take-append_seam (notes_of s rows t) (drop (length (notes_of s rows t)) old))
