-- The key of a row stands at its place: the fields in front of the bytes there are those of its line.
-- Assumes nothing.
use mathlib.Core.Path.{◌≡◌, refl, sym, ◌∙◌, ap}
use mathlib.Core.Bool.{Bool, true, false}
use mathlib.Core.List.{List, [], ◌∷◌}
use Prim.Native.Nat.{ℕ, zero, suc, ◌<◌, ◌≤◌, ◌^◌}
use native.Mathlib.Omega.{arith}
use borrow.Author.Tests.{eqb-true}
use lib.ListN.{length, drop}
use mir.Val.{Fits}
use mir.Syntax.{w32}
use Rattle.text_scan.specs.Choice.{pick, ◌or◌, not}
use Rattle.text_scan.proofs.Tests.{never}
use Rattle.table_lines.specs.Lines.{Row, other, is_tab, field, fields_of, line_at, front}
use Rattle.table_lines.proofs.Runs.{before}
use Rattle.table_lines.proofs.Fields.{first_more, later_more}
use Rattle.sort_compare.specs.Fields.{is_feed, front_field, after_field, shown, skip_place, fields_from, row_key}
use Rattle.sort_compare.specs.Keys.{key_at}
use Rattle.sort_compare.proofs.Skipping.{drop_skip, skip_low}
use Rattle.table_index.specs.declared.Lookup.{Lookup}
use Rattle.table_index.specs.Indexed.{by_of, key_from, key_of, key_place}

-- ---- the fields in front of a byte string are those of its line
abbrev row_in : List ℕ → Row
row_in bs = fields_of (front (other 10) bs)

row_at : (s : List ℕ) (i : ℕ) → fields_of (line_at s i) ≡ row_in (drop i s)
row_at s i = ap fields_of (before (other 10) i (drop i s))

empty_row : (k : ℕ) → field ([] ∷ []) k ≡ []
empty_row zero = refl
empty_row (suc k) = refl

first : (bs : List ℕ) → field (row_in bs) 0 ≡ front_field true bs
unfolding fields_of front_field front
first [] = refl
first (b ∷ bs) = go (is_tab b) (is_feed b) refl (first bs)
  where
    go : (t u : Bool) → is_tab b ≡ t → field (row_in bs) 0 ≡ front_field true bs → field (fields_of (pick (not u) (b ∷ front (other 10) bs) [])) 0 ≡ pick (not (t or u)) (b ∷ front_field true bs) []
    go true true e q = refl
    go true false e q = rw e
    go false true e q = refl
    go false false e q = rw e (first_more b (row_in bs) ∙ ap (λ (f : List ℕ). b ∷ f) q)

later : (k : ℕ) (bs : List ℕ) → field (row_in bs) (suc k) ≡ field (row_in (after_field bs)) k
unfolding fields_of front after_field
later k [] = sym (empty_row k)
later k (b ∷ bs) = go (is_tab b) (is_feed b) refl refl (later k bs)
  where
    go : (t u : Bool) → is_tab b ≡ t → is_feed b ≡ u → field (row_in bs) (suc k) ≡ field (row_in (after_field bs)) k
        → field (fields_of (pick (not u) (b ∷ front (other 10) bs) [])) (suc k) ≡ field (row_in (pick t bs (pick u (b ∷ bs) (after_field bs)))) k
    go true true e f q = never (sym f ∙ rw (eqb-true b 9 e))
    go true false e f q = rw e
    go false true e f q = rw f (sym (empty_row k))
    go false false e f q = rw e (later_more b k (row_in bs) ∙ q)

-- what follows k fields
abbrev afters : ℕ → List ℕ → List ℕ
afters zero bs = bs
afters (suc k) bs = afters k (after_field bs)

field_in : (k : ℕ) (bs : List ℕ) → field (row_in bs) k ≡ front_field true (afters k bs)
field_in zero bs = first bs
field_in (suc k) bs = later k bs ∙ field_in k (after_field bs)

-- ---- the key of a row stands at its place
drop_four : (s : List ℕ) (i : ℕ) → drop (skip_place s (skip_place s (skip_place s (skip_place s i)))) s ≡ afters 4 (drop i s)
drop_four s i =
    let a = skip_place s i in
    let b = skip_place s a in
    let c = skip_place s b in
    rw (drop_skip s c, drop_skip s b, drop_skip s a, drop_skip s i)

pub row_key_lem : (q : Lookup) → (s : List ℕ) (i : ℕ) → key_at (by_of q) s (key_place q s i) ≡ key_of q (fields_of (line_at s i))
unfolding by_of key_of key_from key_place row_key fields_from shown
row_key_lem Lookup.Code s i = let bs = drop i s in rw (row_at s i, field_in 0 bs, field_in 1 bs, field_in 2 bs)
row_key_lem Lookup.Name s i = let bs = drop i s in rw (row_at s i, field_in 0 bs, field_in 1 bs)
row_key_lem Lookup.KeyElsewhere s i = rw (drop_four s i, row_at s i, field_in 4 (drop i s))

place_low : (q : Lookup) (s : List ℕ) (i : ℕ) → i ≤ length s → key_place q s i ≤ length s
unfolding key_place
place_low Lookup.Code s i h = h
place_low Lookup.Name s i h = h
place_low Lookup.KeyElsewhere s i h =
    let a = skip_place s i in
    let b = skip_place s a in
    skip_low s (skip_place s b) (skip_low s b (skip_low s a (skip_low s i h)))

pub place_fits : (q : Lookup) (s : List ℕ) (i p : ℕ) → p ≡ key_place q s i → i < length s → length s < 2 ^ 32 → Fits w32 p
place_fits q s i p e h g = omega (arith, place_low q s i (omega arith), e)
