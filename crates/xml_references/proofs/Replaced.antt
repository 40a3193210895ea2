-- What bytes say, piece by piece: behind a reference its character's bytes, else the byte itself; never more bytes than there were.
-- Assumes nothing.
use Rattle.std.specs.Prelude.{Option, None, Some}
use mathlib.Core.Path.{◌≡◌, refl, sym, ◌∙◌, ap}
use mathlib.Core.Bool.{true}
use mathlib.Core.List.{List, [], ◌∷◌, ◌++◌}
use Prim.Native.Nat.{ℕ, zero, suc, ◌+◌, ◌-◌, ◌<◌, ◌≤◌}
use Prim.Native.Char.{code}
use native.Mathlib.Omega.{arith}
use borrow.Author.Tests.{eq-eqb, ne_eqb}
use lib.ListN.{length, drop, get_or, length-append, length-take}
use lib.Seq.{drop-drop}
use Rattle.text_scan.specs.Choice.{◌and◌, not}
use Rattle.text_scan.specs.Lists.{every, begins}
use Rattle.text_scan.proofs.Tests.{never, and_right}
use Rattle.text_scan.proofs.Within.{drop_here}
use Rattle.text_encode.specs.Encode.{encoded}
use Rattle.xml_references.specs.declared.Reference.{Reference}
use Rattle.xml_references.specs.References.{entity_named, reference_of, reference_at}
use Rattle.xml_references.specs.Decoded.{replaced, is_plain, part, decoded}
use Rattle.xml_references.proofs.Widths.{reference_least, reference_fits, reference_room}
use Rattle.xml_references.specs.References.{refers}

-- only '&' begins a reference
plain : (x : ℕ) (xs : List ℕ) → (x ≡ code "&" → ⊥) → reference_of (x ∷ xs) ≡ None
unfolding begins entity_named reference_of
plain x xs h = rw (ne_eqb x (code "&") h)

-- to pass over k bytes is to be k further
passed : (k : ℕ) (xs : List ℕ) → replaced k xs ≡ replaced 0 (drop k xs)
unfolding replaced
passed zero xs = refl
passed (suc k) [] = refl
passed (suc k) (x ∷ xs) = passed k xs

-- ---- the first piece
kept : (x : ℕ) (xs : List ℕ) → reference_of (x ∷ xs) ≡ None → replaced 0 (x ∷ xs) ≡ x ∷ replaced 0 xs
unfolding replaced
kept x xs e = rw (e, replaced)

gone : (x : ℕ) (xs : List ℕ) (w c : ℕ) → reference_of (x ∷ xs) ≡ refers w c → replaced 0 (x ∷ xs) ≡ encoded c ++ replaced (w - 1) xs
unfolding replaced
gone x xs w c e = rw (e, replaced)

-- ---- the piece at a position
module _ (s : List ℕ) (i : ℕ) (h : i < length s) where
  pub byte_kept : reference_at s i ≡ None → replaced 0 (drop i s) ≡ get_or s i 0 ∷ replaced 0 (drop (i + 1) s)
  byte_kept e = rw (drop_here s i h) (kept (get_or s i 0) (drop (i + 1) s) (rw (drop_here s i h) at e))

  pub byte_plain : (get_or s i 0 ≡ code "&" → ⊥) → replaced 0 (drop i s) ≡ get_or s i 0 ∷ replaced 0 (drop (i + 1) s)
  byte_plain a = rw (drop_here s i h) (kept (get_or s i 0) (drop (i + 1) s) (plain (get_or s i 0) (drop (i + 1) s) a))

  pub reference_gone : (w c : ℕ) → reference_at s i ≡ refers w c → replaced 0 (drop i s) ≡ encoded c ++ replaced 0 (drop (i + w) s)
  reference_gone w c e =
      let g : 4 ≤ w = reference_least s i w c e in
      let a : i + 1 + (w - 1) ≡ i + w = omega arith in
      let b : replaced (w - 1) (drop (i + 1) s) ≡ replaced 0 (drop (i + w) s) = rw (passed (w - 1) (drop (i + 1) s), drop-drop (w - 1) (i + 1) s, a) in
      rw (drop_here s i h) (gone (get_or s i 0) (drop (i + 1) s) w c (rw (drop_here s i h) at e)) ∙ ap (λ r. encoded c ++ r) b

-- ---- never more bytes
shorter : (k : ℕ) (xs : List ℕ) → length (replaced k xs) ≤ length xs - k
unfolding replaced
shorter k [] = omega arith
shorter zero (x ∷ xs) = go (reference_of (x ∷ xs)) refl (shorter 0 xs) (λ w. shorter (w - 1) xs)
  where
    go : (r : Option Reference) → reference_of (x ∷ xs) ≡ r → length (replaced 0 xs) ≤ length xs - 0 → ((w : ℕ) → length (replaced (w - 1) xs) ≤ length xs - (w - 1)) → length (replaced 0 (x ∷ xs)) ≤ suc (length xs) - 0
    go (Some p) e h g =
        rw (gone x xs p.width p.character e)
        (omega (arith, length-append (encoded p.character) (replaced (p.width - 1) xs), g p.width, reference_least (x ∷ xs) 0 p.width p.character e, reference_fits (x ∷ xs) 0 p.width p.character e, reference_room (x ∷ xs) 0 p.width p.character e))
    go None e h g = rw (kept x xs e) (omega arith)
shorter (suc k) (x ∷ xs) = omega (arith, shorter k xs)

pub replaced_most : (xs : List ℕ) → length (replaced 0 xs) ≤ length xs
replaced_most xs = omega (arith, shorter 0 xs)

pub decoded_most : (s : List ℕ) (a e : ℕ) → length (decoded s a e) ≤ e - a
decoded_most s a e = omega (arith, replaced_most (part s a e), length-take (e - a) (drop a s))

-- ---- bytes that are all plain say themselves
pub plain_same : (xs : List ℕ) → every is_plain xs ≡ true → replaced 0 xs ≡ xs
unfolding every replaced
plain_same [] e = refl
plain_same (x ∷ xs) e =
    kept x xs (plain x xs (λ q. never (sym e ∙ ap (λ t. not t and every is_plain xs) (eq-eqb x (code "&") q))))
    ∙ ap (λ r. x ∷ r) (plain_same xs (and_right (is_plain x) (every is_plain xs) e))
