-- The loop of `decode_at`: what is still to be stored, stored from here, makes what the whole stored from the start makes.
-- Assumes nothing.
use Rattle.std.specs.Prelude.{Option, Some, None}
use mathlib.Core.Path.{◌≡◌, sym, ◌∙◌, ap}
use mathlib.Core.List.{List, [], ◌∷◌, ◌++◌}
use Prim.Native.Nat.{ℕ, suc, ◌+◌, ◌-◌, ◌*◌, ◌<◌, ◌≤◌, ◌^◌}
use Prim.Native.Char.{code}
use native.Mathlib.Omega.{arith}
use lib.ListN.{length, take, drop, get_or, set, length-append, length-set, length-drop, drop_of_length-le}
use lib.Seq.{sets, length-sets, sets-eq, take_all, take-nil}
use mir.Val.{Fits}
use mir.Syntax.{w64}
use Rattle.text_scan.proofs.Within.{inside}
use Rattle.text_encode.specs.Encode.{encoded}
use Rattle.text_encode.specs.Places.{up_to}
use Rattle.text_encode.proofs.Stores.{among, behind, up_to_most, sets_up_to}
use Rattle.xml_references.specs.declared.Reference.{Reference}
use Rattle.xml_references.specs.References.{reference_at}
use Rattle.xml_references.specs.Decoded.{replaced, part, decoded}
use Rattle.xml_references.proofs.Replaced.{byte_kept, byte_plain, reference_gone, replaced_most, decoded_most}

-- one run of stores after another
pub sets_append : (xs ys l : List ℕ) (i : ℕ) → sets l i (xs ++ ys) ≡ sets (sets l i xs) (i + length xs) ys
sets_append [] ys l i =
    let a : i + 0 ≡ i = omega arith in
    rw a
sets_append (x ∷ xs) ys l i =
    let a : i + suc (length xs) ≡ suc i + length xs = omega arith in
    rw a (sets_append xs ys (set l i x) (suc i))

-- what is left to store at i
abbrev left : List ℕ → ℕ → List ℕ
left raw i = replaced 0 (drop i raw)

abbrev pub Wrote : List ℕ → List ℕ → ℕ → List ℕ → ℕ → ℕ → Type 0
Wrote raw out₀ start out n i =
    (sets out n (replaced 0 (drop i raw)) ≡ sets out₀ start (replaced 0 raw))
    × (n + length (replaced 0 (drop i raw)) ≡ start + length (replaced 0 raw))
    × (length out ≡ length out₀)

module _ (raw out₀ : List ℕ) (start : ℕ) (out : List ℕ) (n i : ℕ) (l : Wrote raw out₀ start out n i) where
  -- ---- a byte that is kept
  wrote : left raw i ≡ get_or raw i 0 ∷ left raw (i + 1) → (out' : List ℕ) → out' ≡ set out n (get_or raw i 0) → Wrote raw out₀ start out' (n + 1) (i + 1)
  wrote e out' g =
      let a : n + 1 ≡ suc n = omega arith in
      (rw (g, a) (ap (sets out n) (sym e) ∙ l.0), omega (arith, ap length e, l.1), ap length g ∙ length-set out n (get_or raw i 0) ∙ l.2)

  -- what was stored and what is left are no more than the raw bytes
  fits : (at : ℕ) → start ≡ up_to (length out₀) at → length out₀ * 1 < 2 ^ 63 → length raw * 1 < 2 ^ 63 → (k : ℕ) → k ≤ length (left raw i) → Fits w64 (n + k)
  fits at e h g k m = omega (arith, l.1, replaced_most raw, up_to_most (length out₀) at)

  module _ (h : i < length raw) (a : get_or raw i 0 ≡ code "&" → ⊥) where
    pub plain_wrote : (out' : List ℕ) → out' ≡ set out n (get_or raw i 0) → Wrote raw out₀ start out' (n + 1) (i + 1)
    plain_wrote = wrote (byte_plain raw i h a)

    pub plain_fits : (at : ℕ) → start ≡ up_to (length out₀) at → length out₀ * 1 < 2 ^ 63 → length raw * 1 < 2 ^ 63 → Fits w64 (n + 1)
    plain_fits at e q r = fits at e q r 1 (omega (arith, ap length (byte_plain raw i h a)))

  module _ (h : i < length raw) (x : Option Reference) (ex : x ≡ reference_at raw i) (z : x ≡ None) where
    pub kept_wrote : (out' : List ℕ) → out' ≡ set out n (get_or raw i 0) → Wrote raw out₀ start out' (n + 1) (i + 1)
    kept_wrote = wrote (byte_kept raw i h (sym ex ∙ z))

    pub kept_fits : (at : ℕ) → start ≡ up_to (length out₀) at → length out₀ * 1 < 2 ^ 63 → length raw * 1 < 2 ^ 63 → Fits w64 (n + 1)
    kept_fits at e q r = fits at e q r 1 (omega (arith, ap length (byte_kept raw i h (sym ex ∙ z))))

  -- ---- a reference that is replaced
  module _ (h : i < length raw) (x : Option Reference) (found : Reference) (ex : x ≡ reference_at raw i) (z : x ≡ Some found) where
    gone : left raw i ≡ encoded found.character ++ left raw (i + found.width)
    gone = reference_gone raw i h found.width found.character (sym ex ∙ z)

    sizes : length (left raw i) ≡ length (encoded found.character) + length (left raw (i + found.width))
    sizes = ap length gone ∙ length-append (encoded found.character) (left raw (i + found.width))

    module _ (k : ℕ) (ek : k ≡ length (encoded found.character)) where
      pub code_fits : (at : ℕ) → start ≡ up_to (length out₀) at → length out₀ * 1 < 2 ^ 63 → length raw * 1 < 2 ^ 63 → Fits w64 (n + k)
      code_fits at e q r = fits at e q r k (omega (arith, sizes))

      pub code_wrote : (out' : List ℕ) → out' ≡ sets out n (encoded found.character) → Wrote raw out₀ start out' (n + k) (i + found.width)
      code_wrote out' e =
          rw (ek, e) (sym (sets_append (encoded found.character) (left raw (i + found.width)) out n) ∙ ap (sets out n) (sym gone) ∙ l.0, omega (arith, sizes, l.1), length-sets out n (encoded found.character) ∙ l.2)

  -- ---- at the end
  module _ (h : length raw ≤ i) where
    nothing_left : left raw i ≡ []
    unfolding replaced
    nothing_left = rw (drop_of_length-le raw h)

    pub end_least : start ≤ n
    end_least = omega (arith, ap length nothing_left, l.1)

    pub end_count : n - start ≡ length (replaced 0 raw)
    end_count = omega (arith, ap length nothing_left, l.1)

    pub end_wrote : (at : ℕ) → start ≡ up_to (length out₀) at → out ≡ sets out₀ at (replaced 0 raw)
    end_wrote at e = ap (sets out n) (sym nothing_left) ∙ l.0 ∙ rw e (sets_up_to (replaced 0 raw) out₀ at)

-- ---- a part of s by any two places
module _ (s : List ℕ) (a e : ℕ) (end : ℕ) (ee : end ≡ up_to (length s) e) (start : ℕ) (es : start ≡ up_to end a) where
  pub part_ahead : start ≤ end
  part_ahead = rw es (up_to_most end a)

  pub part_inside : end ≤ length s
  part_inside = rw ee (up_to_most (length s) e)

  -- past its end there is nothing
  same_part : part s start end ≡ part s a e
  same_part =
      inside a end (λ h. rw (es ∙ sym (behind end a h)) (past h)) (λ h. rw (es ∙ sym (among end a h)) (ahead h))
    where
      nothing : (xs : List ℕ) (k : ℕ) → k ≡ 0 → take k xs ≡ []
      nothing xs k q = rw q

      past : end < a → part s end end ≡ part s a e
      past h =
          nothing (drop end s) (end - end) (omega arith)
          ∙ sym (inside e (length s) (λ g. let k : length s ≤ a = omega (arith, ee ∙ sym (behind (length s) e g)) in rw (drop_of_length-le s k) (take-nil (e - a)))
          (λ g. nothing (drop a s) (e - a) (omega (arith, ee ∙ sym (among (length s) e g)))))

      ahead : a ≤ end → part s a end ≡ part s a e
      ahead h =
          inside e (length s) (λ g. rw (ee ∙ sym (behind (length s) e g)) (take_all (length s - a) (drop a s) (omega (arith, length-drop a s)) ∙ sym (take_all (e - a) (drop a s) (omega (arith, length-drop a s)))))
          (λ g. rw (ee ∙ sym (among (length s) e g)))

  pub decoded_count : (r : ℕ) → r ≡ length (decoded s start end) → r ≡ length (decoded s a e)
  decoded_count r h = rw (← same_part) h

  pub decoded_stored : (out after : List ℕ) → after ≡ sets out 0 (decoded s start end) → after ≡ sets out 0 (decoded s a e)
  decoded_stored out after h = rw (← same_part) h

-- stores from the front on, where there is room
pub fronted : (s out out' : List ℕ) (a e r : ℕ) → e - a ≤ length out → (r ≡ length (decoded s a e)) × (out' ≡ sets out 0 (decoded s a e)) → (r ≡ length (decoded s a e)) × (out' ≡ decoded s a e ++ drop r out)
fronted s out out' a e r h p =
    let g : 0 + length (decoded s a e) ≡ r = omega (arith, p.0) in
    (p.0, p.1 ∙ sets-eq (decoded s a e) out 0 (omega (arith, decoded_most s a e)) ∙ rw g)
