-- The walks along a value and along text, by what the loops know, and where they end.
-- Assumes nothing.
use Rattle.std.specs.Prelude.{Option, None, Some, ℕ}
use mathlib.Core.Path.{◌≡◌, refl, sym, ◌∙◌, ap}
use mathlib.Core.Bool.{Bool, true, false}
use mathlib.Core.List.{List}
use Prim.Native.Nat.{ℕ, ◌+◌, ◌-◌, ◌<◌, ◌≤◌, ◌^◌}
use Prim.Native.Char.{code}
use native.Mathlib.Omega.{arith}
use borrow.Author.Tests.{eq-eqb, ne_eqb}
use lib.ListN.{length, get_or}
use mir.Val.{Fits}
use mir.Syntax.{w64}
use Rattle.text_scan.specs.Bytes.{text}
use Rattle.text_scan.specs.Lists.{begins, stands}
use Rattle.text_scan.specs.Walk.{Next, done, from}
use Rattle.text_scan.proofs.Within.{drop_here}
use Rattle.text_scan.proofs.Walk as walks
use Rattle.text_scan.proofs.Walk.{further}
use Rattle.xml_references.specs.declared.Reference.{Reference}
use Rattle.xml_references.specs.References.{reference_at}
use Rattle.xml_references.specs.Runs.{behind, value_step, value_end, text_step, text_end}
use Rattle.xml_references.proofs.Widths.{reference_least, reference_fits}

module _ (s : List ℕ) (i : ℕ) (found : Reference) (x : Option Reference) (ex : x ≡ reference_at s i) (is : x ≡ Some found) where
  past : (f : ℕ → Next (Option ℕ)) (e : Option ℕ) → f i ≡ behind (reference_at s i) → from f e (length s) i ≡ from f e (length s) (i + found.width)
  past f e q =
      let g : 4 ≤ found.width = reference_least s i found.width found.character (sym ex ∙ is) in
      let a : i + 1 + (found.width - 1) ≡ i + found.width = omega arith in
      rw a at (walks.goes f e (length s) i (found.width - 1) (omega (arith, reference_fits s i found.width found.character (sym ex ∙ is))) (q ∙ ap behind (sym ex ∙ is)))

  -- a reference ends within, and is behind its start
  pub jump_room : length s < 2 ^ 64 → Fits w64 (i + found.width)
  jump_room l = omega (arith, reference_fits s i found.width found.character (sym ex ∙ is))

  pub jump_falls : length s - (i + found.width) < length s - i
  jump_falls = omega (arith, reference_fits s i found.width found.character (sym ex ∙ is), reference_least s i found.width found.character (sym ex ∙ is))

-- ---- a value
abbrev pub InValue : List ℕ → ℕ → ℕ → ℕ → Type 0
InValue s q at i = value_end s q at ≡ from (value_step s q) None (length s) i

pub value_start_lem : (s : List ℕ) (q at i : ℕ) → value_end s q at ≡ value_end s q i → InValue s q at i
unfolding value_end
value_start_lem s q at i e = e

module _ (s : List ℕ) (q at i : ℕ) (l : InValue s q at i) where
  pub value_out : length s ≤ i → None ≡ value_end s q at
  value_out h = sym (l ∙ walks.ends (value_step s q) None (length s) i h)

  module _ (h : i < length s) where
    stop : (r : Option ℕ) → value_step s q i ≡ done r → r ≡ value_end s q at
    stop r e = sym (l ∙ walks.stops (value_step s q) None (length s) i r h e)

    pub value_quote : get_or s i 0 ≡ q → Some i ≡ value_end s q at
    unfolding value_step
    value_quote a = stop (Some i) (rw (eq-eqb (get_or s i 0) q a))

    module _ (a : get_or s i 0 ≡ q → ⊥) where
      pub value_less : get_or s i 0 ≡ code "<" → None ≡ value_end s q at
      unfolding value_step
      value_less b = stop None (rw (ne_eqb (get_or s i 0) q a, eq-eqb (get_or s i 0) (code "<") b))

      module _ (b : get_or s i 0 ≡ code "<" → ⊥) where
        pub value_other : (get_or s i 0 ≡ code "&" → ⊥) → InValue s q at (i + 1)
        unfolding value_step
        value_other c =
            l ∙ further (value_step s q) None (length s) i h (rw (ne_eqb (get_or s i 0) q a, ne_eqb (get_or s i 0) (code "<") b, ne_eqb (get_or s i 0) (code "&") c))

        module _ (d : get_or s i 0 ≡ code "&") (x : Option Reference) (ex : x ≡ reference_at s i) where
          value_at : value_step s q i ≡ behind (reference_at s i)
          unfolding value_step
          value_at = rw (ne_eqb (get_or s i 0) q a, ne_eqb (get_or s i 0) (code "<") b, eq-eqb (get_or s i 0) (code "&") d)

          pub value_bad : x ≡ None → None ≡ value_end s q at
          value_bad z = stop None (value_at ∙ ap behind (sym ex ∙ z))

          pub value_past : (found : Reference) → x ≡ Some found → InValue s q at (i + found.width)
          value_past found z = l ∙ past s i found x ex z (value_step s q) None value_at

    -- a byte above the quote and '&'
    module _ (high : ℕ) (g : high < get_or s i 0) (m : q ≤ high) (n : 38 ≤ high) where
      pub high_less : get_or s i 0 ≡ code "<" → None ≡ value_end s q at
      high_less = value_less (λ z. omega arith)

      pub high_other : (get_or s i 0 ≡ code "<" → ⊥) → InValue s q at (i + 1)
      high_other b = value_other (λ z. omega arith) b (λ z. omega arith)

pub value_empty : (s : List ℕ) (q at : ℕ) → at < length s → get_or s at 0 ≡ q → Some at ≡ value_end s q at
value_empty s q at = value_quote s q at at (value_start_lem s q at at refl)

-- ---- text
abbrev pub InText : List ℕ → ℕ → ℕ → Type 0
InText s at i = text_end s at ≡ from (text_step s) (Some (length s)) (length s) i

pub text_start : (s : List ℕ) (at : ℕ) → InText s at at
unfolding text_end
text_start s at = refl

-- "]]>" begins with ']'
no_bracket : (s : List ℕ) (i : ℕ) → i < length s → (get_or s i 0 ≡ code "]" → ⊥) → stands (text "]]>") s i ≡ false
unfolding begins
no_bracket s i h a = rw (drop_here s i h, ne_eqb (get_or s i 0) (code "]") a)

module _ (s : List ℕ) (at i : ℕ) (l : InText s at i) where
  pub text_out : length s ≤ i → Some (length s) ≡ text_end s at
  text_out h = sym (l ∙ walks.ends (text_step s) (Some (length s)) (length s) i h)

  module _ (h : i < length s) where
    halt : (r : Option ℕ) → text_step s i ≡ done r → r ≡ text_end s at
    halt r e = sym (l ∙ walks.stops (text_step s) (Some (length s)) (length s) i r h e)

    pub text_less : get_or s i 0 ≡ code "<" → Some i ≡ text_end s at
    unfolding text_step
    text_less a = halt (Some i) (rw (eq-eqb (get_or s i 0) (code "<") a))

    module _ (a : get_or s i 0 ≡ code "<" → ⊥) where
      module _ (t : Bool) (et : t ≡ stands (text "]]>") s i) where
        pub text_closes : t ≡ true → None ≡ text_end s at
        unfolding text_step
        text_closes b = halt None (rw (ne_eqb (get_or s i 0) (code "<") a, ← et, b))

        pub text_bracket : get_or s i 0 ≡ code "]" → t ≡ false → InText s at (i + 1)
        unfolding text_step
        text_bracket k b =
            l ∙ further (text_step s) (Some (length s)) (length s) i h (rw (ne_eqb (get_or s i 0) (code "<") a, ← et, b, ne_eqb (get_or s i 0) (code "&") (λ z. omega arith)))

      module _ (k : get_or s i 0 ≡ code "]" → ⊥) where
        pub text_other : (get_or s i 0 ≡ code "&" → ⊥) → InText s at (i + 1)
        unfolding text_step
        text_other c =
            l ∙ further (text_step s) (Some (length s)) (length s) i h (rw (ne_eqb (get_or s i 0) (code "<") a, no_bracket s i h k, ne_eqb (get_or s i 0) (code "&") c))

        module _ (d : get_or s i 0 ≡ code "&") (x : Option Reference) (ex : x ≡ reference_at s i) where
          text_at : text_step s i ≡ behind (reference_at s i)
          unfolding text_step
          text_at = rw (ne_eqb (get_or s i 0) (code "<") a, no_bracket s i h k, eq-eqb (get_or s i 0) (code "&") d)

          pub text_bad : x ≡ None → None ≡ text_end s at
          text_bad z = halt None (text_at ∙ ap behind (sym ex ∙ z))

          pub text_past : (found : Reference) → x ≡ Some found → InText s at (i + found.width)
          text_past found z = l ∙ past s i found x ex z (text_step s) (Some (length s)) text_at
