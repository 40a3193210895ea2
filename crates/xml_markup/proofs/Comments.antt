-- The walk along a comment, by what the loop knows; and where a comment ends, for callers.
-- Assumes nothing.
use Rattle.std.specs.Prelude.{None, Some}
use mathlib.Core.Path.{◌≡◌, sym, ◌∙◌, subst}
use mathlib.Core.Bool.{true, false}
use mathlib.Core.List.{List}
use Prim.Native.Nat.{ℕ, ◌+◌, ◌<◌, ◌≤◌, ◌^◌}
use Prim.Native.Char.{code}
use native.Mathlib.Omega.{arith}
use borrow.Author.Tests.{eq-eqb, ne_eqb, eqb-true}
use lib.Dec.{eqb}
use lib.ListN.{length, get_or}
use mir.Val.{Fits}
use mir.Syntax.{w64}
use Rattle.text_scan.specs.Choice.{◌and◌}
use Rattle.text_scan.specs.Bytes.{text}
use Rattle.text_scan.specs.Lists.{stands}
use Rattle.text_scan.specs.Walk.{from}
use Rattle.text_scan.proofs.Tests.{pick_case, and_false}
use Rattle.text_scan.proofs.Within.{there}
use Rattle.text_scan.proofs.Lists.{text_fits}
use Rattle.text_scan.proofs.Ending.{Within, DoneWithin}
use Rattle.text_scan.proofs.Walk as walks
use Rattle.text_scan.proofs.Walk.{further}
use Rattle.xml_markup.specs.Comments.{comment_step, comment_end}

-- the comment's end, told from its start, is the end of the walk from i
abbrev pub InComment : List ℕ → ℕ → ℕ → Type 0
InComment s at i = comment_end s at ≡ from (comment_step s) None (length s) i

module _ (s : List ℕ) (at : ℕ) where
  pub comment_opens : stands (text "<!--") s at ≡ true → InComment s at (at + 4)
  unfolding comment_end
  comment_opens e = rw e

  pub comment_fits : length s < 2 ^ 64 → stands (text "<!--") s at ≡ true → Fits w64 (at + 4)
  comment_fits l e = omega (arith, text_fits (text "<!--") s at (omega arith) e)

  pub comment_none : stands (text "<!--") s at ≡ false → None ≡ comment_end s at
  unfolding comment_end
  comment_none e = rw e

  module _ (i : ℕ) (l : InComment s at i) where
    pub comment_unfinished : length s ≤ i → None ≡ comment_end s at
    comment_unfinished h = sym (l ∙ walks.ends (comment_step s) None (length s) i h)

    module _ (h : i < length s) where
      pub comment_other : (get_or s i 0 ≡ code "-" → ⊥) → InComment s at (i + 1)
      unfolding comment_step
      comment_other a = l ∙ further (comment_step s) None (length s) i h (rw (ne_eqb (get_or s i 0) (code "-") a))

      module _ (b : ℕ) (eb : b ≡ get_or s (i + 1) 0) (a : get_or s i 0 ≡ code "-") where
        pub comment_hyphen : (b ≡ code "-" → ⊥) → InComment s at (i + 1)
        unfolding comment_step
        comment_hyphen x =
            l ∙ further (comment_step s) None (length s) i h (rw (← eb, ne_eqb b (code "-") x) (rw (and_false (eqb (get_or s i 0) (code "-")))))

        module _ (x : b ≡ code "-") (c : ℕ) (ec : c ≡ get_or s (i + 2) 0) where
          pub comment_closes : c ≡ code ">" → Some (i + 3) ≡ comment_end s at
          unfolding comment_step
          comment_closes y =
              sym (l ∙ walks.stops (comment_step s) None (length s) i (Some (i + 3)) h (rw (← eb, ← ec, eq-eqb (get_or s i 0) 45 a, eq-eqb b 45 x, eq-eqb c 62 y)))

          pub comment_malformed : (c ≡ code ">" → ⊥) → None ≡ comment_end s at
          unfolding comment_step
          comment_malformed y =
              sym (l ∙ walks.stops (comment_step s) None (length s) i None h (rw (← eb, ← ec, eq-eqb (get_or s i 0) 45 a, eq-eqb b 45 x, ne_eqb c 62 y)))

  -- ---- bounds
  step_within : (i : ℕ) → at ≤ i → DoneWithin at (length s) (comment_step s i)
  unfolding comment_step
  step_within i h =
      pick_case (DoneWithin at (length s)) (eqb (get_or s i 0) 45 and eqb (get_or s (i + 1) 0) 45) _ _
      (λ _. pick_case (DoneWithin at (length s)) (eqb (get_or s (i + 2) 0) 62) _ _
      (λ e. omega (arith, there s (i + 2) 62 (omega arith) (eqb-true (get_or s (i + 2) 0) 62 e))) (λ _. tt))
      (λ _. tt)

  pub comment_within : Within at (length s) (comment_end s at)
  unfolding comment_end
  comment_within =
      pick_case (Within at (length s)) (stands (text "<!--") s at) _ _
      (λ _. walks.keeps (comment_step s) None (Within at (length s)) at (length s) (λ i r h g e. subst (DoneWithin at (length s)) e (step_within i h)) tt (at + 4) (omega arith))
      (λ _. tt)
