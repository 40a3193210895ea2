-- The word that is a name, by the branches of the loop over them.
-- Assumes nothing.
use mathlib.Core.Path.{◌≡◌, refl, sym, ◌∙◌}
use mathlib.Core.Bool.{Bool, true, false}
use mathlib.Core.List.{List}
use Prim.Native.Nat.{ℕ, ◌+◌, ◌-◌, ◌*◌, ◌<◌, ◌≤◌, ◌^◌}
use native.Mathlib.Nat.{zero-add}
use native.Mathlib.Omega.{arith}
use lib.ListN.{length, take, drop, get_or, drop_of_length-le, get_or-eq_default}
use mir.Val.{Fits}
use mir.Syntax.{w64}
use Rattle.text_scan.proofs.Within.{drop_here}
use Rattle.text_facts.specs.Strings.{equal}
use Rattle.judge_paths.specs.Roles.{Unknown, Unlisted}
use Rattle.judge_paths.specs.Words.{span_of, worded_from, child_in}

module _ (words lengths roles name : List ℕ) where
  -- the answer from the front is the answer from here, and the words from here on are the rest of the text
  pub record Looked (at number : ℕ) : Type 0 where
    pub same : child_in words lengths roles name ≡ worded_from words roles name at number (drop number lengths)
    pub span : at + span_of (drop number lengths) ≡ length words

  pub looked_none : span_of lengths ≡ length words → Looked 0 0
  unfolding child_in
  looked_none e = record { same = refl; span = zero-add (span_of lengths) ∙ e }

  module _ (at number : ℕ) (l : Looked at number) where
    pub looked_last : length lengths ≤ number → Unlisted ≡ child_in words lengths roles name
    unfolding worded_from
    looked_last h = sym (l.same ∙ rw (drop_of_length-le lengths h))

    module _ (h : number < length lengths) where
      left : at + (get_or lengths number 0 + 1 + span_of (drop (number + 1) lengths)) ≡ length words
      unfolding span_of
      left = rw (drop_here lengths number h) at l.span

      pub word_ends : at + get_or lengths number 0 ≤ length words
      word_ends = omega (arith, left)

      pub word_fits : length words * 1 < 2 ^ 63 → Fits w64 (at + get_or lengths number 0)
      word_fits i = omega (arith, left)

      pub after_fits : length words * 1 < 2 ^ 63 → Fits w64 (at + get_or lengths number 0 + 1)
      after_fits i = omega (arith, left)

      module _ (t : Bool) (f : t ≡ equal name (take (at + get_or lengths number 0 - at) (drop at words))) where
        width : at + get_or lengths number 0 - at ≡ get_or lengths number 0
        width = omega arith

        this_word : t ≡ true → child_in words lengths roles name ≡ get_or roles number 0
        unfolding worded_from
        this_word g = l.same ∙ rw (drop_here lengths number h, ← (rw width at f), g)

        pub looked_is : t ≡ true → number < length roles → get_or roles number 0 ≡ child_in words lengths roles name
        looked_is g _ = sym (this_word g)

        pub looked_past : t ≡ true → length roles ≤ number → Unknown ≡ child_in words lengths roles name
        looked_past g i = sym (this_word g ∙ get_or-eq_default roles 0 i)

        pub looked_next : t ≡ false → Looked (at + get_or lengths number 0 + 1) (number + 1)
        unfolding worded_from
        looked_next g =
            record {
              same = l.same ∙ rw (drop_here lengths number h, ← (rw width at f), g);
              span = omega (arith, left);
            }
