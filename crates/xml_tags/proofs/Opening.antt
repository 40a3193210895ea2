-- A tag without fault, by the tests of the code: its first attributes decide whether there are too many.
-- Assumes nothing.
use Rattle.std.specs.Prelude.{is_err, Result, Ok, Err}
use Rattle.refusals.specs.declared.Reason.TheVariants.{Malformed}
use Rattle.refusals.specs.declared.Reason.{Reason}
use mathlib.Core.Path.{◌≡◌, refl, sym, ◌∙◌, ap}
use mathlib.Core.Bool.{Bool, true, false}
use mathlib.Core.List.{List}
use Prim.Native.Nat.{ℕ, ◌+◌, ◌-◌, ◌<◌, ◌≤◌}
use Prim.Native.Char.{code}
use borrow.Author.Tests.{eq-eqb, lt-ltb}
use lib.Dec.{ltb}
use lib.ListN.{length, get_or}
use Rattle.text_scan.specs.Choice.{◌or◌}
use Rattle.text_scan.proofs.Tests.{never, pick_case, or_true}
use Rattle.xml_reader.specs.Limits.{name_limit, attributes_limit}
use Rattle.xml_names.specs.ElementNames.{element_end}
use Rattle.xml_attributes.specs.declared.Tag.{Tag}
use Rattle.xml_attributes.specs.declared.Tag.TheVariants.{Start, Empty}
use Rattle.xml_attributes.specs.Chains.{items, ending}
use Rattle.xml_attributes.specs.Parts.{attributes, repeated}
use Rattle.xml_tags.specs.Tags.{past_limit, tag_answer, tag_to, tag_at, faultless, opening_at}
use Rattle.xml_tags.proofs.Judged.{no_tag, no_element}

-- ---- piece by piece
pub refused_plainly : (t : Result Tag Reason) (r : Bool) → r ≡ is_err t → r ≡ true → Err Malformed ≡ faultless t
refused_plainly (Ok tag) r e f = never (sym f ∙ e)
refused_plainly (Err k) r e f = refl

pub others_stay : (t : Result Tag Reason) (r : Bool) → r ≡ is_err t → r ≡ false → t ≡ faultless t
others_stay (Ok tag) r e f = refl
others_stay (Err k) r e f = never (sym e ∙ f)

module _ (s : List ℕ) (at b : ℕ) (eb : b ≡ get_or s at 0) where
  pub opens_nothing : (b ≡ code "<" → ⊥) → Err Malformed ≡ opening_at s at
  opens_nothing f = ap faultless (no_tag s at b eb f)

  module _ (y : b ≡ code "<") (n : ℕ) (en : n ≡ element_end s (at + 1)) where
    pub opens_no_name : n ≤ at + 1 → Err Malformed ≡ opening_at s at
    opens_no_name h = ap faultless (no_element s at b eb y n en h)

    pub opens_crowded : at + 1 < n → (c : Bool) → c ≡ ltb attributes_limit (length (items (attributes s n))) → c ≡ true → Err Malformed ≡ opening_at s at
    unfolding tag_to tag_answer
    opens_crowded h c ec f =
        let past : past_limit s (n - (at + 1)) (items (attributes s n)) ≡ true =
        rw (← ec, f) (or_true (ltb name_limit (n - (at + 1)))) in
        rw (← eb, eq-eqb b (code "<") y, ← en, lt-ltb (at + 1) n h)
        (pick_case (λ t. Err Malformed ≡ faultless t) (is_err (ending (attributes s n)) or repeated s (items (attributes s n))) _ _ (λ _. refl) (λ _. rw past refl))

pub opens_whole : (s : List ℕ) (at : ℕ) (t r : Result Tag Reason) → t ≡ tag_at s at → r ≡ faultless t → r ≡ opening_at s at
opens_whole s at t r e f = f ∙ ap faultless e
