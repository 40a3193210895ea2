-- Refusal 10 never comes: a value says no more bytes than its raw place has, and that is within the limit.
-- Assumes nothing.
use mathlib.Core.Path.{◌≡◌, refl}
use mathlib.Core.Bool.{Bool, true, false}
use mathlib.Core.List.{List, [], ◌∷◌}
use Prim.Native.Nat.{ℕ, zero, suc, ◌+◌, ◌-◌, ◌/◌, ◌≤◌}
use native.Mathlib.Omega.{arith}
use borrow.Author.Tests.{le-ltb, leb-true}
use lib.Dec.{leb}
use lib.ListN.{length}
use Rattle.std.specs.Prelude.{Option, Some, None}
use Rattle.text_scan.specs.Choice.{pick}
use Rattle.xml_reader.specs.Limits.{value_limit}
use Rattle.xml_references.proofs.Replaced.{decoded_most}
use Rattle.xml_steps.specs.Reading.{first_of}
use Rattle.xml_attributes.specs.declared.Attribute.{Attribute}
use Rattle.xml_attributes.specs.Attributes.{attribute_at}
use Rattle.xml_values.specs.declared.Place.{Place}
use Rattle.xml_values.specs.Attributes.{attributes_of, value_place, value_at}
use Rattle.xml_texts.specs.Texts.{text_place, text_of}
use Rattle.xml_values.proofs.Views.{says_most}
use Rattle.xml_texts.proofs.Texts.{text_says}
use Rattle.judge_check.specs.Long.{over, long_attribute, long_at, long_from, long_value}
use Rattle.xml_values.specs.Places.{from_to}

short_enough : (p : Option Place) (bytes : List ℕ) → length bytes ≤ value_limit → over p bytes ≡ None
short_enough (Some p) bytes h = rw (le-ltb value_limit (length bytes) h)
short_enough None bytes h = refl

-- an attribute says no more than its raw value has
value_short : (s : List ℕ) (x : Option Attribute) → length (value_at s (value_place x)) ≤ value_limit
value_short s (Some a) = go (leb (a.value_end - a.value) value_limit) refl
  where
    go : (t : Bool) → leb (a.value_end - a.value) value_limit ≡ t → length (value_at s (pick t (from_to a.value a.value_end) None)) ≤ value_limit
    go true q = omega (arith, decoded_most s a.value a.value_end, leb-true (a.value_end - a.value) value_limit q)
    go false q = omega arith
value_short s None = omega arith

no_long_attribute : (s bs : List ℕ) → long_attribute s bs ≡ None
unfolding long_attribute
no_long_attribute s [] = refl
no_long_attribute s (b ∷ bs) =
    rw (short_enough (value_place (attribute_at s b)) (value_at s (value_place (attribute_at s b))) (value_short s (attribute_at s b)), no_long_attribute s bs)

no_long_at : (s : List ℕ) (first : ℕ) → long_at s first ≡ None
unfolding long_at
no_long_at s first =
    rw (no_long_attribute s (attributes_of s first), short_enough (text_place s first) (text_of s first) (says_most s (text_place s first) (text_of s first) (text_says s first)))

no_long_from : (s rows : List ℕ) (m n : ℕ) → long_from s rows n m ≡ None
unfolding long_from
no_long_from s rows zero n = refl
no_long_from s rows (suc m) n = rw (no_long_at s (first_of rows n), no_long_from s rows m (n + 1))

pub none_long : (s rows : List ℕ) → long_value s rows ≡ None
unfolding long_value
none_long s rows = no_long_from s rows (length rows / 4) 0
