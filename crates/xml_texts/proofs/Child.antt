-- The tag of a child element, by its first two bytes: whatever follows, it leaves no text.
-- Assumes nothing.
use Rattle.std.specs.Prelude.{Result, Ok, Err}
use Rattle.refusals.specs.declared.Reason.{Reason}
use mathlib.Core.Path.{◌≡◌, refl, sym, ◌∙◌}
use mathlib.Core.Bool.{Bool, true, false}
use mathlib.Core.List.{List}
use Prim.Native.Nat.{ℕ}
use Prim.Native.Char.{code}
use borrow.Author.Tests.{eq-eqb, ne_eqb}
use lib.Dec.{eqb}
use lib.ListN.{get_or}
use Rattle.text_scan.specs.Choice.{pick, ◌and◌, not}
use Rattle.text_scan.specs.Bytes.{text}
use Rattle.text_scan.specs.Lists.{stands}
use Rattle.text_scan.proofs.Tests.{never}
use Rattle.xml_attributes.specs.declared.Tag.{Tag}
use Rattle.xml_attributes.specs.declared.Tag.TheVariants.{Start, Empty}
use Rattle.xml_pieces.specs.declared.DocumentPart.TheVariants.{Inside}
use Rattle.xml_pieces.specs.declared.Scanned.{Scanned}
use Rattle.xml_pieces.specs.Pieces.{text_piece_at, bang_at, question_at, end_at, tagged, start_at, markup_at, piece_at}
use Rattle.xml_tags.specs.Tags.{tag_at}
use Rattle.xml_texts.specs.declared.Content.TheVariants.{Other}
use Rattle.xml_texts.specs.Texts.{content_of, content_at}
use Rattle.xml_texts.specs.Child.{is_child}

-- ---- by the tests of the code
module _ (s : List ℕ) (i b : ℕ) (eb : b ≡ get_or s i 0) where
  pub no_markup : (b ≡ code "<" → ⊥) → false ≡ is_child s i
  unfolding is_child
  no_markup f = rw (← eb, ne_eqb b (code "<") f)

  module _ (y : b ≡ code "<") (t : Bool) (et : t ≡ stands (text "<!") s i) where
    pub bang_no_child : t ≡ true → false ≡ is_child s i
    unfolding is_child
    bang_no_child f = rw (← eb, eq-eqb b (code "<") y, ← et, f)

    module _ (f : t ≡ false) (u : Bool) (eu : u ≡ stands (text "<?") s i) where
      pub question_no_child : u ≡ true → false ≡ is_child s i
      unfolding is_child
      question_no_child g = rw (← eb, eq-eqb b (code "<") y, ← et, f, ← eu, g)

      pub child_by_slash : u ≡ false → (w : Bool) → w ≡ stands (text "</") s i → not w ≡ is_child s i
      unfolding is_child
      child_by_slash g w ew = rw (← eb, eq-eqb b (code "<") y, ← et, f, ← eu, g, ← ew)

-- ---- it leaves no text
tag_other : (t : Result Tag Reason) → Other ≡ content_of (tagged t)
tag_other (Ok (Start j)) = refl
tag_other (Ok (Empty j)) = refl
tag_other (Err n) = refl

any_other : (a b c d : Bool) (bang question end text : Scanned) (t : Result Tag Reason) → a and not b and not c and not d ≡ true → Other ≡ content_of (pick a (pick b bang (pick c question (pick d end (tagged t)))) text)
any_other true true c d bang question end text t e = never (sym e)
any_other true false true d bang question end text t e = never (sym e)
any_other true false false true bang question end text t e = never (sym e)
any_other true false false false bang question end text t e = tag_other t
any_other false b c d bang question end text t e = never (sym e)

pub child_other : (s : List ℕ) (i : ℕ) (t : Bool) → t ≡ is_child s i → t ≡ true → Other ≡ content_at s i
unfolding is_child content_at piece_at markup_at start_at
child_other s i t e f =
    any_other (eqb (get_or s i 0) (code "<")) (stands (text "<!") s i) (stands (text "<?") s i) (stands (text "</") s i)
    (bang_at s i) (question_at s i) (end_at s i Inside) (text_piece_at s i Inside) (tag_at s i) (sym e ∙ f)
