-- The content of an element, from one place to another along pieces that are no tag: in the document, and in each range that holds it.
-- Assumes nothing.
use Rattle.std.specs.Prelude.{None, Some}
use mathlib.Core.Path.{◌≡◌, refl, sym, ◌∙◌, ap, subst}
use mathlib.Core.List.{List, [], ◌++◌, append_assoc}
use Prim.Native.Nat.{ℕ, ◌+◌, ◌-◌, ◌<◌, ◌≤◌}
use native.Mathlib.Omega.{arith}
use lib.ListN.{length}
use Rattle.xml_references.specs.Decoded.{replaced, part, decoded}
use Rattle.xml_attributes.specs.Chains.{ending}
use Rattle.xml_pieces.specs.declared.Kind.TheVariants.{Text, Comment, Instruction, Start, Empty, End}
use Rattle.xml_pieces.specs.declared.DocumentPart.TheVariants.{Inside}
use Rattle.xml_pieces.specs.declared.Scanned.TheVariants.{Piece}
use Rattle.xml_pieces.specs.Pieces.{piece_at}
use Rattle.xml_tags.specs.EndTags.{end_tag_end}
use Rattle.xml_texts.specs.declared.Content.TheVariants.{Said, Dropped, Ended, Other}
use Rattle.xml_texts.specs.Texts.{content_of, content_at, content_from, said_from}
use Rattle.xml_texts.proofs.Texts.{content_other, said_behind, said_next, dropped_behind, dropped_next}
use Rattle.xml_agreement.proofs.Range.{range, range_length, part_same}
use Rattle.xml_agreement.proofs.Contents.{Moved, piece_moved}

pub record Reach (s : List ℕ) (a p : ℕ) : Type 0 where
  pub ahead : a ≤ p
  pub says : List ℕ
  pub ends : ending (content_from s a) ≡ ending (content_from s p)
  pub said : said_from s a ≡ says ++ said_from s p
  pub ends_in : (d n : ℕ) (fits : d + n ≤ length s) → d < a → p ≤ d + n → ending (content_from (range s d n fits) (a - d)) ≡ ending (content_from (range s d n fits) (p - d))
  pub said_in : (d n : ℕ) (fits : d + n ≤ length s) → d < a → p ≤ d + n → said_from (range s d n fits) (a - d) ≡ says ++ said_from (range s d n fits) (p - d)

pub reach_here : (s : List ℕ) (a : ℕ) → Reach s a a
reach_here s a =
    record { ahead = omega arith; says = []; ends = refl; said = refl; ends_in = λ d n fits l k. refl; said_in = λ d n fits l k. refl }

pub reach_join : (s : List ℕ) (a p j : ℕ) → Reach s a p → Reach s p j → Reach s a j
reach_join s a p j x y =
    record {
      ahead = omega (arith, x.ahead, y.ahead);
      says = x.says ++ y.says;
      ends = x.ends ∙ y.ends;
      said = x.said ∙ ap (λ (t : List ℕ). x.says ++ t) y.said ∙ sym (append_assoc x.says y.says (said_from s j));
      ends_in = λ d n fits l k. x.ends_in d n fits l (omega (arith, y.ahead)) ∙ y.ends_in d n fits (omega (arith, x.ahead)) k;
      said_in = λ d n fits l k. x.said_in d n fits l (omega (arith, y.ahead)) ∙ ap (λ (t : List ℕ). x.says ++ t) (y.said_in d n fits (omega (arith, x.ahead)) k)
          ∙ sym (append_assoc x.says y.says (said_from (range s d n fits) (j - d)));
    }

-- ---- one piece
module _ (s : List ℕ) (p j : ℕ) (h : p < length s) (lt : p < j) where
  -- what it is in a range
  pub in_range : (d n : ℕ) (fits : d + n ≤ length s) (l : d < p) (k : j ≤ d + n) → Moved s d n fits (p - d) (omega arith) (omega arith) (piece_at s p Inside)
  in_range d n fits l k =
      let a : d + (p - d) ≡ p = omega arith in
      subst (λ (m : ℕ). Moved s d n fits (p - d) (omega arith) (omega arith) (piece_at s m Inside)) a (piece_moved s d n fits (p - d) (omega arith) (omega arith))

  pub reach_text : piece_at s p Inside ≡ Piece Text j → Reach s p j
  unfolding content_at ending
  reach_text q =
      let c : Said j ≡ content_at s p = sym (ap content_of q) in
      record {
        ahead = omega arith;
        says = decoded s p j;
        ends = ap ending (said_behind s p h (Said j) c j refl);
        said = said_next s p h (Said j) c j refl;
        ends_in = λ d n fits l k.
            let e = subst (Moved s d n fits (p - d) (omega arith) (omega arith)) q (in_range d n fits l k) k in
            ap ending (said_behind (range s d n fits) (p - d) (omega (arith, range_length s d n fits)) (Said (j - d)) (sym e) (j - d) refl);
        said_in = λ d n fits l k.
            let e = subst (Moved s d n fits (p - d) (omega arith) (omega arith)) q (in_range d n fits l k) k in
            let a : d + (p - d) ≡ p = omega arith in
            let b : d + (j - d) ≡ j = omega arith in
            let t : part (range s d n fits) (p - d) (j - d) ≡ part s p j = sym (part_same s d n fits (p - d) (j - d) (omega arith)) ∙ (rw (a, b)) in
            said_next (range s d n fits) (p - d) (omega (arith, range_length s d n fits)) (Said (j - d)) (sym e) (j - d) refl
            ∙ ap (λ (x : List ℕ). replaced 0 x ++ said_from (range s d n fits) (j - d)) t;
      }

  reach_dropped : Dropped j ≡ content_at s p → ((d n : ℕ) (fits : d + n ≤ length s) → d < p → j ≤ d + n → Dropped (j - d) ≡ content_at (range s d n fits) (p - d)) → Reach s p j
  unfolding ending
  reach_dropped c e =
      record {
        ahead = omega arith;
        says = [];
        ends = ap ending (dropped_behind s p h (Dropped j) c j refl);
        said = dropped_next s p h (Dropped j) c j refl;
        ends_in = λ d n fits l k. ap ending (dropped_behind (range s d n fits) (p - d) (omega (arith, range_length s d n fits)) (Dropped (j - d)) (e d n fits l k) (j - d) refl);
        said_in = λ d n fits l k. dropped_next (range s d n fits) (p - d) (omega (arith, range_length s d n fits)) (Dropped (j - d)) (e d n fits l k) (j - d) refl;
      }

  pub reach_comment : piece_at s p Inside ≡ Piece Comment j → Reach s p j
  unfolding content_at
  reach_comment q =
      reach_dropped (sym (ap content_of q)) (λ d n fits l k. sym (subst (Moved s d n fits (p - d) (omega arith) (omega arith)) q (in_range d n fits l k) k))

  pub reach_instruction : piece_at s p Inside ≡ Piece Instruction j → Reach s p j
  unfolding content_at
  reach_instruction q =
      reach_dropped (sym (ap content_of q)) (λ d n fits l k. sym (subst (Moved s d n fits (p - d) (omega arith) (omega arith)) q (in_range d n fits l k) k))

-- ---- the end tag
pub record EndsAt (s : List ℕ) (e after : ℕ) : Type 0 where
  pub tag : end_tag_end s e ≡ Some after
  pub inner : e < length s
  pub here : content_at s e ≡ Ended
  pub here_in : (d n : ℕ) (fits : d + n ≤ length s) → d < e → after ≤ d + n → content_at (range s d n fits) (e - d) ≡ Ended

pub ends_at : (s : List ℕ) (e j : ℕ) → e < length s → e < j → piece_at s e Inside ≡ Piece End j → end_tag_end s e ≡ Some j → EndsAt s e j
unfolding content_at
ends_at s e j h lt q t =
    record {
      tag = t;
      inner = h;
      here = ap content_of q;
      here_in = λ d n fits l k. subst (Moved s d n fits (e - d) (omega arith) (omega arith)) q (in_range s e j h lt d n fits l k) k;
    }

-- ---- a content that comes to the tag of a child element, before p
pub record Parent (s : List ℕ) (a p : ℕ) : Type 0 where
  pub child : ℕ
  pub reach : Reach s a child
  pub before : child < p
  pub inner : child < length s
  pub tag : content_at s child ≡ Other
  pub tag_in : (d n : ℕ) (fits : d + n ≤ length s) → d < a → p ≤ d + n → content_at (range s d n fits) (child - d) ≡ Other

pub parent_later : (s : List ℕ) (a p j : ℕ) → p ≤ j → Parent s a p → Parent s a j
parent_later s a p j h x =
    record {
      child = x.child;
      reach = x.reach;
      before = omega (arith, x.before);
      inner = x.inner;
      tag = x.tag;
      tag_in = λ d n fits l k. x.tag_in d n fits l (omega arith);
    }

module _ (s : List ℕ) (a p j : ℕ) (h : p < length s) (lt : p < j) (x : Reach s a p) where
  pub parent_start : piece_at s p Inside ≡ Piece Start j → Parent s a j
  unfolding content_at
  parent_start q =
      record {
        child = p;
        reach = x;
        before = lt;
        inner = h;
        tag = ap content_of q;
        tag_in = λ d n fits l k. subst (Moved s d n fits (p - d) (omega (arith, x.ahead)) (omega (arith, x.ahead))) q (in_range s p j h lt d n fits (omega (arith, x.ahead)) k);
      }

  pub parent_empty : piece_at s p Inside ≡ Piece Empty j → Parent s a j
  unfolding content_at
  parent_empty q =
      record {
        child = p;
        reach = x;
        before = lt;
        inner = h;
        tag = ap content_of q;
        tag_in = λ d n fits l k. subst (Moved s d n fits (p - d) (omega (arith, x.ahead)) (omega (arith, x.ahead))) q (in_range s p j h lt d n fits (omega (arith, x.ahead)) k);
      }

module _ (s : List ℕ) (a p : ℕ) (x : Parent s a p) where
  pub parent_ends : ending (content_from s a) ≡ None
  unfolding ending
  parent_ends = x.reach.ends ∙ ap ending (content_other s x.child x.inner Other (sym x.tag) refl)

  pub parent_ends_in : (d n : ℕ) (fits : d + n ≤ length s) → d < a → p ≤ d + n → ending (content_from (range s d n fits) (a - d)) ≡ None
  unfolding ending
  parent_ends_in d n fits l k =
      x.reach.ends_in d n fits l (omega (arith, x.before))
      ∙ ap ending (content_other (range s d n fits) (x.child - d) (omega (arith, range_length s d n fits, x.before, x.reach.ahead)) Other (sym (x.tag_in d n fits l k)) refl)
