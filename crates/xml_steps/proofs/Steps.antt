-- The steps of a reading, by the branches in which the code looks.
-- Assumes nothing.
use Rattle.std.specs.Prelude.{Result, Ok, Err}
use Rattle.refusals.specs.declared.Reason.TheVariants.{Malformed, PastLimit}
use Rattle.refusals.specs.declared.Reason.{Reason}
use mathlib.Core.Path.{◌≡◌, refl, sym, subst}
use mathlib.Core.Bool.{Bool, true, false}
use mathlib.Core.List.{List, ◌++◌}
use Prim.Native.Nat.{ℕ, zero, suc, ◌+◌, ◌-◌, ◌*◌, ◌<◌, ◌≤◌}
use native.Mathlib.Omega.{arith}
use borrow.Author.Tests.{lt-ltb, le-ltb}
use lib.Dec.{ltb, leb}
use lib.ListN.{length, take, get_or, set, length-take}
use lib.Seq.{take-set-lt, get_or-take}
use Rattle.text_scan.specs.Turns.{Turn, on}
use Rattle.text_scan.proofs.Tests.{and_false}
use Rattle.text_facts.specs.Strings.{equal}
use Rattle.xml_reader.specs.Limits.{depth_limit, document_limit, elements_limit, value_limit}
use Rattle.xml_reader.specs.declared.Reader.{Reader}
use Rattle.xml_pieces.specs.declared.DocumentPart.TheVariants.{Before, Inside, After}
use Rattle.xml_names.specs.Names.{name_at}
use mir.Val.{Fits}
use mir.Syntax.{w64}
use Rattle.xml_pieces.specs.declared.Kind.{Kind}
use Rattle.xml_pieces.specs.declared.Kind.TheVariants.{Text, Comment, Instruction, Declaration, Start, Empty, End}
use Rattle.xml_pieces.specs.declared.Scanned.TheVariants.{Piece}
use Rattle.xml_steps.specs.Reading.{Reading, Read, element_row, passed, adding, is_named, content_fits, closing, document_part, by_piece}
use Rattle.xml_steps.specs.Walked.{reading, turn_of, Steps, Roomy}

-- ---- the part of the document
pub part_inside : (count depth : ℕ) → 0 < depth → Inside ≡ document_part count depth
part_inside count zero h = absurd (omega arith)
part_inside count (suc depth) h = refl

pub part_after : (count depth : ℕ) → depth ≤ 0 → 0 < count → After ≡ document_part count depth
part_after zero depth h g = absurd (omega arith)
part_after (suc count) zero h g = refl
part_after (suc count) (suc depth) h g = absurd (omega arith)

pub part_before : (count depth : ℕ) → depth ≤ 0 → count ≤ 0 → Before ≡ document_part count depth
part_before zero zero h g = refl
part_before zero (suc depth) h g = absurd (omega arith)
part_before (suc count) depth h g = absurd (omega arith)

-- ---- the room for rows
pub front_fits : (n : ℕ) (numbers : List ℕ) → length (take n numbers) ≡ n → n ≤ length numbers
front_fits n numbers e = omega (arith, length-take n numbers)

pub row_fits : (n : ℕ) (numbers : List ℕ) → n < elements_limit → Roomy (n + 1) numbers → 4 * n + 4 ≤ length numbers
row_fits n numbers h w = omega (arith, w.room (n + 1) (omega arith) (omega arith))

pub roomy_kept : (n : ℕ) (new old : List ℕ) → length new ≡ length old → Roomy n old → Roomy n new
roomy_kept n new old e w = record { room = λ count h g. omega (arith, w.room count h g) }

-- ---- an element is added
module _ (d : Reader) (numbers : List ℕ) (after depth top : ℕ) where
  pub too_many : elements_limit ≤ d.count → turn_of d.at (Err PastLimit) numbers ≡ adding (reading d numbers) after depth top
  unfolding reading turn_of adding closing
  too_many h = rw (le-ltb _ elements_limit h)

  pub too_deep : depth_limit ≤ d.depth → turn_of d.at (Err PastLimit) numbers ≡ adding (reading d numbers) after depth top
  unfolding reading turn_of adding closing
  too_deep h = rw (le-ltb _ depth_limit h, and_false (ltb d.count elements_limit))

  pub room_left : (numbers' : List ℕ) → d.count < elements_limit → d.depth < depth_limit → take (4 * d.count + 4) numbers' ≡ take (4 * d.count) numbers ++ element_row d.count d.top d.at after → turn_of d.at (Ok (record { at = after; count = d.count + 1; depth = depth; top = top })) numbers' ≡ adding (reading d numbers) after depth top
  unfolding reading turn_of adding closing
  room_left numbers' h g e =
      let q : 4 * (d.count + 1) ≡ 4 * d.count + 4 = omega arith in
      rw (lt-ltb _ elements_limit h, lt-ltb _ depth_limit g, q, e)

-- ---- an element is closed
-- what stands in the rows stands in the front of the numbers
pub in_front : (numbers : List ℕ) (n k : ℕ) → k < n → get_or (take n numbers) k 0 ≡ get_or numbers k 0
in_front numbers n k h = get_or-take n numbers k 0 h

module _ (d : Reader) (numbers : List ℕ) where
  pub with_children : d.top + 1 < d.count → true ≡ content_fits (reading d numbers)
  unfolding reading turn_of adding closing
  with_children h = rw (lt-ltb _ _ h)

  pub childless : d.count ≤ d.top + 1 → d.top < d.count → leb (d.at - get_or numbers (4 * d.top + 3) 0) value_limit ≡ content_fits (reading d numbers)
  unfolding reading turn_of adding closing
  childless h g =
      rw (le-ltb _ _ h, in_front numbers (4 * d.count) (4 * d.top + 3) (omega arith))

module _ (s : List ℕ) (d : Reader) (numbers : List ℕ) (after : ℕ) (k : Steps s (reading d numbers) End after) where
  top_low : d.top < d.count
  unfolding reading turn_of adding closing
  top_low = omega (arith, k.sound.inner, k.sound.shallow, (k.ends refl).0)

  -- a number of the row is at most the place of the end tag
  number_low : (i : ℕ) → i < 4 → get_or numbers (4 * d.top + i) 0 ≤ d.at
  unfolding reading turn_of adding closing
  number_low i h =
      rw (in_front numbers (4 * d.count) (4 * d.top + i) (omega (arith, top_low))) at (k.sound.low (4 * d.top + i))

  pub parent_fits : Fits w64 (get_or numbers (4 * d.top + 1) 0)
  unfolding reading turn_of adding closing
  parent_fits = omega (arith, number_low 1 (omega arith), k.ahead, k.inside, k.short)

  pub first_fits : Fits w64 (get_or numbers (4 * d.top + 2) 0)
  unfolding reading turn_of adding closing
  first_fits = omega (arith, number_low 2 (omega arith), k.ahead, k.inside, k.short)

  pub first_next_fits : Fits w64 (get_or numbers (4 * d.top + 2) 0 + 1)
  unfolding reading turn_of adding closing
  first_next_fits = omega (arith, number_low 2 (omega arith), k.ahead, k.inside, k.short)

  -- the open tag stands before the end tag
  pub first_before : get_or numbers (4 * d.top + 2) 0 + 1 ≤ d.at + 2
  unfolding reading turn_of adding closing
  first_before = omega (arith, number_low 2 (omega arith))

  pub content_low : get_or numbers (4 * d.top + 3) 0 ≤ d.at
  unfolding reading turn_of adding closing
  content_low = number_low 3 (omega arith)

  pub top_inside : d.top < d.count
  unfolding reading turn_of adding closing
  top_inside = top_low

  pub deep_enough : 1 ≤ d.depth
  unfolding reading
  deep_enough = (k.ends refl).0

  pub rows_inside : 4 * d.count ≤ length numbers
  unfolding reading
  rows_inside = front_fits (4 * d.count) numbers k.sound.wide

  row_inside : 4 * d.top + 4 ≤ length numbers
  row_inside = omega (arith, rows_inside, top_low)

  pub few_rows : d.count ≤ elements_limit
  unfolding reading turn_of adding closing
  few_rows = k.sound.few

  module _ (t : Bool) (e : t ≡ equal (name_at s (get_or numbers (4 * d.top + 2) 0 + 1)) (name_at s (d.at + 2))) where
    named : is_named s (reading d numbers) ≡ t
    unfolding reading turn_of adding closing
    named = rw (in_front numbers (4 * d.count) (4 * d.top + 2) (omega (arith, top_low))) (sym e)

    pub other_name : t ≡ false → turn_of d.at (Err Malformed) numbers ≡ closing s (reading d numbers) after
    unfolding reading turn_of adding closing
    other_name f = rw (named, f)

    module _ (f : t ≡ true) (u : Bool) (q : u ≡ content_fits (reading d numbers)) where
      pub too_long : u ≡ false → turn_of d.at (Err PastLimit) numbers ≡ closing s (reading d numbers) after
      unfolding reading turn_of adding closing
      too_long h = rw (named, f, ← q, h)

      pub is_closed : u ≡ true → turn_of d.at (Ok (record { at = after; count = d.count; depth = d.depth - 1; top = get_or numbers (4 * d.top + 1) 0 })) (set numbers (4 * d.top + 3) after) ≡ closing s (reading d numbers) after
      unfolding reading turn_of adding closing
      is_closed h =
          rw (named, f, ← q, h, take-set-lt (4 * d.count) numbers (4 * d.top + 3) after (omega (arith, top_low)), in_front numbers (4 * d.count) (4 * d.top + 1) (omega (arith, top_low)))

-- what `add` asks at a tag
module _ (s : List ℕ) (d : Reader) (numbers : List ℕ) (kind : Kind) (after : ℕ) (k : Steps s (reading d numbers) kind after) where
  pub deeper_fits : Fits w64 (d.depth + 1)
  unfolding reading
  deeper_fits = omega (arith, k.sound.shallow, k.sound.few)

  pub place_low : d.at ≤ document_limit
  unfolding reading
  place_low = omega (arith, k.ahead, k.inside, k.short)

  pub top_number_low : d.top ≤ document_limit
  unfolding reading
  top_number_low = omega (arith, k.sound.inner, k.sound.few)

  pub row_room : Roomy (length s) numbers → Roomy (d.count + 1) numbers
  unfolding reading
  row_room w = record { room = λ count h g. w.room count (omega (arith, k.sound.counted, k.ahead, k.inside)) g }

  pub after_low : after ≤ document_limit
  after_low = omega (arith, k.inside, k.short)

-- ---- one piece, by its kind
module _ (s : List ℕ) (d : Reader) (numbers : List ℕ) (after : ℕ) (kind : Kind) (x : Turn Reading Read) where
  pub by_start : kind ≡ Start → x ≡ adding (reading d numbers) after (d.depth + 1) d.count → x ≡ by_piece s (reading d numbers) (Piece kind after)
  unfolding by_piece reading
  by_start e f = rw e f

  pub by_empty : kind ≡ Empty → x ≡ adding (reading d numbers) after d.depth d.top → x ≡ by_piece s (reading d numbers) (Piece kind after)
  unfolding by_piece reading
  by_empty e f = rw e f

  pub by_end : kind ≡ End → x ≡ closing s (reading d numbers) after → x ≡ by_piece s (reading d numbers) (Piece kind after)
  unfolding by_piece
  by_end e f = rw e f

  pub by_text : kind ≡ Text → x ≡ on (passed (reading d numbers) after) → x ≡ by_piece s (reading d numbers) (Piece kind after)
  unfolding by_piece
  by_text e f = rw e f

  pub by_comment : kind ≡ Comment → x ≡ on (passed (reading d numbers) after) → x ≡ by_piece s (reading d numbers) (Piece kind after)
  unfolding by_piece
  by_comment e f = rw e f

  pub by_instruction : kind ≡ Instruction → x ≡ on (passed (reading d numbers) after) → x ≡ by_piece s (reading d numbers) (Piece kind after)
  unfolding by_piece
  by_instruction e f = rw e f

  pub by_declaration : kind ≡ Declaration → x ≡ on (passed (reading d numbers) after) → x ≡ by_piece s (reading d numbers) (Piece kind after)
  unfolding by_piece
  by_declaration e f = rw e f

-- a piece that is no tag, as the code makes it
pub is_passed : (d : Reader) (numbers : List ℕ) (after : ℕ) (x : Result Reader Reason) → x ≡ Ok (record { at = after; count = d.count; depth = d.depth; top = d.top }) → turn_of d.at x numbers ≡ on (passed (reading d numbers) after)
unfolding reading turn_of
is_passed d numbers after x e = rw e

-- a step at an end tag is a step of that kind
pub at_end_lem : (s : List ℕ) (r : Reading) (kind : Kind) (after : ℕ) → kind ≡ End → Steps s r kind after → Steps s r End after
at_end_lem s r kind after e k = subst (λ (x : Kind). Steps s r x after) e k

pub row_open : (s : List ℕ) (d : Reader) (numbers : List ℕ) (kind : Kind) (after : ℕ) → kind ≡ End → Steps s (reading d numbers) kind after → 4 * d.top + 4 ≤ length numbers
row_open s d numbers kind after e k = row_inside s d numbers after (at_end_lem s (reading d numbers) kind after e k)
