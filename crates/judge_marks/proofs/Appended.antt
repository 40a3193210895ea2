-- The list is filled one record at a time: what is still to be written is told of the digits that are left.
-- Assumes nothing.
use Rattle.std.specs.Prelude.{Ok}
use Rattle.refusals.specs.declared.Reason.TheVariants.{ShortList}
use Rattle.refusals.specs.Numbers.{refuses}
use mathlib.Core.Path.{◌≡◌, refl, sym, ◌∙◌, ap}
use mathlib.Core.Bool.{Bool, true, false}
use mathlib.Core.List.{List, [], ◌∷◌, ◌++◌}
use Prim.Native.Nat.{ℕ, zero, suc, ◌+◌, ◌-◌, ◌*◌, ◌/◌, ◌%◌, ◌<◌, ◌≤◌}
use native.Mathlib.Omega.{arith}
use borrow.Author.Tests.{lt-ltb, le-ltb, le-leb, lt-leb, eq-eqb, ne_eqb}
use lib.ListN.{length, take, drop, get_or, set, length-append, drop_of_length-le}
use lib.Seq.{sets, length-sets, get_or-take, length-take-le}
use mir.Val.{Fits}
use mir.Syntax.{w64}
use Rattle.text_scan.proofs.Within.{drop_here}
use Rattle.list_findings.specs.declared.Finding.{Finding}
use Rattle.list_findings.specs.Findings.{width, flat, filled, stored}
use Rattle.list_findings.proofs.Filling.{filled_sets, one_stored, length_stored}
use Rattle.list_findings.proofs.Records.{length_flat}
use Rattle.list_writer.specs.Listed.{list_after, count_after}
use Rattle.judge_draft.specs.Drafts.{Draft, draft, role}
use Rattle.judge_procedures.specs.Procedures.{asked_at}
use Rattle.judge_findings.specs.Listed.{finding}
use Rattle.judge_findings.specs.Room.{answer_in, list_in, FindingsLeft}
use Rattle.judge_asked.specs.Asked.{most, asked_row}
use Rattle.judge_marks.specs.Marks.{pushed, ones, marked, marked_at, marked_from, marked_in}
use Rattle.judge_marks.proofs.Told.{no_ones, nothing_marked}
use Rattle.judge_asked.proofs.Table.{padded_length}

-- ---- a digit more
pub push_one : (m : ℕ) (b : Bool) → m < 4611686018427387904 → b ≡ true → 2 * m + 1 ≡ pushed m b
unfolding pushed
push_one m b h e = rw (lt-ltb m 4611686018427387904 h, e)

pub push_zero : (m : ℕ) (b : Bool) → m < 4611686018427387904 → b ≡ false → 2 * m ≡ pushed m b
unfolding pushed
push_zero m b h e = rw (lt-ltb m 4611686018427387904 h, e) (omega arith)

pub push_none : (m : ℕ) (b : Bool) → 4611686018427387904 ≤ m → 0 ≡ pushed m b
unfolding pushed
push_none m b h = rw (le-ltb m 4611686018427387904 h)

-- ---- counting
ones_here : (k m : ℕ) → 0 < k → ones k m ≡ m % 2 + ones (k - 1) (m / 2)
unfolding ones
ones_here zero m g = absurd (omega arith)
ones_here (suc k) m g =
    let e : suc k - 1 ≡ k = omega arith in
    rw e

ones_over : (k m : ℕ) → k ≤ 0 → ones k m ≡ 0
unfolding ones
ones_over zero m g = refl
ones_over (suc k) m g = absurd (omega arith)

pub record Counted (mark m i found : ℕ) : Type 0 where
  pub sum : ones most mark ≡ found + ones (most - i) m
  pub few : found ≤ i

pub counted_start : (mark : ℕ) → Counted mark mark 0 0
counted_start mark = record { sum = omega arith; few = omega arith }

module _ (mark m i found : ℕ) (l : Counted mark m i found) where
  pub counted_over : most ≤ i → found ≡ ones most mark
  counted_over h = omega (arith, l.sum, ones_over (most - i) m (omega arith))

  module _ (h : i < most) where
    pub counted_none : m ≡ 0 → found ≡ ones most mark
    counted_none e = omega (arith, l.sum, ap (ones (most - i)) e, no_ones (most - i))

    pub counted_fits : Fits w64 (found + m % 2)
    counted_fits = omega (arith, l.few)

    pub counted_next : Counted mark (m / 2) (i + 1) (found + m % 2)
    counted_next =
        let z : most - i - 1 ≡ most - (i + 1) = omega arith in
        record { sum = omega (arith, l.sum, rw z at (ones_here (most - i) m (omega arith))); few = omega (arith, l.few) }

-- ---- the record
module _ (s notes : List ℕ) (n p f a : ℕ) where
  pub record_is : f ≡ get_or notes (4 * n + 2) 0 → a ≡ get_or notes (4 * n + 3) 0 → record { procedure = p; first = f; after = a } ≡ finding (draft s notes) n p
  unfolding draft
  record_is e g = rw (e, g)

-- ---- the records of one mark
module _ (d : Draft) (n : ℕ) (row : List ℕ) where
  module _ (i m : ℕ) (h : i < length row) where
    marked_one : m % 2 ≡ 1 → marked d n (drop i row) m ≡ finding d n (get_or row i 0) ∷ marked d n (drop (i + 1) row) (m / 2)
    unfolding marked
    marked_one e = rw (drop_here row i h, eq-eqb (m % 2) 1 e)

    marked_no : (m % 2 ≡ 1 → ⊥) → marked d n (drop i row) m ≡ marked d n (drop (i + 1) row) (m / 2)
    unfolding marked
    marked_no e = rw (drop_here row i h, ne_eqb (m % 2) 1 e)

  marked_over : (i m : ℕ) → length row ≤ i → marked d n (drop i row) m ≡ []
  unfolding marked
  marked_over i m h = rw (drop_of_length-le row h)

  -- those from place i on are still to be written, behind k records
  pub record LeftOf (mark : ℕ) (before : List ℕ) (count : ℕ) (list : List ℕ) (m i k : ℕ) : Type 0 where
    pub rest : sets before (count * width) (flat (marked d n row mark)) ≡ sets list (k * width) (flat (marked d n (drop i row) m))
    pub many : count + length (marked d n row mark) ≡ k + length (marked d n (drop i row) m)
    pub room : k + length (marked d n (drop i row) m) ≤ length list / width
    pub long : length list ≡ length before

  -- nothing is left to store
  nothing_left : (list : List ℕ) (k : ℕ) (rs : List Finding) → rs ≡ [] → sets list k (flat rs) ≡ list
  unfolding flat
  nothing_left list k rs e = rw e

  module _ (mark : ℕ) (before : List ℕ) (count : ℕ) (list : List ℕ) (m i k : ℕ) (l : LeftOf mark before count list m i k) where
    ends_count : marked d n (drop i row) m ≡ [] → k ≡ count + length (marked d n row mark)
    ends_count e = omega (arith, l.many, ap length e)

    ends_list : marked d n (drop i row) m ≡ [] → list ≡ sets before (count * width) (flat (marked d n row mark))
    ends_list e = sym (l.rest ∙ nothing_left list (k * width) (marked d n (drop i row) m) e)

    module _ (h : i < length row) where
      goes_no : (m % 2 ≡ 1 → ⊥) → LeftOf mark before count list (m / 2) (i + 1) k
      goes_no e =
          let no : marked d n (drop i row) m ≡ marked d n (drop (i + 1) row) (m / 2) = marked_no i m h e in
          record {
            rest = l.rest ∙ ap (λ rs. sets list (k * width) (flat rs)) no;
            many = omega (arith, l.many, ap length no);
            room = omega (arith, l.room, ap length no);
            long = l.long;
          }

      module _ (e : m % 2 ≡ 1) where
        one : marked d n (drop i row) m ≡ finding d n (get_or row i 0) ∷ marked d n (drop (i + 1) row) (m / 2)
        one = marked_one i m h e

        fits : k < length list / width
        fits = omega (arith, l.room, ap length one)

        goes_one : (after : List ℕ) (next : ℕ) (r : Finding) → r ≡ finding d n (get_or row i 0) → next ≡ count_after list k → after ≡ list_after list k r → LeftOf mark before count after (m / 2) (i + 1) next
        unfolding count_after list_after
        goes_one after next r f g j =
            let full = lt-leb (length list / width) k fits in
            let c : next ≡ k + 1 = g ∙ rw full in
            let s : after ≡ stored list (k * width) (finding d n (get_or row i 0)) = j ∙ rw (full, f) in
            let w : k * width + width ≡ (k + 1) * width = omega arith in
            rw (c, s) record {
              rest = l.rest ∙ (ap (λ rs. sets list (k * width) (flat rs)) one ∙ (one_stored list (k * width) (finding d n (get_or row i 0)) (marked d n (drop (i + 1) row) (m / 2)) ∙ rw w));
              many = omega (arith, l.many, ap length one);
              room = omega (arith, l.room, ap length one, length_stored list (k * width) (finding d n (get_or row i 0)));
              long = length_stored list (k * width) (finding d n (get_or row i 0)) ∙ l.long;
            }

-- the same of the row of an element's role
module _ (d : Draft) (n : ℕ) where
  pub record Left (mark : ℕ) (before : List ℕ) (count : ℕ) (list : List ℕ) (m i k : ℕ) : Type 0 where
    pub left : LeftOf d n (asked_row (role d n)) mark before count list m i k

  row_length : length (asked_row (role d n)) ≡ most
  row_length = padded_length most (asked_at (role d n))

  pub left_start : (mark : ℕ) (list : List ℕ) (count : ℕ) → count + length (marked_at d n mark) ≤ length list / width → Left mark list count list mark 0 count
  unfolding marked_at
  left_start mark list count h = record { left = record { rest = refl; many = refl; room = h; long = refl } }

  module _ (mark : ℕ) (before : List ℕ) (count : ℕ) (list : List ℕ) (m i k : ℕ) (l : Left mark before count list m i k) where
    pub left_none_count : m ≡ 0 → k ≡ count + length (marked_at d n mark)
    unfolding marked_at
    left_none_count e = ends_count d n _ mark before count list m i k l.left (nothing_marked d n (drop i (asked_row (role d n))) m e)

    pub left_none_list : m ≡ 0 → list ≡ sets before (count * width) (flat (marked_at d n mark))
    unfolding marked_at
    left_none_list e = ends_list d n _ mark before count list m i k l.left (nothing_marked d n (drop i (asked_row (role d n))) m e)

    pub left_over_count : most ≤ i → k ≡ count + length (marked_at d n mark)
    unfolding marked_at
    left_over_count h = ends_count d n _ mark before count list m i k l.left (marked_over d n _ i m (omega (arith, row_length)))

    pub left_over_list : most ≤ i → list ≡ sets before (count * width) (flat (marked_at d n mark))
    unfolding marked_at
    left_over_list h = ends_list d n _ mark before count list m i k l.left (marked_over d n _ i m (omega (arith, row_length)))

    module _ (h : i < most) where
      pub left_no : (m % 2 ≡ 1 → ⊥) → Left mark before count list (m / 2) (i + 1) k
      left_no e = record { left = goes_no d n _ mark before count list m i k l.left (omega (arith, row_length)) e }

      pub left_one : m % 2 ≡ 1 → (own : ℕ) → own ≡ role d n → (p : ℕ) → p ≡ get_or (asked_row own) i 0 → (after : List ℕ) (next : ℕ) (r : Finding) → r ≡ finding d n p → next ≡ count_after list k → after ≡ list_after list k r → Left mark before count after (m / 2) (i + 1) next
      left_one e own o p q after next r f g j =
          let s : p ≡ get_or (asked_row (role d n)) i 0 = q ∙ rw o in
          record { left = goes_one d n _ mark before count list m i k l.left (omega (arith, row_length)) e after next r (f ∙ rw s) g j }

-- ---- the records of all marks
flat_joined : (xs ys : List Finding) → flat (xs ++ ys) ≡ flat xs ++ flat ys
unfolding flat
flat_joined [] ys = refl
flat_joined (x ∷ xs) ys = rw (flat_joined xs ys)

sets_joined : (xs ys list : List ℕ) (k : ℕ) → sets list k (xs ++ ys) ≡ sets (sets list k xs) (k + length xs) ys
sets_joined [] ys list k =
    let e : k + 0 ≡ k = omega arith in
    rw e
sets_joined (x ∷ xs) ys list k =
    let e : k + suc (length xs) ≡ suc k + length xs = omega arith in
    rw e (sets_joined xs ys (set list k x) (suc k))

module _ (d : Draft) (marks before : List ℕ) where
  -- those of the marks from number n on are still to be written, behind `count` records
  pub record ToWrite (list : List ℕ) (n count : ℕ) : Type 0 where
    pub rest : sets before 0 (flat (marked_from d 0 marks)) ≡ sets list (count * width) (flat (marked_from d n (drop n marks)))
    pub room : count + length (marked_from d n (drop n marks)) ≤ length list / width
    pub long : length list ≡ length before

  pub towrite_start : length (marked_from d 0 marks) ≤ length before / width → ToWrite before 0 0
  towrite_start h = record { rest = refl; room = omega arith; long = refl }

  module _ (list : List ℕ) (n count : ℕ) (l : ToWrite list n count) where
    pub towrite_over : length marks ≤ n → length (marked_from d 0 marks) ≤ length before / width → list ≡ filled (marked_from d 0 marks) before
    unfolding marked_from flat
    towrite_over h g = sym (sym (filled_sets (marked_from d 0 marks) before g) ∙ (l.rest ∙ rw (drop_of_length-le marks h)))

    module _ (h : n < length marks) where
      next : marked_from d n (drop n marks) ≡ marked_at d n (get_or marks n 0) ++ marked_from d (n + 1) (drop (n + 1) marks)
      unfolding marked_from
      next = rw (drop_here marks n h)

      many : length (marked_from d n (drop n marks)) ≡ length (marked_at d n (get_or marks n 0)) + length (marked_from d (n + 1) (drop (n + 1) marks))
      many = ap length next ∙ length-append (marked_at d n (get_or marks n 0)) (marked_from d (n + 1) (drop (n + 1) marks))

      pub towrite_room : count + length (marked_at d n (get_or marks n 0)) ≤ length list / width
      towrite_room = omega (arith, l.room, many)

      pub towrite_next : (after : List ℕ) (c : ℕ) → c ≡ count + length (marked_at d n (get_or marks n 0)) → after ≡ sets list (count * width) (flat (marked_at d n (get_or marks n 0))) → ToWrite after (n + 1) c
      towrite_next after c e f =
          let rs = marked_at d n (get_or marks n 0) in
          let w : c * width ≡ count * width + length (flat rs) = omega (arith, e, length_flat rs) in
          record {
            rest = l.rest ∙ (ap (λ x. sets list (count * width) (flat x)) next ∙ (ap (sets list (count * width)) (flat_joined rs (marked_from d (n + 1) (drop (n + 1) marks))) ∙ (sets_joined (flat rs) (flat (marked_from d (n + 1) (drop (n + 1) marks))) list (count * width) ∙ rw (← f, ← w))));
            room = omega (arith, l.room, many, e, ap length f, length-sets list (count * width) (flat rs));
            long = ap length f ∙ (length-sets list (count * width) (flat rs) ∙ l.long);
          }

-- the same of the marks in the front of a run, and of the answer
module _ (s notes marks before : List ℕ) where
  pub record Writing (list : List ℕ) (n count : ℕ) : Type 0 where
    pub to_write : ToWrite (draft s notes) (take (length notes / 4) marks) before list n count

  pub writing_start : length (marked_in s notes marks) ≤ length before / width → Writing before 0 0
  unfolding marked_in
  writing_start h = record { to_write = towrite_start (draft s notes) (take (length notes / 4) marks) before h }

  module _ (room : length notes / 4 ≤ length marks) (list : List ℕ) (n count : ℕ) (l : Writing list n count) where
    pub writing_over : length notes / 4 ≤ n → length (marked_in s notes marks) ≤ length before / width → list ≡ filled (marked_in s notes marks) before
    unfolding marked_in
    writing_over h g = towrite_over (draft s notes) (take (length notes / 4) marks) before list n count l.to_write (omega (arith, length-take-le (length notes / 4) marks room)) g

    module _ (h : n < length notes / 4) where
      at : get_or (take (length notes / 4) marks) n 0 ≡ get_or marks n 0
      at = get_or-take (length notes / 4) marks n 0 h

      inside : n < length (take (length notes / 4) marks)
      inside = omega (arith, length-take-le (length notes / 4) marks room)

      pub writing_room : count + length (marked_at (draft s notes) n (get_or marks n 0)) ≤ length list / width
      writing_room = rw (← at) (towrite_room (draft s notes) (take (length notes / 4) marks) before list n count l.to_write inside)

      pub writing_next : (after : List ℕ) (c : ℕ) → c ≡ count + length (marked_at (draft s notes) n (get_or marks n 0)) → after ≡ sets list (count * width) (flat (marked_at (draft s notes) n (get_or marks n 0))) → Writing after (n + 1) c
      writing_next after c e f =
          record { to_write = towrite_next (draft s notes) (take (length notes / 4) marks) before list n count l.to_write inside after c (e ∙ rw at) (f ∙ rw at) }

module _ (found : List Finding) (list : List ℕ) (total : ℕ) (e : total ≡ length found) where
  pub too_many : length list / width < total → FindingsLeft found list (refuses ShortList total) list
  unfolding answer_in list_in
  too_many g =
      let f = lt-leb total (length list / width) g in
      record { answers = rw (← e, f); lists = rw (← e, f) }

  pub all_written : total ≤ length list / width → (after : List ℕ) → after ≡ filled found list → FindingsLeft found list (Ok total) after
  unfolding answer_in list_in
  all_written g after h =
      let f = le-leb total (length list / width) g in
      record { answers = rw (← e, f); lists = h ∙ rw (← e, f) }
