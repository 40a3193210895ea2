-- A sound reading stays sound at each piece, and goes on behind it.
-- Assumes nothing.
use Rattle.refusals.specs.declared.Reason.TheVariants.{Malformed, PastLimit}
use Rattle.refusals.specs.declared.Reason.{Reason}
use mathlib.Core.Path.{◌≡◌, refl, ◌∙◌, subst}
use mathlib.Core.Bool.{Bool, true, false}
use mathlib.Core.List.{List, ◌++◌}
use Prim.Native.Nat.{ℕ, zero, suc, ◌+◌, ◌-◌, ◌*◌, ◌<◌, ◌≤◌}
use native.Mathlib.Omega.{arith}
use borrow.Author.Tests.{ltb-true, eqb-true, eqb-false}
use lib.Dec.{ltb, eqb}
use lib.ListN.{length, get_or, set, length-set, length-append, get_or-append}
use lib.Seq.{get_or-append-add, get_or-set_same, get_or-set_other}
use Rattle.text_scan.specs.Choice.{pick}
use Rattle.text_scan.specs.Turns.{Turn, on, out}
use Rattle.text_scan.proofs.Tests.{and_left}
use Rattle.text_scan.proofs.Within.{inside}
use Rattle.xml_reader.specs.Limits.{depth_limit, elements_limit}
use Rattle.xml_pieces.specs.declared.Kind.{Kind}
use Rattle.xml_pieces.specs.declared.Kind.TheVariants.{Text, Comment, Instruction, Declaration, Start, Empty, End}
use Rattle.xml_pieces.specs.declared.Scanned.{Scanned}
use Rattle.xml_pieces.specs.declared.Scanned.TheVariants.{Piece, Refused}
use Rattle.xml_pieces.proofs.Within.{Within}
use Rattle.xml_steps.specs.Reading.{Reading, Read, refused, element_row, parent_of, passed, added, closed, has_element_room, adding, is_named, content_fits, closing, by_piece}
use Rattle.xml_steps.specs.Walked.{Sound}

-- ---- what a list has after a row is added, or a number stored
in_row : (P : ℕ → Type 0) (a b c d : ℕ) → P a → P b → P c → P d → P 0 → (m : ℕ) → P (get_or (element_row a b c d) m 0)
in_row P a b c d pa pb pc pd p zero = pa
in_row P a b c d pa pb pc pd p (suc zero) = pb
in_row P a b c d pa pb pc pd p (suc (suc zero)) = pc
in_row P a b c d pa pb pc pd p (suc (suc (suc zero))) = pd
in_row P a b c d pa pb pc pd p (suc (suc (suc (suc m)))) = p

module _ (xs ys : List ℕ) (k : ℕ) where
  pub in_first_lem : k < length xs → get_or (xs ++ ys) k 0 ≡ get_or xs k 0
  in_first_lem h = get_or-append xs ys 0 k h

  pub in_second_lem : length xs ≤ k → get_or (xs ++ ys) k 0 ≡ get_or ys (k - length xs) 0
  in_second_lem h =
      let e : length xs + (k - length xs) ≡ k = omega arith in
      rw e at (get_or-append-add xs ys (k - length xs) 0)

after_set : (P : ℕ → Type 0) (l : List ℕ) (i k v : ℕ) → i < length l → P v → P (get_or l k 0) → P (get_or (set l i v) k 0)
after_set P l i k v h p q = go (eqb k i) refl
  where
    go : (t : Bool) → eqb k i ≡ t → P (get_or (set l i v) k 0)
    go true e = rw (eqb-true k i e, get_or-set_same l i v 0 h) p
    go false e = rw (get_or-set_other l i k v 0 (eqb-false k i e)) q

-- ---- what is kept
module _ (n : ℕ) (r : Reading) (j : ℕ) (d : Sound n r) (ahead : r.at < j) (in-text : j ≤ n) where
  pub sound_passed : Sound n (passed r j)
  sound_passed =
      record {
        within = in-text;
        counted = omega (arith, d.counted);
        few = d.few;
        shallow = d.shallow;
        wide = d.wide;
        inner = d.inner;
        low = λ k. omega (arith, d.low k);
        above = d.above;
      }

  -- the numbers of the rows with one row more
  added_low : (k : ℕ) → get_or (r.rows ++ element_row r.count r.top r.at j) k 0 ≤ j
  added_low k =
      inside (length r.rows) k (λ h. rw (in_first_lem r.rows (element_row r.count r.top r.at j) k h) (omega (arith, d.low k)))
      (λ h. rw (in_second_lem r.rows (element_row r.count r.top r.at j) k h) (in_row (λ (x : ℕ). x ≤ j) r.count r.top r.at j (omega (arith, d.counted)) (omega (arith, d.counted, d.inner)) (omega arith) (omega arith) (omega arith) (k - length r.rows)))

  -- the parent in a row behind: of the new row it is the innermost open element, and past it 0
  new_parent : (k m : ℕ) → r.count ≤ k → m ≡ 4 * k + 1 - 4 * r.count → get_or (element_row r.count r.top r.at j) m 0 ≤ k
  new_parent k zero h e = absurd (omega arith)
  new_parent k (suc zero) h e = omega (arith, d.inner)
  new_parent k (suc (suc zero)) h e = absurd (omega arith)
  new_parent k (suc (suc (suc zero))) h e = absurd (omega arith)
  new_parent k (suc (suc (suc (suc m)))) h e = omega arith

  added_above : (k : ℕ) → parent_of (r.rows ++ element_row r.count r.top r.at j) k ≤ k
  added_above k =
      inside r.count k (λ h. rw (in_first_lem r.rows (element_row r.count r.top r.at j) (4 * k + 1) (omega (arith, d.wide))) (d.above k))
      (λ h. rw (in_second_lem r.rows (element_row r.count r.top r.at j) (4 * k + 1) (omega (arith, d.wide))) (new_parent k (4 * k + 1 - length r.rows) h (omega (arith, d.wide))))

  pub sound_added : (depth top : ℕ) → has_element_room r ≡ true → depth ≤ r.count + 1 → top ≤ r.count → Sound n (added r j depth top)
  sound_added depth top room hd ht =
      record {
        within = in-text;
        counted = omega (arith, d.counted);
        few = omega (arith, ltb-true r.count elements_limit (and_left (ltb r.count elements_limit) (ltb r.depth depth_limit) room));
        shallow = hd;
        wide = rw (length-append r.rows (element_row r.count r.top r.at j)) (omega (arith, d.wide));
        inner = omega arith;
        low = added_low;
        above = added_above;
      }

  pub sound_closed : 0 < r.depth → Sound n (closed r j)
  sound_closed deep =
      record {
        within = in-text;
        counted = omega (arith, d.counted);
        few = d.few;
        shallow = omega (arith, d.shallow);
        wide = length-set r.rows (4 * r.top + 3) j ∙ d.wide;
        inner = omega (arith, d.above r.top, d.inner);
        low = λ k. after_set (λ (x : ℕ). x ≤ j) r.rows (4 * r.top + 3) k j (omega (arith, d.wide, d.inner, d.shallow)) (omega arith) (omega (arith, d.low k));
        above = λ k. rw (get_or-set_other r.rows (4 * r.top + 3) (4 * k + 1) j 0 (λ e. omega arith)) (d.above k);
      }

-- ---- one piece
module _ {A B : Type 0} where
  -- a choice that goes on went on by its first side
  pub chosen : (b : Bool) (x t : A) (y : B) → pick b (on x) (out y) ≡ on t → (b ≡ true) × (x ≡ t)
  chosen true x t y e = (refl, cc)
  chosen false x t y e = absurd (let z : ◌≡◌ {A = ℕ} 0 1 = cc in omega arith)

  pub went : (x t : A) → ◌≡◌ {A = Turn A B} (on x) (on t) → x ≡ t
  went x t e = cc

  pub never_on : {P : Type 0} (y : B) (t : A) → ◌≡◌ {A = Turn A B} (out y) (on t) → P
  never_on y t e = absurd (let z : ◌≡◌ {A = ℕ} 0 1 = cc in omega arith)

  pub gone : (x y : B) → ◌≡◌ {A = Turn A B} (out x) (out y) → x ≡ y
  gone x y e = cc

  never_out : {P : Type 0} (x : A) (y : B) → ◌≡◌ {A = Turn A B} (on x) (out y) → P
  never_out x y e = absurd (let z : ◌≡◌ {A = ℕ} 0 1 = cc in omega arith)

pub closing_on : (s : List ℕ) (r t : Reading) (j : ℕ) → closing s r j ≡ on t → closed r j ≡ t
unfolding closing
closing_on s r t j e = go (is_named s r) (content_fits r) e
  where
    go : (a b : Bool) → pick a (pick b (on (closed r j)) (out (refused PastLimit r.at))) (out (refused Malformed r.at)) ≡ on t → closed r j ≡ t
    go true b e = (chosen b (closed r j) t (refused PastLimit r.at) e).1
    go false b e = never_on _ t e

module _ (s : List ℕ) (r t : Reading) (j : ℕ) (d : Sound (length s) r) (ahead : r.at < j) (in-text : j ≤ length s) where
  adding_sound : (depth top : ℕ) → depth ≤ r.count + 1 → top ≤ r.count → adding r j depth top ≡ on t → Sound (length s) t
  unfolding adding
  adding_sound depth top hd ht e =
      let c = chosen (has_element_room r) (added r j depth top) t (refused PastLimit r.at) e in
      subst (Sound (length s)) c.1 (sound_added (length s) r j d ahead in-text depth top c.0 hd ht)

  passed_sound : ◌≡◌ {A = Turn Reading Read} (on (passed r j)) (on t) → Sound (length s) t
  passed_sound e = subst (Sound (length s)) (went (passed r j) t e) (sound_passed (length s) r j d ahead in-text)

  pub piece_sound : (k : Kind) → (k ≡ End → 0 < r.depth) → by_piece s r (Piece k j) ≡ on t → Sound (length s) t
  unfolding by_piece
  piece_sound Text deep e = passed_sound e
  piece_sound Comment deep e = passed_sound e
  piece_sound Instruction deep e = passed_sound e
  piece_sound Declaration deep e = passed_sound e
  piece_sound Start deep e = adding_sound (r.depth + 1) r.count (omega (arith, d.shallow)) (omega arith) e
  piece_sound Empty deep e = adding_sound r.depth r.top (omega (arith, d.shallow)) (omega (arith, d.inner)) e
  piece_sound End deep e = subst (Sound (length s)) (closing_on s r t j e) (sound_closed (length s) r j d ahead in-text (deep refl))

-- ---- where a turn goes on, it goes on behind its piece
pub behind_piece : (s : List ℕ) (r t : Reading) (x : Scanned) → Within r.at (length s) x → by_piece s r x ≡ on t → r.at < t.at
unfolding by_piece adding
behind_piece s r t (Refused n) w e = never_on _ t e
behind_piece s r t (Piece Text j) w e = subst (λ (u : Reading). r.at < u.at) (went (passed r j) t e) w.0
behind_piece s r t (Piece Comment j) w e = subst (λ (u : Reading). r.at < u.at) (went (passed r j) t e) w.0
behind_piece s r t (Piece Instruction j) w e = subst (λ (u : Reading). r.at < u.at) (went (passed r j) t e) w.0
behind_piece s r t (Piece Declaration j) w e = subst (λ (u : Reading). r.at < u.at) (went (passed r j) t e) w.0
behind_piece s r t (Piece Start j) w e = subst (λ (u : Reading). r.at < u.at) (chosen (has_element_room r) (added r j _ _) t _ e).1 w.0
behind_piece s r t (Piece Empty j) w e = subst (λ (u : Reading). r.at < u.at) (chosen (has_element_room r) (added r j _ _) t _ e).1 w.0
behind_piece s r t (Piece End j) w e = subst (λ (u : Reading). r.at < u.at) (closing_on s r t j e) w.0

-- a turn that ends at a piece is a refusal
module _ (P : Read → Type 0) (each : (n : Reason) (place : ℕ) → P (refused n place)) (s : List ℕ) (r : Reading) (x : Read) where
  picked_out : (b : Bool) (t : Reading) (n : Reason) → pick b (on t) (out (refused n r.at)) ≡ out x → P x
  picked_out true t n e = never_out t x e
  picked_out false t n e = subst P (gone (refused n r.at) x e) (each n r.at)

  closing_out : (j : ℕ) → closing s r j ≡ out x → P x
  unfolding closing
  closing_out j e = go (is_named s r) e
    where
      go : (a : Bool) → pick a (pick (content_fits r) (on (closed r j)) (out (refused PastLimit r.at))) (out (refused Malformed r.at)) ≡ out x → P x
      go true e = picked_out (content_fits r) (closed r j) PastLimit e
      go false e = subst P (gone (refused Malformed r.at) x e) (each Malformed r.at)

  pub piece_out : (p : Scanned) → by_piece s r p ≡ out x → P x
  unfolding by_piece adding
  piece_out (Refused n) e = subst P (gone (refused n r.at) x e) (each n r.at)
  piece_out (Piece Text j) e = never_out (passed r j) x e
  piece_out (Piece Comment j) e = never_out (passed r j) x e
  piece_out (Piece Instruction j) e = never_out (passed r j) x e
  piece_out (Piece Declaration j) e = never_out (passed r j) x e
  piece_out (Piece Start j) e = picked_out (has_element_room r) (added r j (r.depth + 1) r.count) PastLimit e
  piece_out (Piece Empty j) e = picked_out (has_element_room r) (added r j r.depth r.top) PastLimit e
  piece_out (Piece End j) e = closing_out j e
