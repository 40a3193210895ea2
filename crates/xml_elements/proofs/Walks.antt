-- The walk over the pieces, by what its loop knows: the reading from the start is the reading from here, and it is sound.
-- Assumes nothing.
use Rattle.std.specs.Prelude.{Result, Ok, Err}
use Rattle.refusals.specs.declared.Reason.TheVariants.{Malformed}
use Rattle.refusals.specs.declared.Reason.{Reason}
use Rattle.refusals.specs.declared.Refusal.{Refusal}
use Rattle.refusals.specs.Numbers.{refuses}
use mathlib.Core.Path.{◌≡◌, refl, sym, ◌∙◌, ap, subst}
use mathlib.Core.Bool.{Bool, true, false}
use mathlib.Core.List.{List}
use Prim.Native.Nat.{ℕ, zero, suc, ◌-◌, ◌*◌, ◌<◌, ◌≤◌}
use native.Mathlib.Omega.{arith}
use borrow.Author.Tests.{lt-ltb, le-ltb, eq-eqb, ne_eqb, ltb-true}
use lib.Dec.{ltb, eqb}
use lib.ListN.{length}
use Rattle.text_scan.specs.Choice.{pick, ◌and◌}
use Rattle.text_scan.specs.Turns.{on, out}
use Rattle.text_scan.proofs.Turns.{run_on, run_out, run_keeps}
use Rattle.text_scan.proofs.Tests.{and_false, pick_case}
use Rattle.xml_reader.specs.declared.Reader.{Reader}
use Rattle.xml_reader.specs.Limits.{document_limit, elements_limit}
use Rattle.xml_pieces.specs.declared.Kind.{Kind}
use Rattle.xml_pieces.specs.declared.Kind.TheVariants.{End}
use Rattle.xml_pieces.specs.declared.DocumentPart.TheVariants.{Inside}
use Rattle.xml_pieces.specs.declared.Scanned.{Scanned}
use Rattle.xml_pieces.specs.declared.Scanned.TheVariants.{Piece, Refused as Refusing}
use Rattle.xml_pieces.specs.Pieces.{piece_at}
use Rattle.xml_pieces.proofs.Within.{Within, piece_within, end_inside}
use Rattle.xml_steps.specs.Reading.{Reading, Read, refused, fresh, document_part, by_piece, elements}
use Rattle.xml_elements.specs.Elements.{at_end, turn, left, read_from}
use Rattle.xml_steps.specs.Walked.{reading, turn_of, Sound, Steps}
use Rattle.xml_elements.specs.Walked.{read_of, piece_refused, stop_of}
use Rattle.xml_steps.proofs.Keeps.{never_on, gone, behind_piece, piece_sound, piece_out}

-- ---- the measure falls
pub turn_falls : (s : List ℕ) (r t : Reading) → turn s r ≡ on t → left s t < left s r
unfolding turn
turn_falls s r t e = go (ltb r.at (length s)) refl e
  where
    go : (b : Bool) → ltb r.at (length s) ≡ b → pick b (by_piece s r (piece_at s r.at (document_part r.count r.depth))) (out (at_end s r)) ≡ on t → left s t < left s r
    go true q e =
        let h : r.at < length s = ltb-true r.at (length s) q in
        let g : r.at < t.at = behind_piece s r t (piece_at s r.at (document_part r.count r.depth)) (piece_within s r.at (document_part r.count r.depth) h) e in
        omega arith
    go false q e = never_on _ t e

-- ---- a turn changes nothing of the answer
module _ (s : List ℕ) (r : Reading) where
  reads_on : (t : Reading) → turn s r ≡ on t → read_from s r ≡ read_from s t
  unfolding read_from
  reads_on t e = run_on (turn s) (refused Malformed (length s)) (left s) (turn_falls s) r t e

  reads_out : (x : Read) → turn s r ≡ out x → read_from s r ≡ x
  unfolding read_from
  reads_out x e = run_out (turn s) (refused Malformed (length s)) (left s) (turn_falls s) r x e

-- ---- the loop
abbrev pub Told : List ℕ → Reader → List ℕ → Type 0
Told s d numbers = (read_from s fresh ≡ read_from s (reading d numbers)) × Sound (length s) (reading d numbers)

pub fresh_sound : (n : ℕ) → Sound n fresh
fresh_sound n =
    record { within = omega arith; counted = omega arith; few = omega arith; shallow = omega arith; wide = refl; inner = omega arith; low = λ k. omega arith; above = λ k. omega arith }

fresh_reading : (d : Reader) (numbers : List ℕ) → (d.at ≡ 0) × (d.count ≡ 0) × (d.depth ≡ 0) × (d.top ≡ 0) → fresh ≡ reading d numbers
unfolding reading
fresh_reading d numbers e = rw (e.0, e.1, e.2, e.3)

pub told_start : (s : List ℕ) (d : Reader) (numbers : List ℕ) → (d.at ≡ 0) × (d.count ≡ 0) × (d.depth ≡ 0) × (d.top ≡ 0) → Told s d numbers
told_start s d numbers e =
    (ap (read_from s) (fresh_reading d numbers e), subst (Sound (length s)) (fresh_reading d numbers e) (fresh_sound (length s)))

pub part_deep : (count depth : ℕ) → document_part count depth ≡ Inside → 0 < depth
part_deep count (suc depth) e = omega arith
part_deep zero zero e = absurd (let z : ◌≡◌ {A = ℕ} 0 1 = cc in omega arith)
part_deep (suc count) zero e = absurd (let z : ◌≡◌ {A = ℕ} 0 1 = cc in omega arith)

module _ (s : List ℕ) (d : Reader) (numbers : List ℕ) (w : Told s d numbers) where
  pub told_end : length s ≤ d.at → read_from s fresh ≡ at_end s (reading d numbers)
  unfolding turn reading
  told_end h = w.0 ∙ reads_out s (reading d numbers) (at_end s (reading d numbers)) (rw (le-ltb _ _ h))

  pub open_left : length s ≤ d.at → 0 < d.depth → read_of (refuses Malformed (length s)) numbers ≡ read_from s fresh
  unfolding reading read_of
  open_left h g = sym (told_end h ∙ rw (ne_eqb d.depth 0 (λ e. omega arith)))

  pub no_root : length s ≤ d.at → d.count < 1 → read_of (refuses Malformed (length s)) numbers ≡ read_from s fresh
  unfolding reading read_of
  no_root h g = sym (told_end h ∙ rw (le-ltb 0 d.count (omega arith), and_false (eqb d.depth 0)))

  pub all_read : length s ≤ d.at → d.depth ≤ 0 → 1 ≤ d.count → read_of (Ok d.count) numbers ≡ read_from s fresh
  unfolding reading read_of
  all_read h g k =
      let q : d.depth ≡ 0 = omega arith in
      sym (told_end h ∙ rw (eq-eqb d.depth 0 q, lt-ltb 0 d.count (omega arith)))

  module _ (h : d.at < length s) (x : Scanned) (ex : x ≡ piece_at s d.at (document_part d.count d.depth)) where
    this_turn : turn s (reading d numbers) ≡ by_piece s (reading d numbers) x
    unfolding turn reading
    this_turn = rw (lt-ltb _ _ h, ← ex)

    pub piece_refused_lem : (n : Reason) (r : Result ℕ Refusal) → x ≡ Refusing n → r ≡ piece_refused x d.at → read_of r numbers ≡ read_from s fresh
    unfolding by_piece reading read_of
    piece_refused_lem n r e f =
        rw (f, e) (sym (w.0 ∙ reads_out s (reading d numbers) (refused n d.at) (this_turn ∙ ap (by_piece s (reading d numbers)) e)))

    module _ (k : Kind) (j : ℕ) (e : x ≡ Piece k j) where
      there : Within d.at (length s) (Piece k j)
      there = subst (Within d.at (length s)) (sym ex ∙ e) (piece_within s d.at (document_part d.count d.depth) h)

      pub steps : length s ≤ document_limit → Steps s (reading d numbers) k j
      unfolding reading
      steps short =
          record {
            sound = w.1;
            short = short;
            ahead = there.0;
            inside = there.1;
            ends = λ q.
                let z : piece_at s d.at (document_part d.count d.depth) ≡ Piece End j = sym ex ∙ e ∙ ap (λ (y : Kind). Piece y j) q in
                (part_deep d.count d.depth (end_inside s d.at j _ z).0, (end_inside s d.at j _ z).1);
          }

      module _ (short : length s ≤ document_limit) (y : Result Reader Reason) (numbers' : List ℕ) (ey : turn_of d.at y numbers' ≡ by_piece s (reading d numbers) (Piece k j)) where
        next_turn : turn s (reading d numbers) ≡ turn_of d.at y numbers'
        next_turn = this_turn ∙ ap (by_piece s (reading d numbers)) e ∙ sym ey

        pub step_stopped : (n : Reason) (r : Result ℕ Refusal) → y ≡ Err n → r ≡ stop_of y d.at → read_of r numbers' ≡ read_from s fresh
        unfolding turn_of read_of
        step_stopped n r q f =
            rw (f, q) (sym (w.0 ∙ reads_out s (reading d numbers) (refused n d.at) (next_turn ∙ rw q)))

        pub told_again : (d' : Reader) → y ≡ Ok d' → Told s d' numbers'
        unfolding turn_of
        told_again d' q =
            let on' : turn_of d.at y numbers' ≡ on (reading d' numbers') = rw q in (
              w.0 ∙ reads_on s (reading d numbers) (reading d' numbers') (next_turn ∙ on'),
              piece_sound s (reading d numbers) (reading d' numbers') j w.1 (steps short).ahead (steps short).inside k (λ z. ((steps short).ends z).0) (sym ey ∙ on'),
            )

        pub told_less : (d' : Reader) → y ≡ Ok d' → length s - d'.at < length s - d.at
        unfolding turn_of reading
        told_less d' q =
            turn_falls s (reading d numbers) (reading d' numbers') (next_turn ∙ rw q)

-- ---- what every reading has
pub refused_never : {P : Type 0} (s : List ℕ) (r t : Reading) (n : Reason) → by_piece s r (Refusing n) ≡ on t → P
unfolding by_piece
refused_never s r t n e = never_on (refused n r.at) t e

pub turn_sound : (s : List ℕ) (r t : Reading) → Sound (length s) r → turn s r ≡ on t → Sound (length s) t
unfolding turn
turn_sound s r t w e = go (ltb r.at (length s)) refl (piece_at s r.at (document_part r.count r.depth)) refl e
  where
    go : (b : Bool) → ltb r.at (length s) ≡ b → (x : Scanned) → piece_at s r.at (document_part r.count r.depth) ≡ x → pick b (by_piece s r x) (out (at_end s r)) ≡ on t → Sound (length s) t
    go true q (Piece k j) ex e =
        let h : r.at < length s = ltb-true r.at (length s) q in
        let n : Within r.at (length s) (Piece k j) = subst (Within r.at (length s)) ex (piece_within s r.at (document_part r.count r.depth) h) in
        piece_sound s r t j w n.0 n.1 k (λ z. part_deep r.count r.depth (end_inside s r.at j _ (ex ∙ ap (λ (y : Kind). Piece y j) z)).0) e
    go true q (Refusing n) ex e = refused_never s r t n e
    go false q x ex e = never_on (at_end s r) t e

-- ---- what the walk leaves: no more elements than the limit, and four numbers for each
abbrev pub Rowed : Read → Type 0
Rowed (refused n place) = Unit {0}
Rowed (elements n rows) = (n ≤ elements_limit) × (length rows ≡ 4 * n)

turn_rowed : (s : List ℕ) (r : Reading) (x : Read) → Sound (length s) r → turn s r ≡ out x → Rowed x
unfolding turn
turn_rowed s r x d e = go (ltb r.at (length s)) e
  where
    go : (b : Bool) → pick b (by_piece s r (piece_at s r.at (document_part r.count r.depth))) (out (at_end s r)) ≡ out x → Rowed x
    go true e = piece_out Rowed (λ n place. tt) s r x (piece_at s r.at (document_part r.count r.depth)) e
    go false e =
        subst Rowed (gone (at_end s r) x e)
        (pick_case Rowed (eqb r.depth 0 and ltb 0 r.count) _ _ (λ _. (d.few, d.wide)) (λ _. tt))

pub reading_rowed : (s : List ℕ) → Rowed (read_from s fresh)
unfolding read_from
reading_rowed s =
    run_keeps (turn s) (refused Malformed (length s)) (left s) (turn_falls s) (Sound (length s)) Rowed (turn_sound s) (turn_rowed s) fresh (fresh_sound (length s))
