-- What `read` answers and leaves, by the tests in which the code looks.
-- Assumes nothing.
use Rattle.std.specs.Prelude.{Result, Ok, Err}
use Rattle.refusals.specs.declared.Reason.TheVariants.{LongDocument, BadCharacter, Malformed, ShortElements}
use Rattle.refusals.specs.declared.Reason.{Reason}
use Rattle.refusals.specs.declared.Refusal.{Refusal}
use Rattle.refusals.specs.Numbers.{refuses}
use mathlib.Core.Path.{◌≡◌, refl, sym, ◌∙◌, subst}
use mathlib.Core.List.{List, ◌++◌}
use Prim.Native.Nat.{ℕ, ◌*◌, ◌<◌, ◌≤◌, ◌+◌, ◌-◌}
use borrow.Author.Tests.{lt-ltb, le-ltb, le-leb, lt-leb}
use lib.ListN.{length, take, drop}
use Rattle.text_chars.specs.Utf8.{first_bad}
use Rattle.xml_reader.specs.Limits.{document_limit, elements_limit}
use Rattle.xml_steps.specs.Reading.{Read, refused, elements, fresh}
use Rattle.xml_elements.specs.Elements.{read_from, elements_of, ElementsLeft}
use Rattle.xml_elements.specs.Walked.{read_of, piece_refused, stop_of}
use Rattle.xml_steps.proofs.Steps.{front_fits}
use Rattle.xml_elements.proofs.Walks.{Rowed, reading_rowed}
use lib.Dec.{ltb, leb}
use Rattle.xml_reader.specs.declared.Reader.{Reader}
use Rattle.xml_pieces.specs.declared.Kind.{Kind}
use Rattle.xml_pieces.specs.declared.Scanned.{Scanned}
use Rattle.xml_pieces.specs.declared.Scanned.TheVariants.{Piece, Refused as Refusing}
use Rattle.xml_steps.specs.Walked.{reading}

module _ (table : List ℕ) where
  pub is_refused : (r : Result ℕ Refusal) (numbers : List ℕ) (x : Read) → read_of r numbers ≡ x → (refusal : Refusal) → r ≡ Err refusal → ElementsLeft x table r table
  unfolding read_of
  is_refused r numbers x w refusal q =
      let e : refused refusal.reason refusal.value ≡ x = rw q at w in
      subst (λ (y : Read). ElementsLeft y table r table) e (record { answers = q; leaves = refl })

  module _ (numbers : List ℕ) (n : ℕ) where
    pub too_small : length table < 4 * n → ElementsLeft (elements n (take (4 * n) numbers)) table (refuses ShortElements n) table
    too_small l = record { answers = rw (lt-leb _ _ l); leaves = rw (lt-leb _ _ l) }

    pub is_filled : (t : List ℕ) → 4 * n ≤ length table → t ≡ take (4 * n) numbers ++ drop (4 * n) table → ElementsLeft (elements n (take (4 * n) numbers)) table (Ok n) t
    is_filled t l p = record { answers = rw (le-leb _ _ l); leaves = rw (le-leb _ _ l) p }

-- the rows that the walk has left
module _ (s : List ℕ) (r : Result ℕ Refusal) (numbers : List ℕ) (w : read_of r numbers ≡ read_from s fresh) (n : ℕ) (q : r ≡ Ok n) where
  all_rows : read_from s fresh ≡ elements n (take (4 * n) numbers)
  unfolding read_of
  all_rows = sym w ∙ rw q

  pub rows_few : n ≤ elements_limit
  rows_few = (subst Rowed all_rows (reading_rowed s)).0

  pub rows_there : 4 * n ≤ length numbers
  rows_there = front_fits (4 * n) numbers (subst Rowed all_rows (reading_rowed s)).1

  pub is_delivered : (table : List ℕ) (a : Result ℕ Refusal) (t : List ℕ) → ElementsLeft (elements n (take (4 * n) numbers)) table a t → ElementsLeft (read_from s fresh) table a t
  is_delivered table a t d = rw all_rows d

-- refusals 1 and 5, and none of them
module _ (s table : List ℕ) where
  pub too_long : document_limit < length s → ElementsLeft (elements_of s) table (refuses LongDocument (length s)) table
  unfolding elements_of
  too_long h = rw (lt-ltb document_limit (length s) h) (record { answers = refl; leaves = refl })

  module _ (h : length s ≤ document_limit) (b : ℕ) (e : b ≡ first_bad s) where
    pub bad_byte : b < length s → ElementsLeft (elements_of s) table (refuses BadCharacter b) table
    unfolding elements_of
    bad_byte g = rw (le-ltb document_limit (length s) h, ← e, lt-ltb b (length s) g) (record { answers = refl; leaves = refl })

    pub all_chars : (a : Result ℕ Refusal) (t : List ℕ) → length s ≤ b → ElementsLeft (read_from s fresh) table a t → ElementsLeft (elements_of s) table a t
    unfolding elements_of
    all_chars a t g d = rw (le-ltb document_limit (length s) h, ← e, le-ltb b (length s) g) d

-- ---- refusals
pub refused_piece : (x : Scanned) (n : Reason) (at : ℕ) → x ≡ Refusing n → refuses n at ≡ piece_refused x at
refused_piece x n at e = rw e

pub no_refused_piece : (x : Scanned) (k : Kind) (j at : ℕ) → x ≡ Piece k j → refuses Malformed at ≡ piece_refused x at
no_refused_piece x k j at e = rw e

pub stopped_step : (x : Result Reader Reason) (n : Reason) (at : ℕ) → x ≡ Err n → refuses n at ≡ stop_of x at
stopped_step x n at e = rw e

pub no_stopped_step : (x : Result Reader Reason) (d : Reader) (at : ℕ) → x ≡ Ok d → refuses Malformed at ≡ stop_of x at
no_stopped_step x d at e = rw e
