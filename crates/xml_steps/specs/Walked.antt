-- What the contracts of the code speak of, and no definition of document 01: what the code holds, as a reading, and what a step asks.
-- Assumes nothing.
use Rattle.std.specs.Prelude.{ℕ, ◌+◌, ◌*◌, ◌-◌, ◌<◌, ◌≤◌, ◌≡◌, List, length, take, drop, get_or, Result, Ok, Err}
use Rattle.refusals.specs.declared.Reason.{Reason}
use Rattle.text_scan.specs.Lists.{run_from}
use Rattle.text_scan.specs.Turns.{Turn, on, out}
use Rattle.xml_names.specs.Names.{is_name_char}
use Rattle.xml_reader.specs.declared.Reader.{Reader}
use Rattle.xml_reader.specs.Limits.{document_limit, elements_limit}
use Rattle.xml_pieces.specs.declared.Kind.{Kind}
use Rattle.xml_pieces.specs.declared.Kind.TheVariants.{End}
use Rattle.xml_steps.specs.Reading.{Reading, Read, refused, parent_of}

unfoldable pub reading : Reader → List ℕ → Reading
reading d numbers = record { at = d.at; count = d.count; depth = d.depth; top = d.top; rows = take (4 * d.count) numbers }

unfoldable pub turn_of : ℕ → Result Reader Reason → List ℕ → Turn Reading Read
turn_of at (Ok d) numbers = on (reading d numbers)
turn_of at (Err n) numbers = out (refused n at)

-- the bytes of a name from position i on, whether a name starts there or not
unfoldable pub name_bytes : List ℕ → ℕ → List ℕ
name_bytes s i = take (run_from is_name_char s i - i) (drop i s)

-- what each reading keeps, so that its numbers are places and rows that exist
pub record Sound (n : ℕ) (r : Reading) : Type 0 where
  pub within : r.at ≤ n
  pub counted : r.count ≤ r.at
  pub few : r.count ≤ elements_limit
  pub shallow : r.depth ≤ r.count
  pub wide : length r.rows ≡ 4 * r.count
  pub inner : r.top ≤ r.count - 1
  pub low : (k : ℕ) → get_or r.rows k 0 ≤ r.at
  pub above : (k : ℕ) → parent_of r.rows k ≤ k

-- what a step asks: a sound reading inside the document, and the place after a piece there; an end tag is inside the root and
-- has its two first bytes
pub record Steps (s : List ℕ) (r : Reading) (kind : Kind) (after : ℕ) : Type 0 where
  pub sound : Sound (length s) r
  pub short : length s ≤ document_limit
  pub ahead : r.at < after
  pub inside : after ≤ length s
  pub ends : kind ≡ End → (0 < r.depth) × (r.at + 2 ≤ after)

-- the numbers have room for the rows of each number of elements that n bytes can hold, of which each takes one at least
pub record Roomy (n : ℕ) (numbers : List ℕ) : Type 0 where
  pub room : (count : ℕ) → count ≤ n → count ≤ elements_limit → 4 * count ≤ length numbers
