-- The answer within the rooms by its cases, and what is printed of it.
-- Assumes nothing.
use Rattle.std.specs.Prelude.{Result, Ok, Err}
use Rattle.refusals.specs.declared.Reason.TheVariants.{LongDocument, LongTables}
use Rattle.refusals.specs.declared.Refusal.{Refusal}
use Rattle.refusals.specs.Numbers.{number_of, refuses}
use mathlib.Core.Path.{◌≡◌, refl}
use mathlib.Core.List.{List, ◌++◌}
use Prim.Native.Nat.{ℕ, ◌<◌, ◌≤◌}
use borrow.Author.Tests.{lt-ltb, le-ltb}
use lib.ListN.{length, replicate}
use Rattle.xml_reader.specs.Limits.{scratch_limit}
use Rattle.judge_check.specs.Check.{Outcome, check_of}
use Rattle.judge_check.specs.Check as J
use Rattle.program_texts.specs.Texts.{Put, count_text, finding_lines, refusal_text}
use Rattle.program_answer.specs.Small.{limit, AnswerLeft, small_of, printed, Prints}

module _ (document file table list : List ℕ) where
  pub over_document : limit < length document → AnswerLeft (small_of document file table list) (refuses LongDocument limit) table list
  unfolding small_of
  over_document h = rw (lt-ltb limit (length document) h) (record { answers = refl; tables = refl; lists = refl })

  module _ (h : length document ≤ limit) where
    pub over_tables : limit < length file → AnswerLeft (small_of document file table list) (refuses LongTables limit) table list
    unfolding small_of
    over_tables g = rw (le-ltb limit (length document) h, lt-ltb limit (length file) g) (record { answers = refl; tables = refl; lists = refl })

    pub checked : length file ≤ limit → (r : Result ℕ Refusal) (s t l : List ℕ) → J.CheckLeft (check_of document file (replicate scratch_limit 0) table list) r s t l → AnswerLeft (small_of document file table list) r t l
    unfolding small_of
    checked g r s t l x = rw (le-ltb limit (length document) h, le-ltb limit (length file) g) (record { answers = x.answers; tables = x.tables; lists = x.lists })

module _ (answer : Result ℕ Refusal) (a b l : List ℕ) (r : ℕ) where
  pub findings_printed : (n : ℕ) → answer ≡ Ok n → Put a 0 (count_text n ++ finding_lines l 0 n) r b → Put a 0 (printed answer l) r b
  unfolding printed
  findings_printed n e p = rw e p

  pub refusal_printed : (refusal : Refusal) → answer ≡ Err refusal → (n : ℕ) → n ≡ number_of refusal.reason → Put a 0 (refusal_text n refusal.value) r b → Put a 0 (printed answer l) r b
  unfolding printed
  refusal_printed refusal e n f p = rw (e, ← f) p

pub run_prints : (x : Outcome) (y : Result ℕ Refusal) (t l a b : List ℕ) (r : ℕ) → AnswerLeft x y t l → Put a 0 (printed y l) r b → Prints x r t l a b
run_prints x y t l a b r e p = record { prints = rw (e.answers, e.lists) at p; tables = e.tables; lists = e.lists }
