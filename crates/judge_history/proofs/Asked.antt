-- What is asked with a value that was read is asked with what the document says.
-- Assumes nothing.
use mathlib.Core.Path.{◌≡◌, ◌∙◌}
use mathlib.Core.Bool.{Bool, true}
use mathlib.Core.List.{List}
use Prim.Native.Nat.{ℕ}
use Rattle.table_lines.specs.Lines.{Row}
use Rattle.table_index.specs.declared.Lookup.{Lookup}
use Rattle.table_rows.specs.declared.Question.{Question}
use Rattle.table_rows.specs.Rows.{some_row, is_asked, is_document, is_version, is_key_elsewhere, is_other_key}
use Rattle.table_sets.specs.declared.Keys.{Keys}
use Rattle.table_index.specs.Indexed.{keeps_row, Serves}
use Rattle.table_sets.specs.SetKeys.{keys_of}
use Rattle.judge_header.specs.Header.{request_code}
use Rattle.judge_history.specs.Told.{Told}

module _ (v w : List ℕ) (f : v ≡ w) (l : List Row) (r : Bool) where
  pub document_asked : r ≡ some_row (is_document v) l → r ≡ some_row (is_document w) l
  document_asked g = g ∙ rw f

  pub version_asked : (a b : List ℕ) → a ≡ b → r ≡ some_row (is_version v a) l → r ≡ some_row (is_version w b) l
  version_asked a b e g = g ∙ rw (f, e)

  module _ (a b : List ℕ) where
    pub set_asked : r ≡ some_row (is_asked Question.KeyElsewhere a b v) l → r ≡ some_row (is_key_elsewhere a b w) l
    unfolding is_asked
    set_asked g = g ∙ rw f

    pub key_asked : r ≡ some_row (is_key_elsewhere a v b) l → r ≡ some_row (is_key_elsewhere a w b) l
    key_asked g = g ∙ rw f

  module _ (a : List ℕ) where
    pub beside_asked : r ≡ some_row (is_other_key request_code v a) l → r ≡ some_row (is_other_key request_code w a) l
    beside_asked g = g ∙ rw f

    pub other_asked : r ≡ some_row (is_other_key request_code a v) l → r ≡ some_row (is_other_key request_code a w) l
    other_asked g = g ∙ rw f

-- what serves, or is told of, what the document says is so of the value that was read
module _ (v w : List ℕ) (f : v ≡ w) (s : List ℕ) (at count : ℕ) where
  pub set_served : (a x : List ℕ) → Serves Lookup.KeyElsewhere (keeps_row Lookup.KeyElsewhere a w) s at count x → Serves Lookup.KeyElsewhere (keeps_row Lookup.KeyElsewhere a v) s at count x
  set_served a x l = rw f l

  pub set_told : (known : Bool) (keys : Keys) → Told known keys w s at count → Told known keys v s at count
  set_told known keys l = rw f l

pub told_here : (known : Bool) (keys : Keys) (set s : List ℕ) (at count : ℕ) → Told known keys set s at count → known ≡ true → keys ≡ keys_of request_code set s at count
told_here known keys set s at count l e = l.told e
