-- One law for each demand: what is asked of the rows with what stands at the elements' first bytes is asked with what the draft says.
-- Assumes nothing.
use mathlib.Core.Path.{◌≡◌, ◌∙◌}
use mathlib.Core.Bool.{Bool, true, false}
use mathlib.Core.List.{List}
use Prim.Native.Nat.{ℕ}
use Rattle.text_scan.specs.Choice.{not}
use Rattle.text_scan.specs.Bytes.{text}
use Rattle.table_lines.specs.Lines.{rows_at}
use Rattle.table_file.specs.Accepted.{Tables}
use Rattle.table_rows.specs.Rows.{some_row, is_code, is_registered, is_document, is_version, is_key_elsewhere, is_other_key}
use Rattle.xml_values.specs.Attributes.{attribute_of}
use Rattle.xml_texts.specs.Texts.{text_of}
use Rattle.judge_paths.specs.declared.DocumentType.{DocumentType}
use Rattle.judge_draft.specs.declared.Demand.{Demand}
use Rattle.judge_draft.specs.declared.Demand.TheVariants.{Nothing, Broken, CodeRow, NameRow, NoDocument, NoVersion, NoKeyElsewhere, NoOtherKey}
use Rattle.judge_draft.specs.Drafts.{Draft, draft, first, attribute, said}
use Rattle.judge_header.specs.Header.{request_code}
use Rattle.judge_answers.specs.declared.Places.{Places}
use Rattle.judge_answers.specs.Answers.{type_code, tables_at, is_broken}

-- what an element of the draft says stands at its first byte
module _ (s notes : List ℕ) (k at : ℕ) (e : at ≡ first (draft s notes) k) where
  pub attribute_there : (name : List ℕ) → attribute_of s at name ≡ attribute (draft s notes) k name
  unfolding draft attribute
  attribute_there name = rw e

  text_there : text_of s at ≡ said (draft s notes) k
  unfolding draft said
  text_there = rw e

module _ (s notes : List ℕ) (k at : ℕ) (e : at ≡ first (draft s notes) k) where
  its : (name : List ℕ) → attribute_of s at name ≡ attribute (draft s notes) k name
  its = attribute_there s notes k at e

  module _ (f : List ℕ) (p : Places) (x : Demand) (r : Bool) where
    pub wants_code : x ≡ CodeRow k → r ≡ some_row (is_code (attribute_of s at (text "code")) (attribute_of s at (text "codeSystem")) (attribute_of s at (text "displayName"))) (rows_at f p.codes p.ncodes) → not r ≡ is_broken (draft s notes) (tables_at f p) x
    unfolding is_broken
    wants_code g h = rw (g, h, its (text "code"), its (text "codeSystem"), its (text "displayName"))

    pub forbids_document : x ≡ NoDocument k → r ≡ some_row (is_document (attribute_of s at (text "root"))) (rows_at f p.history p.nhistory) → r ≡ is_broken (draft s notes) (tables_at f p) x
    unfolding is_broken
    forbids_document g h = h ∙ rw (g, its (text "root"))

  -- and of a second element
  module _ (n from : ℕ) (d : from ≡ first (draft s notes) n) (f : List ℕ) (p : Places) (r : Bool) where
    pub wants_name : (x : Demand) → x ≡ NameRow k n → r ≡ some_row (is_registered (attribute_of s at (text "extension")) (text_of s from)) (rows_at f p.names p.nnames) → not r ≡ is_broken (draft s notes) (tables_at f p) x
    unfolding is_broken
    wants_name x g h = rw (g, h, its (text "extension"), text_there s notes n from d)

    pub forbids_version : (x : Demand) → x ≡ NoVersion k n → r ≡ some_row (is_version (attribute_of s at (text "root")) (attribute_of s from (text "value"))) (rows_at f p.history p.nhistory) → r ≡ is_broken (draft s notes) (tables_at f p) x
    unfolding is_broken
    forbids_version x g h = h ∙ rw (g, its (text "root"), attribute_there s notes n from d (text "value"))

    pub asked_of_type : (t u : DocumentType) → t ≡ u → r ≡ some_row (is_key_elsewhere (type_code u) (attribute_of s at (text "extension")) (attribute_of s from (text "root"))) (rows_at f p.history p.nhistory) → r ≡ some_row (is_key_elsewhere (type_code t) (attribute (draft s notes) k (text "extension")) (attribute (draft s notes) n (text "root"))) (rows_at f p.history p.nhistory)
    asked_of_type t u i g = g ∙ rw (its (text "extension"), attribute_there s notes n from d (text "root"), i)

    pub other_asked : r ≡ some_row (is_other_key request_code (attribute_of s from (text "root")) (attribute_of s at (text "extension"))) (rows_at f p.history p.nhistory) → r ≡ some_row (is_other_key request_code (attribute (draft s notes) n (text "root")) (attribute (draft s notes) k (text "extension"))) (rows_at f p.history p.nhistory)
    other_asked g = g ∙ rw (its (text "extension"), attribute_there s notes n from d (text "root"))

module _ (d : Draft) (t : Tables) (x : Demand) where
  pub asks_nothing : x ≡ Nothing → false ≡ is_broken d t x
  unfolding is_broken
  asks_nothing e = rw e

  pub asks_broken : x ≡ Broken → true ≡ is_broken d t x
  unfolding is_broken
  asks_broken e = rw e

module _ (d : Draft) (s : List ℕ) (p : Places) (x : Demand) (k n : ℕ) (r : Bool) where
  pub forbids_elsewhere : (t : DocumentType) → x ≡ NoKeyElsewhere t k n → r ≡ some_row (is_key_elsewhere (type_code t) (attribute d k (text "extension")) (attribute d n (text "root"))) (rows_at s p.history p.nhistory) → r ≡ is_broken d (tables_at s p) x
  unfolding is_broken
  forbids_elsewhere t e f = f ∙ rw e

  pub forbids_other : x ≡ NoOtherKey k n → r ≡ some_row (is_other_key request_code (attribute d n (text "root")) (attribute d k (text "extension"))) (rows_at s p.history p.nhistory) → r ≡ is_broken d (tables_at s p) x
  unfolding is_broken
  forbids_other e f = f ∙ rw e
