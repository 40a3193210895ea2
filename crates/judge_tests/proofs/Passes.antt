-- A test, by the branches of its function.
-- Assumes nothing.
use mathlib.Core.Path.{◌≡◌, ◌∙◌}
use mathlib.Core.Bool.{Bool, true}
use Prim.Native.Nat.{ℕ}
use Rattle.text_scan.specs.Bytes.{text}
use Rattle.text_facts.specs.Strings.{equal, begins_with}
use Rattle.judge_tests.specs.declared.Test.{Test}
use Rattle.judge_tests.specs.declared.Test.TheVariants.{Any, DunsRoot, LabelerRoot, Telephone, Mail, Agent, Import, Empty}
use Rattle.judge_draft.specs.Drafts.{Draft, attribute, said, is_empty}
use Rattle.judge_tests.specs.Passing.{duns_root, labeler_root, agent_code, import_code, passes}

module _ (d : Draft) (k : ℕ) (w : Test) where
  pub passes_any : w ≡ Any → true ≡ passes d w k
  unfolding passes
  passes_any g = rw g

  module _ (r : Bool) where
    pub passes_duns : w ≡ DunsRoot → r ≡ equal (attribute d k (text "root")) duns_root → r ≡ passes d w k
    unfolding passes
    passes_duns g e = e ∙ rw g

    pub passes_labeler : w ≡ LabelerRoot → r ≡ equal (attribute d k (text "root")) labeler_root → r ≡ passes d w k
    unfolding passes
    passes_labeler g e = e ∙ rw g

    pub passes_telephone : w ≡ Telephone → r ≡ begins_with (text "tel:") (attribute d k (text "value")) → r ≡ passes d w k
    unfolding passes
    passes_telephone g e = e ∙ rw g

    pub passes_mail : w ≡ Mail → r ≡ begins_with (text "mailto:") (attribute d k (text "value")) → r ≡ passes d w k
    unfolding passes
    passes_mail g e = e ∙ rw g

    pub passes_agent : w ≡ Agent → r ≡ equal (attribute d k (text "code")) agent_code → r ≡ passes d w k
    unfolding passes
    passes_agent g e = e ∙ rw g

    pub passes_import : w ≡ Import → r ≡ equal (attribute d k (text "code")) import_code → r ≡ passes d w k
    unfolding passes
    passes_import g e = e ∙ rw g

    pub passes_empty : w ≡ Empty → r ≡ is_empty (said d k) → r ≡ passes d w k
    unfolding passes
    passes_empty g e = e ∙ rw g
