-- What a list of findings that is told of a draft holds, in the words of the laws about it.
-- Assumes nothing.
use Rattle.std.specs.Prelude.{ℕ, ◌<◌, ◌≤◌, ◌≡◌, Bool, true}
use Rattle.list_findings.specs.declared.Finding.{Finding}
use Rattle.list_findings.specs.Findings.{last_procedure}
use Rattle.judge_draft.specs.Drafts.{Draft, element_count, first, after}
use Rattle.judge_findings.specs.Listed.{finding}

-- a procedure and an element of the draft
pub record Judged (d : Draft) (n p : ℕ) : Type 0 where
  pub element : n < element_count d
  pub least : 1 ≤ p
  pub most : p ≤ last_procedure

-- a record is that of a procedure and an element at which it is broken
pub record Holds (d : Draft) (b : ℕ → ℕ → Bool) (r : Finding) : Type 0 where
  pub n : ℕ
  pub p : ℕ
  pub judged : Judged d n p
  pub broken : b n p ≡ true
  pub is : r ≡ finding d n p

-- elements in document order: first bytes rise, and each element ends behind its first byte
pub record InDocumentOrder (d : Draft) : Type 0 where
  pub rises : (j k : ℕ) → j < k → k < element_count d → first d j < first d k
  pub ends : (k : ℕ) → k < element_count d → first d k < after d k
