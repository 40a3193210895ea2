-- The next records of two lists, and what is done with them: the step of `list_steps`, of the two heads. No definition of document 01: private
-- functions answer it.
-- Assumes nothing.
use Rattle.std.specs.Prelude.{ℕ, ◌+◌, ◌%◌, ◌≤◌, ◌≡◌, List, length, get_or, Option, Some, None}
use Rattle.list_findings.specs.declared.Finding.{Finding}
use Rattle.list_findings.specs.Findings.{width, flat}
use Rattle.list_findings.specs.Merge.{origin}
use Rattle.list_steps.specs.declared.Stepped.{Stepped}
use Rattle.list_steps.specs.declared.Stepped.TheVariants.{Over}
use Rattle.list_steps.specs.Step.{alone_of, pair_of}

-- the record with number i; past the end stands what stands before all records
abbrev pub nth : List Finding → ℕ → Finding
nth rs i = get_or rs i origin

unfoldable pub decide_of : Option Finding → ℕ → Option Finding → ℕ → Stepped
decide_of None i None j = Over
decide_of None i (Some y) j = alone_of y i (j + width)
decide_of (Some x) i None j = alone_of x (i + width) j
decide_of (Some x) i (Some y) j = pair_of x y i j

-- a place at which a record begins, or the end
pub record Place (rs : List Finding) (i : ℕ) : Type 0 where
  pub whole : i % width ≡ 0
  pub within : i ≤ length (flat rs)
