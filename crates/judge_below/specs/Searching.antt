-- What the private functions answer that look for the elements below an element, and no definition of document 01.
-- Assumes nothing.
use Rattle.std.specs.Prelude.{ℕ, Bool, List, eqb}
use Rattle.text_scan.specs.Choice.{◌and◌}
use Rattle.judge_below.specs.declared.Wanted.{Wanted}
use Rattle.judge_draft.specs.Drafts.{Draft}
use Rattle.judge_draft.specs.Searched.{searched_from}
use Rattle.judge_tests.specs.Passing.{passes}
use Rattle.judge_below.specs.Chosen.{ancestor, meets}

-- element k stands so many levels below n, and passes the test
unfoldable pub passes_below : Draft → Wanted → ℕ → ℕ → Bool
passes_below d w n k = eqb (ancestor d w.levels k) n and passes d w.test k

-- what is looked for below n, from element k on
unfoldable pub chosen_from : Draft → Wanted → ℕ → ℕ → List ℕ
chosen_from d w n k = searched_from d.notes w.levels (meets d w) n k
