-- What a merge answers, in document 01's numbers.
-- Assumes nothing.
use Rattle.std.specs.Prelude.{[], ◌∷◌, Result, Ok, Err, ℕ}
use Rattle.refusals.specs.declared.Refusal.{Refusal}
use Rattle.refusals.specs.Numbers.{number_of}
use Rattle.text_scan.specs.Numbered.{Numbered, numbered}

-- how many findings; or 11 to 13 with what the refusal returns
abbrev pub numbered_merge : Result ℕ Refusal → Numbered
numbered_merge (Ok count) = numbered 0 (count ∷ [])
numbered_merge (Err refusal) = numbered (number_of refusal.reason) (refusal.value ∷ [])
