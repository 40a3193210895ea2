-- What a reading answers, in document 01's numbers.
-- Assumes nothing.
use Rattle.std.specs.Prelude.{[], ◌∷◌, Result, Ok, Err, ℕ}
use Rattle.refusals.specs.declared.Refusal.{Refusal}
use Rattle.refusals.specs.Numbers.{number_of}
use Rattle.text_scan.specs.Numbered.{Numbered, numbered}

-- how many elements; or 1 or 5 to 9 with the place, the length or the elements needed
abbrev pub numbered_reading : Result ℕ Refusal → Numbered
numbered_reading (Ok count) = numbered 0 (count ∷ [])
numbered_reading (Err refusal) = numbered (number_of refusal.reason) (refusal.value ∷ [])
