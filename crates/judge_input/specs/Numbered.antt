-- What is answered of what is handed in, in document 01's numbers.
-- Assumes nothing.
use Rattle.std.specs.Prelude.{[], ◌∷◌, Result, Ok, Err}
use Rattle.refusals.specs.declared.Refusal.{Refusal}
use Rattle.refusals.specs.Numbers.{number_of}
use Rattle.judge_input.specs.declared.Sections.{Sections}
use Rattle.text_scan.specs.Numbered.{Numbered, numbered}

-- of each section where its rows start and how many there are; or 1 to 4 with the length, 4,096 or the place
abbrev pub numbered_input : Result Sections Refusal → Numbered
numbered_input (Ok x) = numbered 0 (x.codes ∷ x.ncodes ∷ x.names ∷ x.nnames ∷ x.history ∷ x.nhistory ∷ [])
numbered_input (Err refusal) = numbered (number_of refusal.reason) (refusal.value ∷ [])
