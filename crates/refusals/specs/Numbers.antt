-- The numbers of the refusals, and a refusal as an answer.
-- Assumes nothing.
use Rattle.std.specs.Prelude.{ℕ, Result, Err}
use Rattle.refusals.specs.declared.Reason.{Reason}
use Rattle.refusals.specs.declared.Reason.TheVariants.{LongDocument, LongTables, ShortScratch, BadTables, BadCharacter, Unsupported, Malformed, PastLimit, ShortElements, LongValue, ShortList, BadList, NoMerge}
use Rattle.refusals.specs.declared.Refusal.{Refusal}

abbrev pub number_of : Reason → ℕ
number_of LongDocument = 1
number_of LongTables = 2
number_of ShortScratch = 3
number_of BadTables = 4
number_of BadCharacter = 5
number_of Unsupported = 6
number_of Malformed = 7
number_of PastLimit = 8
number_of ShortElements = 9
number_of LongValue = 10
number_of ShortList = 11
number_of BadList = 12
number_of NoMerge = 13

-- the answer that is a refusal, with what it returns
abbrev pub refuses : {A : Type 0} → Reason → ℕ → Result A Refusal
refuses reason value = Err (record { reason = reason; value = value })
