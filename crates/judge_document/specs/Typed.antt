-- For the code's own functions: the places of sections for a document of a type, and how many elements have a small room.
-- Assumes nothing.
use Rattle.std.specs.Prelude.{ℕ, false}
use Rattle.judge_paths.specs.declared.DocumentType.{DocumentType}
use Rattle.judge_input.specs.declared.Sections.{Sections}
use Rattle.judge_answers.specs.declared.Places.{Places}

abbrev pub few : ℕ
few = 512

unfoldable pub places_for : Sections → DocumentType → Places
places_for x type =
    record {
      codes = x.codes;
      ncodes = x.ncodes;
      names = x.names;
      nnames = x.nnames;
      history = x.history;
      nhistory = x.nhistory;
      kind = type;
      set = 0;
      first = 0;
      several = false;
    }
