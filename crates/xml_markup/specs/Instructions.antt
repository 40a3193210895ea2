-- Where a processing instruction ends (XML 1.0, productions [16] and [17]): "<?", its target, and "?>" at once or white space and anything up
-- to the first "?>". The target is a name other than "xml" in any case; it has at most 64 bytes.
-- Assumes nothing.
use Rattle.std.specs.Prelude.{ℕ, ◌+◌, ◌-◌, Bool, List, eqb, ltb, leb, length, get_or, Option, None, Some, Result, Ok, Err}
use Rattle.refusals.specs.declared.Reason.TheVariants.{Malformed, PastLimit}
use Rattle.refusals.specs.declared.Reason.{Reason}
use Prim.Native.Char.{code}
use Rattle.text_scan.specs.Choice.{pick, ◌and◌, ◌or◌, not}
use Rattle.text_scan.specs.Bytes.{text}
use Rattle.text_scan.specs.Lists.{stands}
use Rattle.text_scan.specs.Walk.{Next, skip, done, from}
use Rattle.xml_markup.specs.AnyCase.{stands_any_case}
use Rattle.xml_reader.specs.Limits.{name_limit}
use Rattle.xml_names.specs.Names.{is_space, name_end}

-- the bytes from position i to n are a name that an instruction can have
abbrev pub is_target : List ℕ → ℕ → ℕ → Bool
is_target s i n = ltb i n and not (eqb n (i + 3) and stands_any_case (text "xml") s i)

-- the place after the first "?>" from position i on
unfoldable pub close_step : List ℕ → ℕ → Next (Option ℕ)
close_step s i = pick (eqb (get_or s i 0) (code "?") and eqb (get_or s (i + 1) 0) (code ">")) (done (Some (i + 2))) (skip 0)

unfoldable pub close_end : List ℕ → ℕ → Option ℕ
close_end s i = from (close_step s) None (length s) i

-- the same behind a target, which ends at n
unfoldable pub data_end : List ℕ → ℕ → Option ℕ
data_end s n = pick (is_space (get_or s n 0) or stands (text "?>") s n) (close_end s n) None

-- what is well formed and within the limit ends there; malformed is 7, past the limit 8
abbrev pub limited : Bool → Option ℕ → Result ℕ Reason
limited small (Some j) = pick small (Ok j) (Err PastLimit)
limited small None = Err Malformed

-- the instruction at position `at`, whose target ends at n
unfoldable pub instruction_to : List ℕ → ℕ → ℕ → Result ℕ Reason
instruction_to s at n =
    pick (stands (text "<?") s at and is_target s (at + 2) n) (limited (leb (n - (at + 2)) name_limit) (data_end s n)) (Err Malformed)

abbrev pub instruction_end : List ℕ → ℕ → Result ℕ Reason
instruction_end s at = instruction_to s at (name_end s (at + 2))
