-- Days: eight digits, a Gregorian day, year above 0.
-- Assumes nothing.
use Rattle.std.specs.Prelude.{ℕ, ◌-◌, ◌%◌, Bool, List, [], ◌∷◌, leb, eqb, length, take, drop, get_or}
use Rattle.text_scan.specs.Choice.{pick, ◌or◌, ◌and◌, not, between}
use Rattle.text_scan.specs.Bytes.{is_digit}
use Rattle.text_scan.specs.Lists.{every}
use Rattle.text_numbers.specs.Numbers.{decimal_of}

-- every fourth year, but of the full centuries only every fourth
unfoldable pub is_leap : ℕ → Bool
is_leap year = eqb (year % 4) 0 and (not (eqb (year % 100) 0) or eqb (year % 400) 0)

-- the months' lengths in a common year
abbrev pub month_lengths : List ℕ
month_lengths = 31 ∷ 28 ∷ 31 ∷ 30 ∷ 31 ∷ 30 ∷ 31 ∷ 31 ∷ 30 ∷ 31 ∷ 30 ∷ 31 ∷ []

-- the length of a month, 1 to 12; February has 29 days in a leap year
unfoldable pub month_length : ℕ → ℕ → ℕ
month_length year month = pick (eqb month 2 and is_leap year) 29 (get_or month_lengths (month - 1) 0)

unfoldable pub is_date : ℕ → ℕ → ℕ → Bool
is_date year month day = leb 1 year and between 1 12 month and between 1 (month_length year month) day

-- the digits: four of the year, two of the month, two of the day
unfoldable pub is_day : List ℕ → Bool
is_day s =
    eqb (length s) 8 and every is_digit s
    and is_date (decimal_of (take 4 s)) (decimal_of (take 2 (drop 4 s))) (decimal_of (take 2 (drop 6 s)))
