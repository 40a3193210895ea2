-- Telephone values (procedure 29): `tel:`, then `+`, digits, two or more groups of hyphen and digits, and at most one
-- `;ext=` with digits.
-- Assumes nothing.
use Rattle.std.specs.Prelude.{ℕ, ◌+◌, ◌-◌, Bool, List, eqb, ltb, length, get_or}
use Prim.Native.Char.{code}
use Rattle.text_scan.specs.Choice.{pick, ◌or◌, ◌and◌}
use Rattle.text_scan.specs.Bytes.{text, is_digit}
use Rattle.text_scan.specs.Lists.{stands, run_from}
use Rattle.text_scan.specs.Walk.{Next, skip, done, from}

-- the place after the digits at i, which is i where no digit stands
abbrev pub digits_end : List ℕ → ℕ → ℕ
digits_end s i = run_from is_digit s i

-- the place after the group of hyphen and digits at i, which is i where none stands
unfoldable pub group_end : List ℕ → ℕ → ℕ
group_end s i =
    pick (eqb (get_or s i 0) (code "-") and ltb (i + 1) (digits_end s (i + 1))) (digits_end s (i + 1)) i

-- the place after all groups from i on
unfoldable pub group_step : List ℕ → ℕ → Next ℕ
group_step s i = pick (ltb i (group_end s i)) (skip (group_end s i - (i + 1))) (done i)

unfoldable pub groups_end : List ℕ → ℕ → ℕ
groups_end s i = from (group_step s) (length s) (length s) i

-- nothing follows i, or one extension that goes to the end
unfoldable pub ends_at : List ℕ → ℕ → Bool
ends_at s i =
    eqb i (length s)
    or stands (text ";ext=") s i and ltb (i + 5) (digits_end s (i + 5)) and eqb (digits_end s (i + 5)) (length s)

-- what follows `tel:+`, which ends at 5: the number, a first group, a second, and more
unfoldable pub is_telephone : List ℕ → Bool
is_telephone s =
    stands (text "tel:+") s 0 and ltb 5 number and ltb number first and ltb first second and ends_at s (groups_end s second)
  where
    number : ℕ
    number = digits_end s 5

    first : ℕ
    first = group_end s number

    second : ℕ
    second = group_end s first
