-- Where bytes may be stored, for lists of any length and any place. No definition of document 01.
-- Assumes nothing.
use Rattle.std.specs.Prelude.{ℕ, leb}
use Rattle.text_scan.specs.Choice.{pick}

-- a place among n, or n where it is behind them
unfoldable pub up_to : ℕ → ℕ → ℕ
up_to n at = pick (leb at n) at n
