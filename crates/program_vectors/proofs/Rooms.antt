-- What stands in the front of a room, and how much.
-- Assumes nothing.
use mathlib.Core.Path.{◌≡◌, sym}
use mathlib.Core.List.{List}
use Prim.Native.Nat.{ℕ, ◌+◌, ◌*◌, ◌-◌, ◌≤◌, ◌<◌}
use native.Mathlib.Omega.{arith}
use lib.ListN.{length, take}
use lib.Seq.{length-take-le}
use Rattle.program_vectors.specs.Counts.{IsPrefixLen}

pub front : (n : ℕ) (room : List ℕ) → n ≤ length room → n ≡ length (take n room)
front n room h = sym (length-take-le n room h)

pub counts : (n : ℕ) (room : List ℕ) → n ≤ length room → IsPrefixLen n room
counts n room h = (h, front n room h)

-- rows put behind others: each takes 84 bytes at most
abbrev pub Room : ℕ → List ℕ → List ℕ → ℕ → ℕ → Type 0
Room count old new next k = (k ≤ count) × (length new ≡ length old) × (next + 84 * (count - k) ≤ length new)

pub room_next : (count next k r : ℕ) (new newer : List ℕ) → next + 84 * (count - k) ≤ length new → k < count → (r ≤ next + 84) × (length newer ≡ length new) → r + 84 * (count - (k + 1)) ≤ length newer
room_next count next k r new newer h g p = omega (arith, h, g, p.0, p.1)
