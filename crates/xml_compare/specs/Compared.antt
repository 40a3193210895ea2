-- What the contract of the private function `character_end` speaks of, and no definition of document 01: where a text ends that stands at a position.
-- Assumes nothing.
use Rattle.std.specs.Prelude.{ℕ, ◌+◌, List, length, Option, None, Some}
use Rattle.text_scan.specs.Choice.{pick}
use Rattle.text_scan.specs.Lists.{stands}

unfoldable pub text_behind : List ℕ → List ℕ → ℕ → Option ℕ
text_behind t s n = pick (stands t s n) (Some (n + length t)) None
