-- For the code's own functions, and cited by no contract of a check: the entity of level 3 that was met last.
-- Assumes nothing.
use Rattle.std.specs.Prelude.{ℕ}
use Rattle.text_scan.specs.Choice.{pick}
use Rattle.judge_paths.specs.Roles.{Entity3}
use Rattle.judge_draft.specs.Drafts.{Draft, is}

-- where n follows
unfoldable pub entity_at : Draft → ℕ → ℕ → ℕ
entity_at d last n = pick (is d Entity3 n) n last
