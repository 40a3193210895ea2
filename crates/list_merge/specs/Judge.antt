-- The merge's answer, of the first bad records of the two lists, what the survey found, and the room for records (document 01, refusals
-- 11 to 13, in their order). No definition of document 01, which is `merge_of` of list_findings: a private function answers it.
-- Assumes nothing.
use Rattle.std.specs.Prelude.{ℕ, leb, Result, Ok, Err, Option, None, Some}
use Rattle.refusals.specs.declared.Reason.TheVariants.{ShortList, BadList, NoMerge}
use Rattle.refusals.specs.declared.Refusal.{Refusal}
use Rattle.refusals.specs.Numbers.{refuses}
use Rattle.text_scan.specs.Choice.{pick}
use Rattle.list_steps.specs.declared.Differ.{Differ}

unfoldable pub judge_of : Option ℕ → Option ℕ → Result ℕ Differ → ℕ → Result ℕ Refusal
judge_of (Some n) second found room = refuses BadList n
judge_of None (Some n) found room = refuses BadList n
judge_of None None (Err d) room = refuses NoMerge d.first
judge_of None None (Ok n) room = pick (leb n room) (Ok n) (refuses ShortList n)
