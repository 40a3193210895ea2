use mathlib.Core.Path.{refl}
use native.Mathlib.Omega.{arith}
use Rattle.judge_paths.proofs.Walks.{role_root}
use Rattle.judge_notes.proofs.Below.{new_parent}
use Rattle.judge_notes.proofs.Noted.{front_length, front_stored, stored_more, stored_all}
use borrow.Author.Rules.{rules}
use Rattle.judge_notes.proofs.fill_all.Goals as goal

pub loop-k-init : goal.loop-k-init
loop-k-init c = (refl, refl, role_root _ _ _ 0 refl)

pub role_at-above-requires : goal.role_at-above-requires
role_at-above-requires c = (search rules, search front_length, search front_stored)

pub role_in-own-requires : goal.role_in-own-requires
role_in-own-requires c = (search rules, search new_parent)

pub loop-k-preserved : goal.loop-k-preserved
loop-k-preserved c = (search rules, search stored_more, search rules)

pub returns : goal.returns
returns c = search stored_all
