-- A document checked under two files, and the two lists merged: what is answered, and what the memory that is lent then holds. Both checks write the
-- same list; what the first one found is kept as records before the second begins.
-- Assumes nothing.
use Rattle.std.specs.Prelude.{ℕ, ◌+◌, ◌≡◌, List, length, take, drop, Result, Ok, Err}
use Rattle.refusals.specs.declared.Reason.TheVariants.{ShortList}
use Rattle.refusals.specs.declared.Refusal.{Refusal}
use Rattle.refusals.specs.Numbers.{refuses}
use Rattle.text_scan.specs.Choice.{pick}
use Rattle.list_findings.specs.declared.Finding.{Finding}
use Rattle.list_findings.specs.Findings.{flat}
use Rattle.list_findings.specs.Merge.{Merging, merge_of}
use Rattle.list_records.specs.Kept.{fitting, kept_in}
use Rattle.judge_check.specs.Check.{Outcome as Checked, check_of}

pub record Both : Type 0 where
  pub answer : Result ℕ Refusal
  pub scratch : List ℕ
  pub table : List ℕ
  pub list : List ℕ
  pub records : List Finding
  pub out : List ℕ

abbrev pub leaving : Result ℕ Refusal → List ℕ → List ℕ → List ℕ → List Finding → List ℕ → Both
leaving answer scratch table list records out = record { answer = answer; scratch = scratch; table = table; list = list; records = records; out = out }

-- the first n records merged with the m behind them
abbrev pub merging : List Finding → ℕ → ℕ → List ℕ → Merging
merging records n m out = merge_of (flat (take n records)) (flat (take m (drop n records))) out

-- of m findings under the second file, kept behind the n under the first: refusal 11 where there is no room for both, or the merge
unfoldable pub merge_second : List ℕ → ℕ → List Finding → ℕ → List ℕ → Merging
merge_second list m records n out =
    pick (fitting (length list) m (length records) n) (merging (kept_in list m records n) n m out)
    (record { answer = refuses ShortList (n + m); list = out })

-- what the check under the second file answers and leaves, and then the merge
abbrev pub after_second : ℕ → Checked → List Finding → List ℕ → Result ℕ Refusal → Both
after_second n y records out (Err refusal) = leaving (Err refusal) y.scratch y.table y.list records out
after_second n y records out (Ok m) =
    leaving (merge_second y.list m records n out).answer y.scratch y.table y.list (kept_in y.list m records n) (merge_second y.list m records n out).list

-- of n findings under the first file: refusal 11 where there is no room for them, or the check under the second
unfoldable pub check_second : List ℕ → List ℕ → List ℕ → List ℕ → List ℕ → ℕ → List Finding → List ℕ → Both
check_second s b scratch table list n records out =
    pick (fitting (length list) n (length records) 0)
    (after_second n (check_of s b scratch table list) (kept_in list n records 0) out (check_of s b scratch table list).answer)
    (leaving (refuses ShortList n) scratch table list records out)

-- what the check under the first file answers and leaves: the second uses its scratch area, its table and its list again
abbrev pub after_first : List ℕ → List ℕ → Checked → List Finding → List ℕ → Result ℕ Refusal → Both
after_first s b x records out (Err refusal) = leaving (Err refusal) x.scratch x.table x.list records out
after_first s b x records out (Ok n) = check_second s b x.scratch x.table x.list n records out

unfoldable pub both_of : List ℕ → List ℕ → List ℕ → List ℕ → List ℕ → List ℕ → List Finding → List ℕ → Both
both_of s a b scratch table list records out =
    after_first s b (check_of s a scratch table list) records out (check_of s a scratch table list).answer

-- what is answered and left
pub record BothLeft (x : Both) (answer : Result ℕ Refusal) (scratch table list : List ℕ) (records : List Finding) (out : List ℕ) : Type 0 where
  pub answers : answer ≡ x.answer
  pub scratches : scratch ≡ x.scratch
  pub tables : table ≡ x.table
  pub lists : list ≡ x.list
  pub kept : records ≡ x.records
  pub outs : out ≡ x.out
