-- A check that is not refused: the document was read, and its findings stand in the list.
-- Assumes nothing.
use Rattle.std.specs.Prelude.{Result, Ok, Err}
use Rattle.refusals.specs.declared.Reason.TheVariants.{ShortElements, ShortList}
use Rattle.refusals.specs.declared.Reason.{Reason}
use Rattle.refusals.specs.declared.Refusal.{Refusal}
use Rattle.refusals.specs.Numbers.{refuses}
use Rattle.judge_input.specs.declared.Sections.{Sections}
use mathlib.Core.Path.{◌≡◌, refl, sym}
use mathlib.Core.Bool.{Bool, true, false}
use mathlib.Core.List.{List, ◌++◌}
use Prim.Native.Nat.{ℕ, ◌*◌, ◌/◌}
use native.Mathlib.Omega.{arith}
use borrow.Author.Tests.{leb-true}
use lib.Dec.{leb}
use lib.ListN.{length, drop}
use Rattle.text_scan.specs.Choice.{pick}
use Rattle.list_findings.specs.Findings.{width, filled}
use Rattle.table_file.specs.Accepted.{tables_of}
use Rattle.judge_input.specs.Input.{admitted}
use Rattle.judge_input.specs.Scratch.{cleared}
use Rattle.xml_steps.specs.Reading.{Read, refused, elements}
use Rattle.xml_elements.specs.Elements.{elements_of}
use Rattle.judge_findings.specs.Listed.{findings_of}
use Rattle.judge_type.specs.Drafted.{draft_of}
use Rattle.judge_check.specs.Long.{long_value}
use Rattle.judge_findings.specs.Room.{answer_in, list_in}
use Rattle.judge_check.specs.Check.{Outcome, unless_long, refuse, after_reading, after_input, check_of}
use Rattle.judge_check.specs.Accepted.{found_in, Accepted}
use Rattle.judge_check.proofs.Values.{none_long}

-- ---- a check that is not refused
refused_never : {A : Type 0} (number : Reason) (value n : ℕ) → refuses number value ≡ Ok n → A
refused_never number value n e = absurd (let z : ◌≡◌ {A = ℕ} 0 1 = cc in omega arith)

same_number : (n m : ℕ) → ◌≡◌ {A = Result ℕ Refusal} (Ok n) (Ok m) → n ≡ m
same_number n m e = cc

module _ (s file scratch table list : List ℕ) (n : ℕ) where
  abbrev Fine : Outcome → Type 0
  Fine x = x.answer ≡ Ok n → Accepted s file list n x.list

  fine_found : (k : ℕ) (rows : List ℕ) → elements_of s ≡ elements k rows → answer_in (found_in s rows file) list ≡ Ok n → Accepted s file list n (list_in (found_in s rows file) list)
  unfolding answer_in list_in
  fine_found k rows e a = go (leb (length (found_in s rows file)) (length list / width)) refl a
    where
      go : (t : Bool) → leb (length (found_in s rows file)) (length list / width) ≡ t → pick t (Ok (length (found_in s rows file))) (refuses ShortList (length (found_in s rows file))) ≡ Ok n → Accepted s file list n (pick t (filled (found_in s rows file) list) list)
      go true q a =
          record { count = k; rows = rows; read = e; many = sym (same_number (length (found_in s rows file)) n a); room = leb-true (length (found_in s rows file)) (length list / width) q; holds = refl }
      go false q a = refused_never ShortList (length (found_in s rows file)) n a

  fine_read : (x : Read) → elements_of s ≡ x → Fine (after_reading s (tables_of file) scratch table list x)
  unfolding found_in
  fine_read (refused number place) e a = refused_never number place n a
  fine_read (elements k rows) e a = go (leb (4 * k) (length table)) a
    where
      found : Outcome
      found =
          record {
            answer = answer_in (findings_of (draft_of s rows) (tables_of file)) list;
            scratch = cleared scratch;
            table = rows ++ drop (4 * k) table;
            list = list_in (findings_of (draft_of s rows) (tables_of file)) list;
          }

      go : (t : Bool) → Fine (pick t (unless_long (long_value s rows) (cleared scratch) (rows ++ drop (4 * k) table) list found) (refuse scratch table list ShortElements k))
      go true = rw (none_long s rows) (fine_found k rows e)
      go false = λ a. refused_never ShortElements k n a

  pub accepted_check : (check_of s file scratch table list).answer ≡ Ok n → Accepted s file list n (check_of s file scratch table list).list
  unfolding check_of
  accepted_check = go (admitted s file (length scratch))
    where
      go : (x : Result Sections Refusal) → Fine (after_input s file scratch table list x)
      go (Err p) a = refused_never p.reason p.value n a
      go (Ok sections) a = fine_read (elements_of s) refl a
