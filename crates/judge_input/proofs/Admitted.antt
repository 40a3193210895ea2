-- What is admitted: one law for each branch, and what an admission tells.
-- Assumes nothing.
use mathlib.Core.Path.{◌≡◌, refl, sym, ◌∙◌, ap}
use mathlib.Core.Bool.{Bool, true, false}
use mathlib.Core.List.{List}
use Prim.Native.Nat.{ℕ, ◌<◌, ◌≤◌}
use native.Mathlib.Omega.{arith}
use borrow.Author.Tests.{lt-ltb, le-ltb, ltb-false}
use lib.Dec.{ltb}
use lib.ListN.{length}
use Rattle.text_scan.specs.Choice.{pick}
use Rattle.xml_reader.specs.Limits.{document_limit, tables_limit, scratch_limit}
use Rattle.std.specs.Prelude.{Result, Ok, Err}
use Rattle.refusals.specs.declared.Reason.TheVariants.{LongDocument, LongTables, ShortScratch, BadTables}
use Rattle.refusals.specs.declared.Reason.{Reason}
use Rattle.refusals.specs.declared.Refusal.{Refusal}
use Rattle.refusals.specs.Numbers.{refuses}
use Rattle.table_file.specs.declared.Sections.{Sections as Accepted}
use Rattle.table_file.specs.declared.BadLine.{BadLine}
use Rattle.table_file.specs.Accepted.{accepted, tables_of}
use Rattle.judge_input.specs.declared.Sections.{Sections}
use Rattle.judge_input.specs.Input.{of_file, admitted, section_tables}

module _ (s file : List ℕ) (n : ℕ) where
  pub refused_1 : document_limit < length s → refuses LongDocument (length s) ≡ admitted s file n
  unfolding admitted
  refused_1 h = rw (lt-ltb document_limit (length s) h)

  module _ (a : length s ≤ document_limit) where
    pub refused_2 : tables_limit < length file → refuses LongTables (length file) ≡ admitted s file n
    unfolding admitted
    refused_2 h = rw (le-ltb document_limit (length s) a, lt-ltb tables_limit (length file) h)

    module _ (b : length file ≤ tables_limit) where
      pub refused_3 : n < scratch_limit → refuses ShortScratch scratch_limit ≡ admitted s file n
      unfolding admitted
      refused_3 h = rw (le-ltb document_limit (length s) a, le-ltb tables_limit (length file) b, lt-ltb n scratch_limit h)

      module _ (c : scratch_limit ≤ n) (x : Result Accepted BadLine) (e : x ≡ accepted file) where
        pub by_file : of_file x ≡ admitted s file n
        unfolding admitted
        by_file = rw (le-ltb document_limit (length s) a, le-ltb tables_limit (length file) b, le-ltb n scratch_limit c, e)

        pub bad_file : (r : BadLine) → x ≡ Err r → refuses BadTables r.place ≡ admitted s file n
        bad_file r f = ap of_file (sym f) ∙ by_file

        pub good_file : (t : Accepted) → x ≡ Ok t → of_file (Ok t) ≡ admitted s file n
        good_file t f = ap of_file (sym f) ∙ by_file

-- ---- what is told where nothing is refused
pub record Admits (file : List ℕ) (n : ℕ) (t : Sections) : Type 0 where
  pub room : scratch_limit ≤ n
  pub rows : tables_of file ≡ section_tables file t

not_refused : {A : Type 0} (number : Reason) (value : ℕ) (t : Sections) → refuses number value ≡ Ok t → A
not_refused number value t e = absurd (let z : ◌≡◌ {A = ℕ} 0 1 = cc in omega arith)

same_sections : (t u : Sections) → ◌≡◌ {A = Result Sections Refusal} (Ok t) (Ok u) → t ≡ u
same_sections t u e = cc

pub admits : (s file : List ℕ) (n : ℕ) (t : Sections) → admitted s file n ≡ Ok t → Admits file n t
unfolding admitted tables_of
admits s file n t = first (ltb document_limit (length s)) (ltb tables_limit (length file)) (ltb n scratch_limit) refl
  where
    under : scratch_limit ≤ n → (x : Result Accepted BadLine) → accepted file ≡ x → of_file x ≡ Ok t → Admits file n t
    under h (Err r) f e = not_refused BadTables r.place t e
    under h (Ok a) f e =
        let i = same_sections (record { codes = a.codes.first; ncodes = a.codes.count; names = a.names.first; nnames = a.names.count; history = a.history.first; nhistory = a.history.count }) t e in
        rw (← i) record { room = h; rows = rw f }

    first : (a b c : Bool) → ltb n scratch_limit ≡ c → pick a (refuses LongDocument (length s)) (pick b (refuses LongTables (length file)) (pick c (refuses ShortScratch scratch_limit) (of_file (accepted file)))) ≡ Ok t → Admits file n t
    first true b c q e = not_refused LongDocument (length s) t e
    first false true c q e = not_refused LongTables (length file) t e
    first false false true q e = not_refused ShortScratch scratch_limit t e
    first false false false q e = under (ltb-false n scratch_limit q) (accepted file) refl e
