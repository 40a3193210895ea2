-- The chain of refusals, one law for each: what each answers and leaves is the outcome that the definition gives.
-- Assumes nothing.
use Rattle.std.specs.Prelude.{Result, Ok, Err}
use Rattle.refusals.specs.declared.Reason.TheVariants.{ShortElements}
use Rattle.refusals.specs.declared.Refusal.{Refusal}
use Rattle.refusals.specs.Numbers.{refuses}
use mathlib.Core.Path.{◌≡◌, refl, sym, ◌∙◌, ap}
use mathlib.Core.Bool.{Bool, true, false}
use mathlib.Core.List.{List, ◌++◌}
use Prim.Native.Nat.{ℕ, ◌+◌, ◌-◌, ◌*◌, ◌/◌, ◌≤◌}
use native.Mathlib.Omega.{arith}
use borrow.Author.Tests.{le-leb, leb-true}
use lib.Dec.{leb}
use lib.ListN.{length, take, drop, length-append}
use lib.Seq.{take-append_seam}
use mir.Val.{Fits}
use mir.Syntax.{w64}
use Rattle.text_scan.specs.Choice.{pick}
use Rattle.xml_reader.specs.Limits.{scratch_limit, elements_limit}
use Rattle.table_file.specs.Accepted.{Tables}
use Rattle.judge_input.specs.declared.Sections.{Sections}
use Rattle.judge_input.specs.Input.{admitted, section_tables}
use Rattle.judge_input.specs.Scratch.{cleared}
use Rattle.judge_input.proofs.Admitted.{Admits, admits}
use Rattle.xml_steps.specs.Reading.{Read, refused, elements}
use Rattle.xml_elements.specs.Elements.{elements_of, ElementsLeft as Reads}
use Rattle.xml_nesting.specs.Nested.{Nested}
use Rattle.xml_nesting.proofs.Read.{Rows, rows_read}
use Rattle.judge_findings.specs.Listed.{findings_of}
use Rattle.judge_type.specs.Drafted.{draft_of}
use Rattle.judge_findings.specs.Room.{answer_in, list_in, FindingsLeft}
use Rattle.judge_check.specs.Check.{after_reading, check_of, CheckLeft}
use Rattle.judge_check.proofs.Values.{none_long}

-- ---- what a reading answered
elements_not_refused : {A : Type 0} (n : ℕ) (refusal : Refusal) → ◌≡◌ {A = Result ℕ Refusal} (Ok n) (Err refusal) → A
elements_not_refused n refusal e = absurd (let z : ◌≡◌ {A = ℕ} 0 1 = cc in omega arith)

refused_not_elements : {A : Type 0} (n : ℕ) (refusal : Refusal) → ◌≡◌ {A = Result ℕ Refusal} (Err refusal) (Ok n) → A
refused_not_elements n refusal e = absurd (let z : ◌≡◌ {A = ℕ} 0 1 = cc in omega arith)

-- the document was read, with so many elements
pub record ReadAs (s table : List ℕ) (count : ℕ) (after : List ℕ) : Type 0 where
  pub rows : List ℕ
  pub is : elements_of s ≡ elements count rows
  pub room : 4 * count ≤ length table
  pub now_is : after ≡ rows ++ drop (4 * count) table

read_as : (s table : List ℕ) (x : Read) → elements_of s ≡ x → (a : Result ℕ Refusal) (after : List ℕ) → Reads x table a after → (count : ℕ) → a ≡ Ok count → ReadAs s table count after
read_as s table (refused number place) e a after l count f = refused_not_elements count (record { reason = number; value = place }) (sym l.answers ∙ f)
read_as s table (elements n rows) e a after l count f = go (leb (4 * n) (length table)) refl l.answers l.leaves
  where
    go : (t : Bool) → leb (4 * n) (length table) ≡ t → a ≡ pick t (Ok n) (refuses ShortElements n) → after ≡ pick t (rows ++ drop (4 * n) table) table → ReadAs s table count after
    go true q g h =
        let i : n ≡ count = same n count (sym g ∙ f) in
        rw (← i) record { rows = rows; is = e; room = leb-true (4 * n) (length table) q; now_is = h }
      where
        same : (n m : ℕ) → ◌≡◌ {A = Result ℕ Refusal} (Ok n) (Ok m) → n ≡ m
        same n m e = cc
    go false q g h = refused_not_elements count (record { reason = ShortElements; value = n }) (sym g ∙ f)

-- ---- a document that is not read
not_read : (s : List ℕ) (t : Tables) (scratch table list : List ℕ) (x : Read) (a : Result ℕ Refusal) (after : List ℕ) → Reads x table a after → (refusal : Refusal) → a ≡ Err refusal → CheckLeft (after_reading s t scratch table list x) (Err refusal) scratch after list
not_read s t scratch table list (refused n p) a after l refusal f =
    record { answers = sym f ∙ l.answers; scratches = refl; tables = l.leaves; lists = refl }
not_read s t scratch table list (elements n rows) a after l refusal f = go (leb (4 * n) (length table)) refl l.answers l.leaves
  where
    go : (b : Bool) → leb (4 * n) (length table) ≡ b → a ≡ pick b (Ok n) (refuses ShortElements n) → after ≡ pick b (rows ++ drop (4 * n) table) table → CheckLeft (after_reading s t scratch table list (elements n rows)) (Err refusal) scratch after list
    go true q g h = elements_not_refused n refusal (sym g ∙ f)
    go false q g h = rw q record { answers = sym f ∙ g; scratches = refl; tables = h; lists = refl }

module _ (s table : List ℕ) (a : Result ℕ Refusal) (after : List ℕ) (l : Reads (elements_of s) table a after) where
  pub under_refused : (refusal : Refusal) → a ≡ Err refusal → (t : Tables) (scratch list : List ℕ) → CheckLeft (after_reading s t scratch table list (elements_of s)) (Err refusal) scratch after list
  under_refused refusal f t scratch list = not_read s t scratch table list (elements_of s) a after l refusal f

  -- ---- a document that is read
  module _ (count : ℕ) (f : a ≡ Ok count) where
    its : ReadAs s table count after
    its = read_as s table (elements_of s) refl a after l count f

    its_rows : Rows s count its.rows
    its_rows = rows_read s count its.rows its.is

    pub under_fits : Fits w64 (4 * count)
    under_fits = omega (arith, its_rows.few)

    long : length after ≡ length its.rows + length (drop (4 * count) table)
    long = ap length its.now_is ∙ length-append its.rows (drop (4 * count) table)

    pub under_room : 4 * count ≤ length after
    under_room = omega (arith, long, its_rows.wide)

    front : take (4 * count - 0) after ≡ its.rows
    front =
        let e : 4 * count - 0 ≡ length its.rows = omega (arith, its_rows.wide) in
        rw e (ap (take (length its.rows)) its.now_is ∙ take-append_seam its.rows (drop (4 * count) table))

    pub under_nested : Nested (take (4 * count - 0) after) (length (take (4 * count - 0) after) / 4)
    under_nested =
        let e : length its.rows / 4 ≡ count = omega (arith, its_rows.wide) in
        rw (front, e) its_rows.ordered

    pub under_few : length (take (4 * count - 0) after) / 4 ≤ elements_limit
    under_few = omega (arith, ap length front, its_rows.wide, its_rows.few)

    pub under_judged : (t : Tables) (scratch scratch' list list' : List ℕ) (r : Result ℕ Refusal) → scratch' ≡ cleared scratch → FindingsLeft (findings_of (draft_of s (take (4 * count - 0) after)) t) list r list' → CheckLeft (after_reading s t scratch table list (elements_of s)) r scratch' after list'
    under_judged t scratch scratch' list list' r g h =
        rw (its.is, le-leb (4 * count) (length table) its.room, none_long s its.rows) record {
          answers = h.answers ∙ ap (λ x. answer_in (findings_of (draft_of s x) t) list) front;
          scratches = g;
          tables = its.now_is;
          lists = h.lists ∙ ap (λ x. list_in (findings_of (draft_of s x) t) list) front;
        }

-- ---- what is handed in
module _ (s file scratch table list : List ℕ) (x : Result Sections Refusal) (e : x ≡ admitted s file (length scratch)) where
  pub not_admitted : (refusal : Refusal) → x ≡ Err refusal → CheckLeft (check_of s file scratch table list) (Err refusal) scratch table list
  unfolding check_of
  not_admitted refusal f = rw (← e, f) record { answers = refl; scratches = refl; tables = refl; lists = refl }

  module _ (t : Sections) (f : x ≡ Ok t) where
    its_input : Admits file (length scratch) t
    its_input = admits s file (length scratch) t (sym e ∙ f)

    pub admitted_scratch : scratch_limit ≤ length scratch
    admitted_scratch = its_input.room

    pub all_admitted : (r : Result ℕ Refusal) (scratch' table' list' : List ℕ) → CheckLeft (after_reading s (section_tables file t) scratch table list (elements_of s)) r scratch' table' list' → CheckLeft (check_of s file scratch table list) r scratch' table' list'
    unfolding check_of
    all_admitted r scratch' table' list' l = rw (← e, f, its_input.rows) l
