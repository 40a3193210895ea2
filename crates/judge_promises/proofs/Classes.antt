-- The class of a procedure agrees with the demands that it makes; and a demand is answered under a joined file as its class says of the answers
-- under the two files: no row in the joined part exactly if in neither, some row exactly if in either.
-- Assumes nothing.
use mathlib.Core.Path.{◌≡◌, refl, sym, ◌∙◌}
use mathlib.Core.Bool.{Bool, true, false}
use mathlib.Core.List.{List, [], ◌∷◌}
use Prim.Native.Nat.{ℕ}
use borrow.Author.Tests.{eqb-true}
use lib.Dec.{eqb}
use Rattle.text_scan.specs.Choice.{pick, ◌or◌, ◌and◌, not}
use Rattle.text_scan.specs.Bytes.{text}
use Rattle.text_scan.proofs.Tests.{never}
use Rattle.list_findings.specs.declared.Class.{Class}
use Rattle.list_findings.specs.declared.Class.TheVariants.{DocumentOnly, Both, Either}
use Rattle.list_findings.specs.Findings.{class_of}
use Rattle.list_findings.specs.Lists.{stays}
use Rattle.table_lines.specs.Lines.{Row}
use Rattle.table_file.specs.Accepted.{Tables, tables_of}
use Rattle.table_rows.specs.Rows.{some_row, is_code, is_registered, is_document, is_version, is_key_elsewhere, is_other_key}
use Rattle.table_join.specs.Joins.{Joins}
use Rattle.table_join.proofs.Asked.{asked_codes, asked_names, asked_history}
use Rattle.judge_draft.specs.declared.Demand.{Demand}
use Rattle.judge_draft.specs.declared.Demand.TheVariants.{Nothing, Broken, CodeRow, NameRow, NoDocument, NoVersion, NoKeyElsewhere, NoOtherKey}
use Rattle.judge_paths.specs.Roles.{Id, Code, VersionNumber, OperationCode}
use Rattle.judge_draft.specs.Drafts.{Draft, parent, is, attribute, said}
use Rattle.judge_below.specs.Chosen.{the}
use Rattle.judge_draft.specs.Demands.{broken_if, demand_if}
use Rattle.judge_header.specs.declared.Header.{Header}
use Rattle.judge_listed.specs.Listed.{breaks1, breaks2, breaks3, breaks4}
use Rattle.judge_header.specs.Header.{request_code, id_holds, set_holds, has_type, version_holds}
use Rattle.judge_root.specs.Root.{breaks5, demand6, breaks7, demand8, breaks9, breaks10, breaks11, demand12, breaks13}
use Rattle.judge_organisations.specs.Organisations.{is_one_name, name_holds, duns_id, duns_holds, breaks14, breaks15, breaks16, breaks17, demand18}
use Rattle.judge_keys.specs.Keys.{is_labeler_id, is_registrant_id, breaks19, breaks20, demand21, demand22}
use Rattle.judge_paths.specs.declared.DocumentType.TheVariants.{Registration, Request}
use Rattle.judge_addresses.specs.Addresses.{breaks24, breaks25}
use Rattle.judge_contacts.specs.Contacts.{breaks23, breaks26, breaks27, breaks28, breaks29, breaks30}
use Rattle.judge_operations.specs.Operations.{breaks33, demand34, breaks37, breaks38}
use Rattle.judge_registrations.specs.Registrations.{breaks31, breaks32, breaks35, breaks36}
use Rattle.judge_procedures.specs.Procedures.{Procedure, procedures, with_number, demand_in, demand_of}
use Rattle.judge_answers.specs.Answers.{type_code, is_broken}
use Rattle.judge_promises.specs.Suits.{suits, asks_no_table, wants_row, forbids_row}

-- ---- the classes of the demands
nothing_suits : (k : Class) → suits k Nothing ≡ true
nothing_suits DocumentOnly = refl
nothing_suits Both = refl
nothing_suits Either = refl

if_suits : (k : Class) (b : Bool) (x : Demand) → suits k x ≡ true → suits k (demand_if b x) ≡ true
if_suits k true x e = e
if_suits k false x e = nothing_suits k

either_suits : (k : Class) (b : Bool) (x y : Demand) → suits k x ≡ true → suits k y ≡ true → suits k (pick b x y) ≡ true
either_suits k true x y e f = e
either_suits k false x y e f = f

module _ (d : Draft) (h : Header) (n : ℕ) where
  -- what each of these procedures demands suits the class of its number
  abbrev Suit : List Procedure → Type 0
  Suit [] = Unit {0}
  Suit (x ∷ xs) = (suits (class_of x.number) (x.asks d h n) ≡ true) × Suit xs

  suit_at : (p : ℕ) (xs : List Procedure) → Suit xs → suits (class_of p) ((with_number p xs).asks d h n) ≡ true
  unfolding with_number
  suit_at p [] s = nothing_suits (class_of p)
  suit_at p (x ∷ xs) s = go (eqb p x.number) refl (suit_at p xs s.1)
    where
      go : (t : Bool) → eqb p x.number ≡ t → suits (class_of p) ((with_number p xs).asks d h n) ≡ true → suits (class_of p) ((pick t x (with_number p xs)).asks d h n) ≡ true
      go true e f =
          let i : p ≡ x.number = eqb-true p x.number e in
          rw i s.0
      go false e f = f

  document : (b : Bool) → suits DocumentOnly (broken_if b) ≡ true
  document true = refl
  document false = refl

  all_suit : Suit procedures
  unfolding class_of demand6 demand8 demand12 demand18 demand21 demand22 demand34
  all_suit = (document (breaks1 d n), (document (breaks2 d n), (document (breaks3 d n), (document (breaks4 d n), (document (breaks5 d h n), (if_suits Either (is d Id n and id_holds d h) (NoDocument n) refl, (document (breaks7 d h n), (if_suits Both (is d Code n and has_type d h) (CodeRow n) refl, (document (breaks9 d h n), (document (breaks10 d h n), (document (breaks11 d h n), (if_suits Either (is d VersionNumber n and set_holds d h and version_holds d h) (NoVersion (the h.set) n) refl, (document (breaks13 d h n), (document (breaks14 d n), (document (breaks15 d n), (document (breaks16 d n), (document (breaks17 d n), (if_suits Both (is_one_name d n and name_holds d (parent d n) and duns_holds d (parent d n)) (NameRow (the (duns_id d (parent d n))) n) refl, (document (breaks19 d n), (document (breaks20 d n), (either_suits Either (is_labeler_id d n and set_holds d h) (NoKeyElsewhere Request n (the h.set)) (demand_if (is_registrant_id d n and set_holds d h) (NoKeyElsewhere Registration n (the h.set))) refl (if_suits Either (is_registrant_id d n and set_holds d h) (NoKeyElsewhere Registration n (the h.set)) refl), (if_suits Either (is_labeler_id d n and set_holds d h) (NoOtherKey n (the h.set)) refl, (document (breaks23 d n), (document (breaks24 d n), (document (breaks25 d n), (document (breaks26 d n), (document (breaks27 d n), (document (breaks28 d n), (document (breaks29 d n), (document (breaks30 d n), (document (breaks31 d n), (document (breaks32 d n), (document (breaks33 d n), (if_suits Both (is d OperationCode n) (CodeRow n) refl, (document (breaks35 d n), (document (breaks36 d n), (document (breaks37 d n), (document (breaks38 d n), tt))))))))))))))))))))))))))))))))))))))

  pub class_suits : (p : ℕ) → suits (class_of p) (demand_of d h p n) ≡ true
  unfolding demand_of demand_in
  class_suits p = suit_at p procedures all_suit

-- ---- a demand under a joined file
neither : (x y z : Bool) → z ≡ x or y → not z ≡ not x and not y
neither true y z e = rw e
neither false y z e = rw e

module _ (d : Draft) (c a b : List ℕ) (j : Joins c a b) where
  abbrev Answered : Class → Demand → Type 0
  Answered k x = is_broken d (tables_of c) x ≡ stays k (is_broken d (tables_of a) x) (is_broken d (tables_of b) x)

  no_code : (q : Row → Bool) → not (some_row q (tables_of c).codes) ≡ not (some_row q (tables_of a).codes) and not (some_row q (tables_of b).codes)
  no_code q = neither (some_row q (tables_of a).codes) (some_row q (tables_of b).codes) (some_row q (tables_of c).codes) (asked_codes q c a b j)

  no_name : (q : Row → Bool) → not (some_row q (tables_of c).names) ≡ not (some_row q (tables_of a).names) and not (some_row q (tables_of b).names)
  no_name q = neither (some_row q (tables_of a).names) (some_row q (tables_of b).names) (some_row q (tables_of c).names) (asked_names q c a b j)

  pub wanted_joined : (x : Demand) → wants_row x ≡ true → Answered Both x
  unfolding is_broken
  wanted_joined Nothing e = refl
  wanted_joined Broken e = never (sym e)
  wanted_joined (CodeRow k) e = no_code (is_code (attribute d k (text "code")) (attribute d k (text "codeSystem")) (attribute d k (text "displayName")))
  wanted_joined (NameRow i k) e = no_name (is_registered (attribute d i (text "extension")) (said d k))
  wanted_joined (NoDocument k) e = never (sym e)
  wanted_joined (NoVersion s k) e = never (sym e)
  wanted_joined (NoKeyElsewhere type k s) e = never (sym e)
  wanted_joined (NoOtherKey k s) e = never (sym e)

  pub forbidden_joined : (x : Demand) → forbids_row x ≡ true → Answered Either x
  unfolding is_broken
  forbidden_joined Nothing e = refl
  forbidden_joined Broken e = never (sym e)
  forbidden_joined (CodeRow k) e = never (sym e)
  forbidden_joined (NameRow i k) e = never (sym e)
  forbidden_joined (NoDocument k) e = asked_history (is_document (attribute d k (text "root"))) c a b j
  forbidden_joined (NoVersion s k) e = asked_history (is_version (attribute d s (text "root")) (attribute d k (text "value"))) c a b j
  forbidden_joined (NoKeyElsewhere type k s) e = asked_history (is_key_elsewhere (type_code type) (attribute d k (text "extension")) (attribute d s (text "root"))) c a b j
  forbidden_joined (NoOtherKey k s) e = asked_history (is_other_key request_code (attribute d s (text "root")) (attribute d k (text "extension"))) c a b j

-- what asks no table is answered alike under all
pub document_alike : (d : Draft) (t u : Tables) (x : Demand) → asks_no_table x ≡ true → is_broken d t x ≡ is_broken d u x
unfolding is_broken
document_alike d t u Nothing e = refl
document_alike d t u Broken e = refl
document_alike d t u (CodeRow k) e = never (sym e)
document_alike d t u (NameRow i k) e = never (sym e)
document_alike d t u (NoDocument k) e = never (sym e)
document_alike d t u (NoVersion s k) e = never (sym e)
document_alike d t u (NoKeyElsewhere type k s) e = never (sym e)
document_alike d t u (NoOtherKey k s) e = never (sym e)

pub answer_joined : (d : Draft) (c a b : List ℕ) → Joins c a b → (k : Class) (x : Demand) → suits k x ≡ true → is_broken d (tables_of c) x ≡ stays k (is_broken d (tables_of a) x) (is_broken d (tables_of b) x)
answer_joined d c a b j DocumentOnly x e =
    document_alike d (tables_of c) (tables_of a) x e
    ∙ (both (is_broken d (tables_of a) x) ∙ rw (document_alike d (tables_of b) (tables_of a) x e))
  where
    both : (b : Bool) → b ≡ b and b
    both true = refl
    both false = refl
answer_joined d c a b j Both x e = wanted_joined d c a b j x e
answer_joined d c a b j Either x e = forbidden_joined d c a b j x e
