-- Which part of the run serves a question: its part for the section, of the keys only where it is for the type and the set id that are asked for, and none
-- of it else.
-- Assumes nothing.
use mathlib.Core.Path.{◌≡◌, refl, sym, ◌∙◌, ap}
use mathlib.Core.Bool.{Bool, true, false}
use mathlib.Core.List.{List, []}
use Prim.Native.Nat.{ℕ, ◌+◌, ◌-◌, ◌*◌, ◌<◌, ◌≤◌}
use native.Mathlib.Omega.{arith}
use borrow.Author.Tests.{le-leb, lt-leb, eq-eqb, ne_eqb, eqb-true, ltb-true}
use lib.Dec.{eqb, ltb}
use lib.ListN.{length, take, drop}
use Rattle.text_scan.specs.Choice.{pick}
use Rattle.text_scan.specs.Bytes.{text}
use Rattle.text_scan.proofs.Tests.{and_left, and_right}
use Rattle.table_index.specs.declared.Lookup.TheVariants.{KeyElsewhere}
use Rattle.table_index.specs.Indexed.{keeps_row, Serves}
use Rattle.xml_values.specs.Attributes.{attribute_of}
use Rattle.judge_paths.specs.declared.DocumentType.{DocumentType}
use Rattle.judge_paths.specs.declared.DocumentType.TheVariants.{Neither, Registration, Request}
use Rattle.judge_draft.specs.Drafts.{Draft, draft, first, attribute}
use Rattle.judge_history.specs.Told.{Told}
use Rattle.judge_answers.specs.declared.Places.{Places}
use Rattle.judge_answers.specs.Answers.{type_code}
use Rattle.judge_answers.specs.Served.{room, run_of, type_number, is_told, CodesServed, NamesServed, KeysServed, keys_at, KeysTold, Served}
use Rattle.judge_answers.proofs.Asked.{attribute_there}

-- ---- the parts, by the tests of the code
module _ (x : List ℕ) (i : ℕ) where
  pub no_part : length x < 3 * room → take 0 (drop 0 x) ≡ run_of x i
  unfolding run_of
  no_part h = rw (lt-leb (3 * room) (length x) h)

  pub its_part : 3 * room ≤ length x → take (i * room + room - i * room) (drop (i * room) x) ≡ run_of x i
  unfolding run_of
  its_part h =
      let e : i * room + room - i * room ≡ room = omega arith in
      rw (le-leb (3 * room) (length x) h, e)

module _ (d : Draft) (s : List ℕ) (p : Places) (x : List ℕ) (l : Served d s p x) (y : List ℕ) where
  pub codes_served : y ≡ run_of x 0 → CodesServed s p y
  codes_served e = rw e l.code_list

  pub names_served : y ≡ run_of x 1 → NamesServed s p y
  names_served e = rw e l.register

  module _ (e : y ≡ run_of x 2) where
    pub keys_served : KeysServed (type_code p.kind) (attribute d p.set (text "root")) s p y
    keys_served = rw e l.elsewhere

    pub keys_told : KeysTold (attribute d p.set (text "root")) s p y
    keys_told = rw e l.others

-- ---- the keys of a type and a set id
-- by the tests of the code: none of another setId, none of another type, and else all
module _ (p : Places) (x : List ℕ) (t : DocumentType) (s : ℕ) where
  abbrev Own : List ℕ → Type 0
  Own y = y ≡ pick (eqb p.set s) (pick (eqb (type_number p.kind) (type_number t)) x []) []

  pub other_set : (p.set ≡ s → ⊥) → Own (take 0 (drop 0 x))
  other_set h = rw (ne_eqb p.set s h)

  module _ (e : p.set ≡ s) (a b : ℕ) (f : a ≡ type_number p.kind) (g : b ≡ type_number t) where
    pub own_keys : a ≡ b → Own x
    own_keys h = rw (eq-eqb p.set s e, eq-eqb (type_number p.kind) (type_number t) (sym f ∙ h ∙ g))

    pub other_type : (a ≡ b → ⊥) → Own (take 0 (drop 0 x))
    other_type h = rw (eq-eqb p.set s e, ne_eqb (type_number p.kind) (type_number t) (λ i. h (f ∙ i ∙ sym g)))

same_number : (t u : DocumentType) → type_number t ≡ type_number u → t ≡ u
same_number Neither Neither e = refl
same_number Neither Registration e = absurd (omega arith)
same_number Neither Request e = absurd (omega arith)
same_number Registration Neither e = absurd (omega arith)
same_number Registration Registration e = refl
same_number Registration Request e = absurd (omega arith)
same_number Request Neither e = absurd (omega arith)
same_number Request Registration e = absurd (omega arith)
same_number Request Request e = refl

-- what serves one type and set id serves another where the code has chosen
module _ (d : Draft) (f : List ℕ) (p : Places) (x : List ℕ) (t : DocumentType) (n : ℕ) where
  abbrev Other : List ℕ → Type 0
  Other y = Serves KeyElsewhere (keeps_row KeyElsewhere (type_code t) (attribute d n (text "root"))) f p.history p.nhistory y

  chosen : (a b : Bool) → a ≡ eqb p.set n → b ≡ eqb (type_number p.kind) (type_number t) → KeysServed (type_code p.kind) (attribute d p.set (text "root")) f p x → Other (pick a (pick b x []) [])
  chosen true true g h l =
      let e : type_code p.kind ≡ type_code t = ap type_code (same_number p.kind t (eqb-true (type_number p.kind) (type_number t) (sym h))) in
      let i : attribute d p.set (text "root") ≡ attribute d n (text "root") = ap (λ (k : ℕ). attribute d k (text "root")) (eqb-true p.set n (sym g)) in
      rw (← e, ← i) l
  chosen true false g h l = record { index = λ z. absurd (omega arith) }
  chosen false b g h l = record { index = λ z. absurd (omega arith) }

-- of the type u, with the set id that stands at the first byte of element n
module _ (u t : DocumentType) (h : t ≡ u) (s notes : List ℕ) (n from : ℕ) (e : from ≡ first (draft s notes) n) (f : List ℕ) (p : Places) (x y : List ℕ) where
  pub served_of_type : y ≡ pick (eqb p.set n) (pick (eqb (type_number p.kind) (type_number t)) x []) [] → KeysServed (type_code p.kind) (attribute (draft s notes) p.set (text "root")) f p x → Serves KeyElsewhere (keeps_row KeyElsewhere (type_code u) (attribute_of s from (text "root"))) f p.history p.nhistory y
  served_of_type g l =
      rw (g, ← h, attribute_there s notes n from e (text "root"))
      (chosen (draft s notes) f p x t n (eqb p.set n) (eqb (type_number p.kind) (type_number t)) refl refl l)

-- what is told of that set id
module _ (s notes : List ℕ) (n from : ℕ) (e : from ≡ first (draft s notes) n) (f : List ℕ) (p : Places) (x : List ℕ) where
  pub told_of_set : KeysTold (attribute (draft s notes) p.set (text "root")) f p x → (b : Bool) → b ≡ is_told p x n → Told b (keys_at p) (attribute_of s from (text "root")) f p.history p.nhistory
  told_of_set l b g =
      record {
        told = λ h.
            let a : is_told p x n ≡ true = sym g ∙ h in
            let i : attribute (draft s notes) p.set (text "root") ≡ attribute_of s from (text "root") = ap (λ (k : ℕ). attribute (draft s notes) k (text "root")) (eqb-true p.set n (and_left (eqb p.set n) (ltb 0 (length x)) a)) ∙ sym (attribute_there s notes n from e (text "root")) in
            rw (← i) (l.told (ltb-true 0 (length x) (and_right (eqb p.set n) (ltb 0 (length x)) a)));
      }

-- ---- whether something is told, by the tests of the code
module _ (p : Places) (x : List ℕ) (s : ℕ) where
  pub told_here : p.set ≡ s → ltb 0 (length x) ≡ is_told p x s
  told_here e = rw (eq-eqb p.set s e)

  pub not_told : (p.set ≡ s → ⊥) → false ≡ is_told p x s
  not_told h = rw (ne_eqb p.set s h)
