-- What is filled serves: the values that the runs are filled for are those of the draft, and the places are the same.
-- Assumes nothing.
use mathlib.Core.Path.{◌≡◌, refl, sym, ◌∙◌}
use mathlib.Core.Bool.{Bool, true, false}
use mathlib.Core.List.{List}
use Prim.Native.Nat.{ℕ, ◌*◌, ◌<◌, ◌≤◌}
use native.Mathlib.Nat.{mul-le-mul_right}
use native.Mathlib.Omega.{arith}
use borrow.Author.Tests.{le-leb, lt-leb, leb-true}
use lib.Dec.{leb, ltb}
use lib.ListN.{length}
use mir.Val.{Fits}
use mir.Syntax.{w64}
use Rattle.text_scan.specs.Choice.{◌and◌}
use Rattle.text_scan.specs.Bytes.{text}
use Rattle.text_scan.proofs.Tests.{and_left, and_right}
use Rattle.xml_reader.specs.Limits.{elements_limit, tables_limit, rows_limit}
use Rattle.table_index.specs.declared.Lookup.TheVariants.{KeyElsewhere}
use Rattle.table_sets.specs.declared.Keys.{Keys}
use Rattle.table_index.specs.Indexed.{keeps_row, Serves}
use Rattle.table_sets.specs.SetKeys.{keys_of}
use Rattle.xml_values.specs.Attributes.{attribute_of}
use Rattle.judge_paths.specs.declared.DocumentType.{DocumentType}
use Rattle.judge_draft.specs.Drafts.{Draft, draft, first, attribute}
use Rattle.judge_draft.proofs.Values.{attribute_read}
use Rattle.judge_header.specs.Header.{request_code}
use Rattle.judge_answers.specs.declared.Places.{Places}
use Rattle.judge_answers.specs.Answers.{type_code, tables_at}
use Rattle.judge_answers.specs.Served.{run_of, CodesServed, NamesServed, KeysServed, Served}
use Rattle.judge_lookup.specs.Serving.{is_large, Sized, Kept, told_at}

-- ---- when an index is worth it, by the tests of the code
module _ (count n : ℕ) (p : Places) where
  pub many_elements : elements_limit < count → false ≡ is_large count n p
  unfolding is_large
  many_elements h = rw (lt-leb count elements_limit h)

  module _ (a : count ≤ elements_limit) where
    pub long_tables : tables_limit < n → false ≡ is_large count n p
    unfolding is_large
    long_tables h = rw (le-leb count elements_limit a, lt-leb n tables_limit h)

    module _ (b : n ≤ tables_limit) where
      pub product_fits : Fits w64 (count * n)
      product_fits = omega (arith, mul-le-mul_right n a, b)

      pub many_codes : rows_limit < p.ncodes → false ≡ is_large count n p
      unfolding is_large
      many_codes h = rw (le-leb count elements_limit a, le-leb n tables_limit b, lt-leb p.ncodes rows_limit h)

      module _ (c : p.ncodes ≤ rows_limit) where
        pub many_names : rows_limit < p.nnames → false ≡ is_large count n p
        unfolding is_large
        many_names h = rw (le-leb count elements_limit a, le-leb n tables_limit b, le-leb p.ncodes rows_limit c, lt-leb p.nnames rows_limit h)

        module _ (e : p.nnames ≤ rows_limit) where
          pub many_rows : rows_limit < p.nhistory → false ≡ is_large count n p
          unfolding is_large
          many_rows h = rw (le-leb count elements_limit a, le-leb n tables_limit b, le-leb p.ncodes rows_limit c, le-leb p.nnames rows_limit e, lt-leb p.nhistory rows_limit h)

          module _ (g : p.nhistory ≤ rows_limit) where
            pub few_elements : count < 24 → false ≡ is_large count n p
            unfolding is_large
            few_elements h = rw (le-leb count elements_limit a, le-leb n tables_limit b, le-leb p.ncodes rows_limit c, le-leb p.nnames rows_limit e, le-leb p.nhistory rows_limit g, lt-leb 24 count h)

            pub by_product : 24 ≤ count → ltb 262144 (count * n) ≡ is_large count n p
            unfolding is_large
            by_product h = rw (le-leb count elements_limit a, le-leb n tables_limit b, le-leb p.ncodes rows_limit c, le-leb p.nnames rows_limit e, le-leb p.nhistory rows_limit g, le-leb 24 count h)

-- what a size that is worth it is within
pub is_sized : (n : ℕ) (s : List ℕ) (p : Places) (r : Bool) → r ≡ is_large n (length s) p → r ≡ true → Sized s p
unfolding is_large
is_sized n s p r e f =
    let last : Bool = leb 24 n and ltb 262144 (n * length s) in
    let history : Bool = leb p.nhistory rows_limit in
    let names : Bool = leb p.nnames rows_limit in
    let codes : Bool = leb p.ncodes rows_limit in
    let bytes : Bool = leb (length s) tables_limit in
    let a = and_right (leb n elements_limit) (bytes and codes and names and history and last) (sym e ∙ f) in
    let b = and_right bytes (codes and names and history and last) a in
    let c = and_right codes (names and history and last) b in
    let g = and_right names (history and last) c in
    record {
      bytes = leb-true (length s) tables_limit (and_left bytes (codes and names and history and last) a);
      codes = leb-true p.ncodes rows_limit (and_left codes (names and history and last) b);
      names = leb-true p.nnames rows_limit (and_left names (history and last) c);
      history = leb-true p.nhistory rows_limit (and_left history last g);
    }

-- ---- the keys
module _ (s notes : List ℕ) (n f : ℕ) (e : f ≡ first (draft s notes) n) (v : List ℕ) (g : v ≡ attribute_of s f (text "root")) (u : List ℕ) (p : Places) where
  pub keys_filled : (c x : List ℕ) → Serves KeyElsewhere (keeps_row KeyElsewhere c v) u p.history p.nhistory x → KeysServed c (attribute (draft s notes) n (text "root")) u p x
  keys_filled c x l = rw (← (attribute_read s notes n f e (text "root") v g)) l

  pub keys_told : (t : DocumentType) (k : Keys) → k ≡ keys_of request_code v u p.history p.nhistory → record { codes = p.codes; ncodes = p.ncodes; names = p.names; nnames = p.nnames; history = p.history; nhistory = p.nhistory; kind = t; set = n; first = k.first; several = k.several } ≡ told_at (draft s notes) u p t n
  unfolding told_at
  keys_told t k h = rw (h, attribute_read s notes n f e (text "root") v g)

pub keys_of_type : (u t : DocumentType) → t ≡ u → (set f : List ℕ) (p : Places) (x : List ℕ) → KeysServed (type_code u) set f p x → KeysServed (type_code t) set f p x
keys_of_type u t e set f p x l = rw e l

-- ---- all of them
module _ (d : Draft) (u : List ℕ) (p : Places) (t : DocumentType) (n : ℕ) (r : Places) (e : r ≡ told_at d u p t n) where
  pub same_tables : tables_at u r ≡ tables_at u p
  unfolding told_at
  same_tables = rw e

  pub all_served : (x y : List ℕ) → CodesServed u p (run_of x 0) → NamesServed u p (run_of x 1) → Kept 2 x y → KeysServed (type_code t) (attribute d n (text "root")) u p (run_of y 2) → Served d u r y
  unfolding told_at
  all_served x y a b k l =
      rw e
      (record {
        code_list = rw (k.part 0 (λ z. absurd (omega arith))) a;
        register = rw (k.part 1 (λ z. absurd (omega arith))) b;
        elsewhere = l;
        others = record { told = λ _. refl };
      })

-- the code list stays served where the register is indexed
pub codes_stay : (u : List ℕ) (p : Places) (x y : List ℕ) → CodesServed u p (run_of x 0) → Kept 1 x y → CodesServed u p (run_of y 0)
codes_stay u p x y l k = rw (k.part 0 (λ z. absurd (omega arith))) l
