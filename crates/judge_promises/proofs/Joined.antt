-- Demand 3: the merge of a draft's lists under two files is its list under their join, and is never refused. No procedure is named: the class of
-- each procedure suits what it demands, and a demand is answered under the join as its class says.
-- Assumes nothing.
use Rattle.std.specs.Prelude.{None}
use mathlib.Core.Path.{◌≡◌, refl}
use mathlib.Core.Bool.{Bool}
use mathlib.Core.List.{List}
use Prim.Native.Nat.{ℕ}
use Rattle.list_findings.specs.declared.Class.TheVariants.{DocumentOnly}
use Rattle.list_findings.specs.Findings.{class_of, flat}
use Rattle.list_findings.specs.Lists.{Good, stays}
use Rattle.list_findings.specs.Merge.{first_bad_record, merged, first_fault}
use Rattle.list_findings.proofs.Good.{good_flat}
use Rattle.table_file.specs.Accepted.{Tables, tables_of}
use Rattle.table_join.specs.Joins.{Joins}
use Rattle.judge_draft.specs.Drafts.{Draft, element_count}
use Rattle.judge_header.specs.Header.{header_of}
use Rattle.judge_procedures.specs.Procedures.{demand_of}
use Rattle.judge_findings.specs.Listed.{broken, findings_of}
use Rattle.judge_findings.specs.Holding.{InDocumentOrder}
use Rattle.judge_promises.proofs.Classes.{class_suits, document_alike, answer_joined}
use Rattle.judge_findings.proofs.Together.{Right, Agrees, together}
use Rattle.judge_findings.proofs.Listed.{mark, marks_from, marks_ordered, marks_right, these_listed, listed_good}

answered_alike : (d : Draft) (t u : Tables) (n p : ℕ) → class_of p ≡ DocumentOnly → broken d (header_of d) t n p ≡ broken d (header_of d) u n p
unfolding broken
answered_alike d t u n p e = document_alike d t u (demand_of d (header_of d) p n) (rw e at (class_suits d (header_of d) n p))

-- ---- the findings of a draft
module _ (d : Draft) (i : InDocumentOrder d) where
  pub findings_good : (t : Tables) → Good (findings_of d t)
  unfolding findings_of
  findings_good t = listed_good d (broken d (header_of d) t) i

  -- refusal 12 never comes
  pub never_bad : (t : Tables) → first_bad_record (flat (findings_of d t)) ≡ None
  never_bad t = good_flat (findings_of d t) (findings_good t)

  -- what asks no table is found under both files or under neither, so that refusal 13 never comes, whatever the two files are
  pub never_faulty : (t u : Tables) → first_fault (findings_of d t) (findings_of d u) ≡ None
  unfolding findings_of
  never_faulty t u =
      rw (these_listed d ft fu fv (λ x. x.first) ft (λ n p. refl), these_listed d ft fu fv (λ x. x.second) fu (λ n p. refl)) at
      (together class_of (marks_from d ft fu fv 0 (element_count d)) (marks_ordered d ft fu fv i) (marks_right d ft fu fv class_of alike)).faultless
    where
      ft : ℕ → ℕ → Bool
      ft = broken d (header_of d) t

      fu : ℕ → ℕ → Bool
      fu = broken d (header_of d) u

      fv : ℕ → ℕ → Bool
      fv n p = stays (class_of p) (broken d (header_of d) t n p) (broken d (header_of d) u n p)

      alike : (n p : ℕ) → Right class_of (mark d ft fu fv n p)
      alike n p = record { stands = refl; alike = λ e. answered_alike d t u n p e }

  module _ (c a b : List ℕ) (j : Joins c a b) where
    marked : (n p : ℕ) → Right class_of (mark d (broken d (header_of d) (tables_of a)) (broken d (header_of d) (tables_of b)) (broken d (header_of d) (tables_of c)) n p)
    unfolding broken
    marked n p =
        record {
          stands = answer_joined d c a b j (class_of p) (demand_of d (header_of d) p n) (class_suits d (header_of d) n p);
          alike = λ e. document_alike d (tables_of a) (tables_of b) (demand_of d (header_of d) p n) (rw e at (class_suits d (header_of d) n p));
        }

    agreed : Agrees class_of (findings_of d (tables_of a)) (findings_of d (tables_of b)) (findings_of d (tables_of c))
    unfolding findings_of
    agreed =
        rw (these_listed d fa fb fc (λ x. x.first) fa (λ n p. refl), these_listed d fa fb fc (λ x. x.second) fb (λ n p. refl), these_listed d fa fb fc (λ x. x.joined) fc (λ n p. refl)) at
        (together class_of (marks_from d fa fb fc 0 (element_count d)) (marks_ordered d fa fb fc i) (marks_right d fa fb fc class_of marked))
      where
        fa : ℕ → ℕ → Bool
        fa = broken d (header_of d) (tables_of a)

        fb : ℕ → ℕ → Bool
        fb = broken d (header_of d) (tables_of b)

        fc : ℕ → ℕ → Bool
        fc = broken d (header_of d) (tables_of c)

    pub findings_joined : merged (findings_of d (tables_of a)) (findings_of d (tables_of b)) ≡ findings_of d (tables_of c)
    findings_joined = agreed.list
