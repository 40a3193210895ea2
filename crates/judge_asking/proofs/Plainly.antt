-- An element of which nothing but 3 and 4 is asked has no mark where 3 holds.
-- Assumes nothing.
use mathlib.Core.Path.{◌≡◌, sym, ◌∙◌}
use mathlib.Core.Bool.{Bool, true, false}
use mathlib.Core.List.{[], ◌∷◌}
use mathlib.Core.Logic.{◌⊎◌, inl, inr}
use Prim.Native.Nat.{ℕ}
use borrow.Author.Tests.{eq-eqb}
use lib.Dec.{eqb}
use Rattle.text_scan.proofs.Tests.{never, or_true}
use Rattle.table_file.specs.Accepted.{Tables}
use Rattle.judge_paths.specs.Roles.{Id, Code, OrganisationId, OperationCode}
use Rattle.judge_paths.specs.Attributes.{is_role}
use Rattle.judge_draft.specs.Drafts.{Draft, role}
use Rattle.judge_header.specs.declared.Header.{Header}
use Rattle.judge_listed.specs.Listed.{breaks3}
use Rattle.judge_listed.proofs.Spaces.{no_space}
use Rattle.judge_procedures.specs.Procedures.{with_number, demand_in, demand_of}
use Rattle.judge_answers.specs.Answers.{is_broken}
use Rattle.judge_findings.specs.Listed.{broken}
use Rattle.judge_asked.specs.Asked.{plain_roles}
use Rattle.judge_asked.proofs.Plain.{plain_asked, plain_lists}
use Rattle.judge_marks.specs.Marks.{pushed, mark_by, mark_of}

-- a role that is neither of two
neither : (q a b : ℕ) → is_role q (a ∷ b ∷ []) ≡ false → (q ≡ a) ⊎ (q ≡ b) → ⊥
neither q a b e (inl x) = never (rw (eq-eqb q a x) at e)
neither q a b e (inr x) = never (rw (eq-eqb q b x, or_true (eqb q a)) at e)

module _ (d : Draft) (h : Header) (t : Tables) (n : ℕ) (three : Bool) (e : three ≡ breaks3 d n) (f : three ≡ false) where
  no_three : broken d h t n 3 ≡ false
  unfolding broken is_broken demand_of demand_in with_number
  no_three = rw (← e, f)

  module _ (q : ℕ) (g : q ≡ role d n) (p : Bool) (i : p ≡ is_role q plain_roles) (u : p ≡ true) where
    no_four : broken d h t n 4 ≡ false
    unfolding broken is_broken demand_of demand_in with_number
    no_four =
        let l = rw g at (plain_lists q (sym i ∙ u)) in
        rw (no_space d n (sym e ∙ f) (neither (role d n) Id OrganisationId l.0) (neither (role d n) Code OperationCode l.1))

    pub plain_mark : 0 ≡ mark_of d (broken d h t) n
    unfolding mark_of mark_by pushed
    plain_mark = sym (rw (← g, plain_asked q (sym i ∙ u), no_three, no_four))
