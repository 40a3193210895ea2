-- Walks that end inside a range of the document: text, comments and instructions are the same in both.
-- Assumes nothing.
use Rattle.std.specs.Prelude.{Option, None, Some, ℕ}
use mathlib.Core.Path.{◌≡◌, refl, sym, ◌∙◌, ap, subst}
use mathlib.Core.Bool.{Bool, true, false}
use mathlib.Core.List.{List}
use Prim.Native.Nat.{ℕ, zero, suc, ◌+◌, ◌-◌, ◌<◌, ◌≤◌}
use Prim.Native.Char.{code}
use native.Mathlib.Omega.{arith}
use lib.Dec.{eqb}
use lib.ListN.{length, get_or}
use Rattle.text_scan.specs.Choice.{pick, ◌and◌}
use Rattle.text_scan.specs.Bytes.{text}
use Rattle.text_scan.specs.Lists.{stands}
use Rattle.text_scan.specs.Walk.{Next, skip, done, from}
use Rattle.text_scan.proofs.Tests.{pick_case}
use Rattle.text_scan.proofs.Within.{inside}
use Rattle.text_scan.proofs.Walk as walks
use Rattle.xml_references.specs.declared.Reference.{Reference}
use Rattle.xml_references.specs.References.{reference_at}
use Rattle.xml_references.specs.Runs.{behind, text_step, text_end}
use Rattle.xml_references.proofs.Widths.{reference_least, reference_fits}
use Rattle.xml_references.proofs.Bounds.{text_ahead}
use Rattle.xml_markup.specs.Comments.{comment_step, comment_end}
use Rattle.xml_markup.specs.Instructions.{close_step, close_end}
use Rattle.xml_agreement.proofs.Range.{range, range_length, byte, text_same, text_none}
use Rattle.xml_agreement.proofs.Values.{no_place, same_place, reference_same}

never_done : {A : Type 0} (w : ℕ) (x : Option ℕ) → skip w ≡ done x → A
never_done w x e = absurd (let z : ◌≡◌ {A = ℕ} 0 1 = cc in omega arith)

never_skip : {A : Type 0} (w : ℕ) (x : Option ℕ) → done x ≡ skip w → A
never_skip w x e = absurd (let z : ◌≡◌ {A = ℕ} 0 1 = cc in omega arith)

is_done : (x y : Option ℕ) → ◌≡◌ {A = Next (Option ℕ)} (done x) (done y) → x ≡ y
is_done x y e = cc

is_skip : (w v : ℕ) → ◌≡◌ {A = Next (Option ℕ)} (skip w) (skip v) → w ≡ v
is_skip w v e = cc

-- ---- how far a walk goes at least
abbrev Far : ℕ → Option ℕ → Type 0
Far k (Some m) = k ≤ m
Far k None = Unit {0}

abbrev FarStep : ℕ → Next (Option ℕ) → Type 0
FarStep k (skip w) = Unit {0}
FarStep k (done x) = Far k x

module _ (s : List ℕ) (i : ℕ) where
  comment_step_lem : (m : ℕ) → i ≤ m → FarStep (i + 3) (comment_step s m)
  unfolding comment_step
  comment_step_lem m h =
      pick_case (FarStep (i + 3)) (eqb (get_or s m 0) (code "-") and eqb (get_or s (m + 1) 0) (code "-")) _ _
      (λ _. pick_case (FarStep (i + 3)) (eqb (get_or s (m + 2) 0) (code ">")) _ _ (λ _. omega arith) (λ _. tt)) (λ _. tt)

  comment_reach : (k : ℕ) → i ≤ k → {j : ℕ} → from (comment_step s) None (length s) k ≡ Some j → i + 3 ≤ j
  comment_reach k l {j} e =
      subst (Far (i + 3)) e (walks.keeps (comment_step s) None (Far (i + 3)) i (length s) (λ m x h g q. subst (FarStep (i + 3)) q (comment_step_lem m h)) tt k l)

  comment_far : (j : ℕ) → from (comment_step s) None (length s) i ≡ Some j → i + 3 ≤ j
  comment_far j e = comment_reach i (omega arith) e

  pub comment_long : (j : ℕ) → comment_end s i ≡ Some j → i + 3 ≤ j
  unfolding comment_end
  comment_long j e = go (stands (text "<!--") s i) e
    where
      go : (t : Bool) → pick t (from (comment_step s) None (length s) (i + 4)) None ≡ Some j → i + 3 ≤ j
      go true q = omega (arith, comment_reach (i + 4) (omega arith) q)
      go false q = no_place j q

  close_step_lem : (m : ℕ) → i ≤ m → FarStep (i + 2) (close_step s m)
  unfolding close_step
  close_step_lem m h =
      pick_case (FarStep (i + 2)) (eqb (get_or s m 0) (code "?") and eqb (get_or s (m + 1) 0) (code ">")) _ _ (λ _. omega arith) (λ _. tt)

  pub close_far : (j : ℕ) → close_end s i ≡ Some j → i + 2 ≤ j
  unfolding close_end
  close_far j e =
      subst (Far (i + 2)) e (walks.keeps (close_step s) None (Far (i + 2)) i (length s) (λ m x h g q. subst (FarStep (i + 2)) q (close_step_lem m h)) tt i (omega arith))

module _ (s : List ℕ) (d n : ℕ) (fits : d + n ≤ length s) where
  abbrev r : List ℕ
  r = range s d n fits

  -- ---- a walk that ends at a place in the range, c at least behind each of its positions
  module _ (f g : ℕ → Next (Option ℕ)) (e e' : Option ℕ) (c j : ℕ) (within : j ≤ n)
      (ahead : (i : ℕ) → d + i ≤ length s → from f e (length s) (d + i) ≡ Some (d + j) → i + c ≤ j)
      (jumps : (i w : ℕ) → d + i < length s → f (d + i) ≡ skip w → d + i + w < length s)
      (skips : (i w : ℕ) → i + 1 + w + c ≤ j → f (d + i) ≡ skip w → g i ≡ skip w)
      (dones : (i : ℕ) → i ≤ n → f (d + i) ≡ done (Some (d + j)) → from g e' (length r) i ≡ Some j)
      (outs : (i : ℕ) → i ≤ n → length s ≤ d + i → e ≡ Some (d + j) → from g e' (length r) i ≡ Some j) where
    walk_same : (k i : ℕ) → n - i < k → i ≤ n → from f e (length s) (d + i) ≡ Some (d + j) → from g e' (length r) i ≡ Some j
    walk_same zero i h l q = absurd (omega arith)
    walk_same (suc k) i h l q =
        inside (length s) (d + i) (λ o. go o (f (d + i)) refl (λ m a b y. walk_same k m (omega arith) b y)) (λ o. outs i l o (sym (walks.ends f e (length s) (d + i) o) ∙ q))
      where
        go : d + i < length s → (x : Next (Option ℕ)) → f (d + i) ≡ x → ((m : ℕ) → i < m → m ≤ n → from f e (length s) (d + m) ≡ Some (d + j) → from g e' (length r) m ≡ Some j) → from g e' (length r) i ≡ Some j
        go o (skip w) z again =
            let t : d + i + 1 + w ≡ d + (i + 1 + w) = omega arith in
            let u : from f e (length s) (d + (i + 1 + w)) ≡ Some (d + j) = ap (from f e (length s)) (sym t) ∙ sym (walks.goes f e (length s) (d + i) w (jumps i w o z) z) ∙ q in
            let v : i + 1 + w + c ≤ j = ahead (i + 1 + w) (omega (arith, jumps i w o z)) u in
            walks.goes g e' (length r) i w (omega (arith, range_length s d n fits)) (skips i w v z) ∙ again (i + 1 + w) (omega arith) (omega arith) u
        go o (done x) z again = dones i l (z ∙ ap done (sym (walks.stops f e (length s) (d + i) x o z) ∙ q))

  -- ---- text
  module _ (j : ℕ) (within : j ≤ n) where
    text_jumps : (i w : ℕ) → d + i < length s → text_step s (d + i) ≡ skip w → d + i + w < length s
    unfolding text_step
    text_jumps i w o z = less (eqb (get_or s (d + i) 0) (code "<")) z
      where
        referred : (x : Option Reference) → reference_at s (d + i) ≡ x → behind x ≡ skip w → d + i + w < length s
        referred (Some p) e q = omega (arith, is_skip (p.width - 1) w q, reference_least s (d + i) p.width p.character e, reference_fits s (d + i) p.width p.character e)
        referred None e q = never_skip w None q

        marked : (t : Bool) → pick t (behind (reference_at s (d + i))) (skip 0) ≡ skip w → d + i + w < length s
        marked true q = referred (reference_at s (d + i)) refl q
        marked false q = omega (arith, is_skip 0 w q)

        brackets : (t : Bool) → pick t (done None) (pick (eqb (get_or s (d + i) 0) (code "&")) (behind (reference_at s (d + i))) (skip 0)) ≡ skip w → d + i + w < length s
        brackets true q = never_skip w None q
        brackets false q = marked (eqb (get_or s (d + i) 0) (code "&")) q

        less : (t : Bool) → pick t (done (Some (d + i))) (pick (stands (text "]]>") s (d + i)) (done None) (pick (eqb (get_or s (d + i) 0) (code "&")) (behind (reference_at s (d + i))) (skip 0))) ≡ skip w → d + i + w < length s
        less true q = never_skip w (Some (d + i)) q
        less false q = brackets (stands (text "]]>") s (d + i)) q

    text_skips : (i w : ℕ) → i + 1 + w + 0 ≤ j → text_step s (d + i) ≡ skip w → text_step r i ≡ skip w
    unfolding text_step
    text_skips i w h z = rw (byte s d n fits i (omega arith)) (less (eqb (get_or s (d + i) 0) (code "<")) z)
      where
        referred : (x : Option Reference) → reference_at s (d + i) ≡ x → behind x ≡ skip w → behind (reference_at r i) ≡ skip w
        referred (Some p) e q =
            let k : p.width - 1 ≡ w = is_skip (p.width - 1) w q in
            ap behind (reference_same s d n fits i p.width p.character (omega (arith, reference_least s (d + i) p.width p.character e)) e) ∙ q
        referred None e q = never_skip w None q

        marked : (t : Bool) → pick t (behind (reference_at s (d + i))) (skip 0) ≡ skip w → pick t (behind (reference_at r i)) (skip 0) ≡ skip w
        marked true q = referred (reference_at s (d + i)) refl q
        marked false q = q

        brackets : (t : Bool) → stands (text "]]>") s (d + i) ≡ t → pick t (done None) (pick (eqb (get_or s (d + i) 0) (code "&")) (behind (reference_at s (d + i))) (skip 0)) ≡ skip w → pick (stands (text "]]>") r i) (done None) (pick (eqb (get_or s (d + i) 0) (code "&")) (behind (reference_at r i)) (skip 0)) ≡ skip w
        brackets true y q = never_skip w None q
        brackets false y q = rw (text_none s d n fits (text "]]>") i y) (marked (eqb (get_or s (d + i) 0) (code "&")) q)

        less : (t : Bool) → pick t (done (Some (d + i))) (pick (stands (text "]]>") s (d + i)) (done None) (pick (eqb (get_or s (d + i) 0) (code "&")) (behind (reference_at s (d + i))) (skip 0))) ≡ skip w → pick t (done (Some i)) (pick (stands (text "]]>") r i) (done None) (pick (eqb (get_or s (d + i) 0) (code "&")) (behind (reference_at r i)) (skip 0))) ≡ skip w
        less true q = never_skip w (Some (d + i)) q
        less false q = brackets (stands (text "]]>") s (d + i)) refl q

    out_here : (i : ℕ) → i ≡ n → i ≡ j → from (text_step r) (Some (length r)) (length r) i ≡ Some j
    out_here i a b =
        let c : length r ≡ j = range_length s d n fits ∙ sym a ∙ b in
        walks.ends (text_step r) (Some (length r)) (length r) i (omega (arith, range_length s d n fits)) ∙ ap Some c

    text_dones : (i : ℕ) → i ≤ n → text_step s (d + i) ≡ done (Some (d + j)) → from (text_step r) (Some (length r)) (length r) i ≡ Some j
    unfolding text_step
    text_dones i h z = less (eqb (get_or s (d + i) 0) (code "<")) refl z
      where
        referred : (x : Option Reference) → behind x ≡ done (Some (d + j)) → from (text_step r) (Some (length r)) (length r) i ≡ Some j
        referred (Some p) q = never_done (p.width - 1) (Some (d + j)) q
        referred None q = no_place (d + j) (is_done None (Some (d + j)) q)

        marked : (t : Bool) → pick t (behind (reference_at s (d + i))) (skip 0) ≡ done (Some (d + j)) → from (text_step r) (Some (length r)) (length r) i ≡ Some j
        marked true q = referred (reference_at s (d + i)) q
        marked false q = never_done 0 (Some (d + j)) q

        brackets : (t : Bool) → pick t (done None) (pick (eqb (get_or s (d + i) 0) (code "&")) (behind (reference_at s (d + i))) (skip 0)) ≡ done (Some (d + j)) → from (text_step r) (Some (length r)) (length r) i ≡ Some j
        brackets true q = no_place (d + j) (is_done None (Some (d + j)) q)
        brackets false q = marked (eqb (get_or s (d + i) 0) (code "&")) q

        less : (t : Bool) → eqb (get_or s (d + i) 0) (code "<") ≡ t → pick t (done (Some (d + i))) (pick (stands (text "]]>") s (d + i)) (done None) (pick (eqb (get_or s (d + i) 0) (code "&")) (behind (reference_at s (d + i))) (skip 0))) ≡ done (Some (d + j)) → from (text_step r) (Some (length r)) (length r) i ≡ Some j
        less true y q =
            let a : d + i ≡ d + j = same_place (d + i) (d + j) (is_done (Some (d + i)) (Some (d + j)) q) in
            let b : i ≡ j = omega arith in
            inside n i
            (λ l. walks.stops (text_step r) (Some (length r)) (length r) i (Some j) (omega (arith, range_length s d n fits)) (rw (byte s d n fits i l, y, b)))
            (λ l. out_here i (omega arith) b)
        less false y q = brackets (stands (text "]]>") s (d + i)) q

    pub text_end_same : (i : ℕ) → i ≤ n → text_end s (d + i) ≡ Some (d + j) → text_end r i ≡ Some j
    unfolding text_end
    text_end_same i h q =
        walk_same (text_step s) (text_step r) (Some (length s)) (Some (length r)) 0 j within
        (λ m l y. omega (arith, text_ahead s (d + m) l (d + j) y))
        text_jumps text_skips text_dones
        (λ m l o y. let z : length s ≡ d + j = same_place (length s) (d + j) y in out_here m (omega arith) (omega arith))
        (suc (n - i)) i (omega arith) h q

  further : (i k : ℕ) → i + k < n → get_or r (i + k) 0 ≡ get_or s (d + i + k) 0
  further i k h =
      let a : d + (i + k) ≡ d + i + k = omega arith in
      byte s d n fits (i + k) h ∙ ap (λ (m : ℕ). get_or s m 0) a

  -- ---- comments
  module _ (j : ℕ) (within : j ≤ n) where
    comment_jumps : (i w : ℕ) → d + i < length s → comment_step s (d + i) ≡ skip w → d + i + w < length s
    unfolding comment_step
    comment_jumps i w o z = go (eqb (get_or s (d + i) 0) (code "-") and eqb (get_or s (d + i + 1) 0) (code "-")) (eqb (get_or s (d + i + 2) 0) (code ">")) z
      where
        go : (t u : Bool) → pick t (pick u (done (Some (d + i + 3))) (done None)) (skip 0) ≡ skip w → d + i + w < length s
        go true true q = never_skip w (Some (d + i + 3)) q
        go true false q = never_skip w None q
        go false u q = omega (arith, is_skip 0 w q)

    comment_skips : (i w : ℕ) → i + 1 + w + 3 ≤ j → comment_step s (d + i) ≡ skip w → comment_step r i ≡ skip w
    unfolding comment_step
    comment_skips i w h z = rw (byte s d n fits i (omega arith), further i 1 (omega arith)) (go (eqb (get_or s (d + i) 0) (code "-") and eqb (get_or s (d + i + 1) 0) (code "-")) (eqb (get_or s (d + i + 2) 0) (code ">")) z)
      where
        go : (t u : Bool) → pick t (pick u (done (Some (d + i + 3))) (done None)) (skip 0) ≡ skip w → pick t (pick (eqb (get_or r (i + 2) 0) (code ">")) (done (Some (i + 3))) (done None)) (skip 0) ≡ skip w
        go true true q = never_skip w (Some (d + i + 3)) q
        go true false q = never_skip w None q
        go false u q = q

    comment_dones : (i : ℕ) → i ≤ n → comment_step s (d + i) ≡ done (Some (d + j)) → from (comment_step r) None (length r) i ≡ Some j
    unfolding comment_step
    comment_dones i h z = go (eqb (get_or s (d + i) 0) (code "-") and eqb (get_or s (d + i + 1) 0) (code "-")) refl (eqb (get_or s (d + i + 2) 0) (code ">")) refl z
      where
        go : (t : Bool) → eqb (get_or s (d + i) 0) (code "-") and eqb (get_or s (d + i + 1) 0) (code "-") ≡ t → (u : Bool) → eqb (get_or s (d + i + 2) 0) (code ">") ≡ u → pick t (pick u (done (Some (d + i + 3))) (done None)) (skip 0) ≡ done (Some (d + j)) → from (comment_step r) None (length r) i ≡ Some j
        go true a true b q =
            let x : d + i + 3 ≡ d + j = same_place (d + i + 3) (d + j) (is_done (Some (d + i + 3)) (Some (d + j)) q) in
            let y : i + 3 ≡ j = omega arith in
            walks.stops (comment_step r) None (length r) i (Some j) (omega (arith, range_length s d n fits))
            (rw (byte s d n fits i (omega arith), further i 1 (omega arith), further i 2 (omega arith), a, b, y))
        go true a false b q = no_place (d + j) (is_done None (Some (d + j)) q)
        go false a u b q = never_done 0 (Some (d + j)) q

    pub comment_same : (i : ℕ) → comment_end s (d + i) ≡ Some (d + j) → comment_end r i ≡ Some j
    unfolding comment_end
    comment_same i q = go (stands (text "<!--") s (d + i)) refl q
      where
        go : (t : Bool) → stands (text "<!--") s (d + i) ≡ t → pick t (from (comment_step s) None (length s) (d + i + 4)) None ≡ Some (d + j) → pick (stands (text "<!--") r i) (from (comment_step r) None (length r) (i + 4)) None ≡ Some j
        go true a b =
            let x : d + i + 4 ≡ d + (i + 4) = omega arith in
            let c : from (comment_step s) None (length s) (d + (i + 4)) ≡ Some (d + j) = ap (from (comment_step s) None (length s)) (sym x) ∙ b in
            let y : d + (i + 4) + 3 ≤ d + j = comment_far s (d + (i + 4)) (d + j) c in
            rw (text_same s d n fits (text "<!--") i (omega arith), a)
            (walk_same (comment_step s) (comment_step r) None None 3 j within (λ m l z. omega (arith, comment_far s (d + m) (d + j) z)) comment_jumps comment_skips comment_dones (λ m l o z. no_place (d + j) z) (suc (n - (i + 4))) (i + 4) (omega arith) (omega arith) c)
        go false a b = no_place (d + j) b

  -- ---- the first "?>"
  module _ (j : ℕ) (within : j ≤ n) where
    close_jumps : (i w : ℕ) → d + i < length s → close_step s (d + i) ≡ skip w → d + i + w < length s
    unfolding close_step
    close_jumps i w o z = go (eqb (get_or s (d + i) 0) (code "?") and eqb (get_or s (d + i + 1) 0) (code ">")) z
      where
        go : (t : Bool) → pick t (done (Some (d + i + 2))) (skip 0) ≡ skip w → d + i + w < length s
        go true q = never_skip w (Some (d + i + 2)) q
        go false q = omega (arith, is_skip 0 w q)

    close_skips : (i w : ℕ) → i + 1 + w + 2 ≤ j → close_step s (d + i) ≡ skip w → close_step r i ≡ skip w
    unfolding close_step
    close_skips i w h z = rw (byte s d n fits i (omega arith), further i 1 (omega arith)) (go (eqb (get_or s (d + i) 0) (code "?") and eqb (get_or s (d + i + 1) 0) (code ">")) z)
      where
        go : (t : Bool) → pick t (done (Some (d + i + 2))) (skip 0) ≡ skip w → pick t (done (Some (i + 2))) (skip 0) ≡ skip w
        go true q = never_skip w (Some (d + i + 2)) q
        go false q = q

    close_dones : (i : ℕ) → i ≤ n → close_step s (d + i) ≡ done (Some (d + j)) → from (close_step r) None (length r) i ≡ Some j
    unfolding close_step
    close_dones i h z = go (eqb (get_or s (d + i) 0) (code "?") and eqb (get_or s (d + i + 1) 0) (code ">")) refl z
      where
        go : (t : Bool) → eqb (get_or s (d + i) 0) (code "?") and eqb (get_or s (d + i + 1) 0) (code ">") ≡ t → pick t (done (Some (d + i + 2))) (skip 0) ≡ done (Some (d + j)) → from (close_step r) None (length r) i ≡ Some j
        go true a q =
            let x : d + i + 2 ≡ d + j = same_place (d + i + 2) (d + j) (is_done (Some (d + i + 2)) (Some (d + j)) q) in
            let y : i + 2 ≡ j = omega arith in
            walks.stops (close_step r) None (length r) i (Some j) (omega (arith, range_length s d n fits)) (rw (byte s d n fits i (omega arith), further i 1 (omega arith), a, y))
        go false a q = never_done 0 (Some (d + j)) q

    pub close_same : (i : ℕ) → close_end s (d + i) ≡ Some (d + j) → close_end r i ≡ Some j
    unfolding close_end
    close_same i q =
        let y : d + i + 2 ≤ d + j = close_far s (d + i) (d + j) q in
        walk_same (close_step s) (close_step r) None None 2 j within (λ m l z. omega (arith, close_far s (d + m) (d + j) z)) close_jumps close_skips close_dones (λ m l o z. no_place (d + j) z) (suc (n - i)) i (omega arith) (omega arith) q
