-- What a list holds once records are appended: from its front those records, and then what it held there.
-- Assumes nothing.
use mathlib.Core.Path.{◌≡◌, refl, sym, ◌∙◌}
use mathlib.Core.Bool.{Bool, true, false}
use mathlib.Core.List.{List, [], ◌∷◌, ◌++◌}
use Prim.Native.Nat.{ℕ, ◌+◌, ◌*◌, ◌/◌, ◌<◌, ◌≤◌}
use native.Mathlib.Omega.{arith}
use borrow.Author.Tests.{le-leb, lt-leb}
use lib.ListN.{length, length-append}
use lib.Seq.{sets}
use Rattle.text_scan.specs.Choice.{pick}
use Rattle.list_findings.specs.declared.Finding.{Finding}
use Rattle.list_findings.specs.Findings.{width, flat, filled, stored}
use Rattle.list_findings.proofs.Filling.{filled_sets, one_stored, length_stored}
use Rattle.list_writer.specs.Listed.{is_full, list_after, count_after}

-- records appended one after another
unfoldable pub listed : List ℕ → ℕ → List Finding → List ℕ
listed list count [] = list
listed list count (r ∷ rs) = listed (list_after list count r) (count_after list count) rs

-- ---- one record
module _ (list : List ℕ) (count : ℕ) where
  module _ (h : length list / width ≤ count) where
    pub full_list : (r : Finding) → list ≡ list_after list count r
    unfolding list_after
    full_list r = rw (le-leb (length list / width) count h)

    pub full_count : count ≡ count_after list count
    unfolding count_after
    full_count = rw (le-leb (length list / width) count h)

  module _ (h : count < length list / width) where
    pub room_list : (r : Finding) (new : List ℕ) → new ≡ stored list (count * width) r → new ≡ list_after list count r
    unfolding list_after
    room_list r new e = e ∙ rw (lt-leb (length list / width) count h)

    pub room_count : count + 1 ≡ count_after list count
    unfolding count_after
    room_count = rw (lt-leb (length list / width) count h)

  pub length_after : (r : Finding) → length (list_after list count r) ≡ length list
  unfolding list_after
  length_after r = go (is_full list count)
    where
      go : (t : Bool) → length (pick t list (stored list (count * width) r)) ≡ length list
      go true = refl
      go false = length_stored list (count * width) r

-- ---- records one after another
pub listed_sets : (rs : List Finding) (list : List ℕ) (count : ℕ) → count + length rs ≤ length list / width → listed list count rs ≡ sets list (count * width) (flat rs)
unfolding listed flat
listed_sets [] list count h = refl
listed_sets (r ∷ rs) list count h =
    let room : count < length list / width = omega arith in
    let n = length_stored list (count * width) r in
    let more : count + 1 + length rs ≤ length (stored list (count * width) r) / width = omega arith in
    let k : (count + 1) * width ≡ count * width + width = omega arith in
    rw (← room_list list count room r (stored list (count * width) r) refl, ← room_count list count room) (listed_sets rs (stored list (count * width) r) (count + 1) more ∙ rw k (sym (one_stored list (count * width) r rs)))

-- from the front of a list with room for them, they are what it is filled with
pub listed_filled : (rs : List Finding) (list : List ℕ) → length rs ≤ length list / width → listed list 0 rs ≡ filled rs list
listed_filled rs list h =
    let g : 0 + length rs ≤ length list / width = omega arith in
    listed_sets rs list 0 g ∙ filled_sets rs list h

listed_last : (rs : List Finding) (list : List ℕ) (count : ℕ) (r : Finding) → count + length rs < length list / width → listed list count (rs ++ r ∷ []) ≡ list_after (listed list count rs) (count + length rs) r
unfolding listed
listed_last [] list count r h = let e : count + 0 ≡ count = omega arith in rw e
listed_last (q ∷ rs) list count r h =
    let room : count < length list / width = omega arith in
    let n = length_after list count q in
    let e : count_after list count + length rs ≡ count + (1 + length rs) = omega (arith, room_count list count room) in
    let f : 1 + length rs ≡ length (q ∷ rs) = omega arith in
    listed_last rs (list_after list count q) (count_after list count) r (omega arith) ∙ rw (e, f)

-- a list that is filled with records, and has room, is filled with one more
pub append_filled : (rs : List Finding) (r : Finding) (list : List ℕ) → length rs < length list / width → list_after (filled rs list) (length rs) r ≡ filled (rs ++ r ∷ []) list
append_filled rs r list h =
    let g : length (rs ++ r ∷ []) ≤ length list / width = omega (arith, length-append rs (r ∷ [])) in
    let k : 0 + length rs < length list / width = omega arith in
    let e : 0 + length rs ≡ length rs = omega arith in
    sym (sym (listed_filled (rs ++ r ∷ []) list g) ∙ listed_last rs list 0 r k ∙ rw (listed_filled rs list (omega arith), e))
