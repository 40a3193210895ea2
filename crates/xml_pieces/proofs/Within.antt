-- Where a piece ends: behind its start, and within. Each kind of piece has that bound in its own crate.
-- Assumes nothing.
use Rattle.std.specs.Prelude.{Option, None, Some, ℕ, Result, Ok, Err}
use Rattle.refusals.specs.declared.Reason.{Reason}
use mathlib.Core.Path.{◌≡◌, refl, subst}
use mathlib.Core.Bool.{Bool, true, false}
use mathlib.Core.List.{List}
use Prim.Native.Nat.{ℕ, ◌+◌, ◌<◌, ◌≤◌}
use native.Mathlib.Omega.{arith}
use borrow.Author.Tests.{eqb-true, eqb-false, ltb-true}
use lib.Dec.{eqb, ltb}
use lib.ListN.{length, get_or}
use Rattle.text_scan.specs.Choice.{pick, ◌or◌, ◌and◌}
use Rattle.text_scan.specs.Bytes.{text}
use Rattle.text_scan.specs.Lists.{stands}
use Rattle.text_scan.proofs.Tests.{pick_case, and_right}
use Rattle.text_scan.proofs.Lists.{run_least, run_most}
use Rattle.text_scan.proofs.Ending as ending
use Rattle.xml_references.specs.Runs.{text_end}
use Rattle.xml_references.proofs.Bounds.{text_ahead, text_inside, text_ended}
use Rattle.xml_names.specs.Names.{is_space, space_end}
use Rattle.xml_markup.specs.Comments.{comment_end}
use Rattle.xml_markup.specs.Instructions.{instruction_end}
use Rattle.xml_declaration.specs.Declaration.{is_declaration, declaration_end}
use Rattle.xml_markup.proofs.Comments.{comment_within}
use Rattle.xml_markup.proofs.Instructions.{ScannedWithin, instruction_within}
use Rattle.xml_declaration.proofs.Declaration.{declaration_within}
use Rattle.xml_attributes.specs.declared.Tag.{Tag}
use Rattle.xml_attributes.specs.declared.Tag.TheVariants.{Start as Opens, Empty as Stands}
use Rattle.xml_names.specs.ElementNames.{element_end}
use Rattle.xml_tags.specs.Tags.{tag_at}
use Rattle.xml_tags.specs.EndTags.{closed_by, end_tag_to, end_tag_end}
use Rattle.xml_tags.proofs.Bounds.{TagWithin, tag_within}
use Rattle.xml_tags.proofs.EndTags.{end_tag_within}
use Rattle.xml_pieces.specs.declared.Kind.{Kind}
use Rattle.xml_pieces.specs.declared.Kind.TheVariants.{Text, Comment, Instruction, Declaration, Start, Empty, End}
use Rattle.xml_pieces.specs.declared.DocumentPart.{DocumentPart}
use Rattle.xml_pieces.specs.declared.DocumentPart.TheVariants.{Before, Inside, After}
use Rattle.xml_pieces.specs.declared.Scanned.{Scanned}
use Rattle.xml_pieces.specs.declared.Scanned.TheVariants.{Piece, Refused}
use Rattle.xml_pieces.specs.Pieces.{found, only_space, text_piece_at, bang_at, instructed, question_at, end_at, tagged, start_at, markup_at, piece_at}

abbrev pub Within : ℕ → ℕ → Scanned → Type 0
Within at n (Piece k j) = (at < j) × (j ≤ n)
Within at n (Refused r) = Unit {0}

found_within : (at n : ℕ) (k : Kind) (x : Option ℕ) → ending.Within at n x → Within at n (found k x)
found_within at n k (Some j) w = w
found_within at n k None w = tt

instructed_within : (at n : ℕ) (x : Result ℕ Reason) → ScannedWithin at n x → Within at n (instructed x)
instructed_within at n (Ok j) w = w
instructed_within at n (Err r) w = tt

tagged_within : (at n : ℕ) (x : Result Tag Reason) → TagWithin at n x → Within at n (tagged x)
tagged_within at n (Ok (Opens j)) w = w
tagged_within at n (Ok (Stands j)) w = w
tagged_within at n (Err r) w = tt

-- ---- text: what starts at no '<' has a byte at least
module _ (s : List ℕ) (i : ℕ) (h : i < length s) (b : get_or s i 0 ≡ 60 → ⊥) where
  behind_start : (j : ℕ) → i ≤ j → (j < length s → get_or s j 0 ≡ 60) → i < j
  behind_start j g e = go (eqb i j) refl
    where
      go : (t : Bool) → eqb i j ≡ t → i < j
      go true q = absurd (b (rw (eqb-true i j q) (e (omega (arith, eqb-true i j q)))))
      go false q = ne_lt (eqb-false i j q)
        where
          ne_lt : (i ≡ j → ⊥) → i < j
          ne_lt n = omega (arith, n)

  space_ended : (j : ℕ) → eqb j (length s) or eqb (get_or s j 0) 60 ≡ true → j < length s → get_or s j 0 ≡ 60
  space_ended j e l = go (eqb j (length s)) refl e
    where
      go : (t : Bool) → eqb j (length s) ≡ t → t or eqb (get_or s j 0) 60 ≡ true → get_or s j 0 ≡ 60
      go true q e = absurd (omega (arith, eqb-true j (length s) q))
      go false q e = eqb-true (get_or s j 0) 60 e

  space_within : Within i (length s) (only_space s (space_end s i))
  space_within =
      pick_case (Within i (length s)) (eqb (space_end s i) (length s) or eqb (get_or s (space_end s i) 0) 60) _ _
      (λ e. (behind_start (space_end s i) (run_least is_space s i) (space_ended (space_end s i) e), run_most is_space s i (omega arith)))
      (λ e. tt)

  run_within : (x : Option ℕ) → text_end s i ≡ x → Within i (length s) (found Text x)
  run_within (Some j) e =
      (behind_start j (text_ahead s i (omega arith) j e) (text_ended s i (omega arith) j e), text_inside s i (omega arith) j e)
  run_within None e = tt

  text_within : (p : DocumentPart) → Within i (length s) (text_piece_at s i p)
  unfolding text_piece_at
  text_within Before = space_within
  text_within Inside = run_within (text_end s i) refl
  text_within After = space_within

-- ---- markup
module _ (s : List ℕ) (i : ℕ) where
  bang_within : Within i (length s) (bang_at s i)
  unfolding bang_at
  bang_within =
      pick_case (Within i (length s)) (stands (text "<!--") s i) _ _ (λ _. found_within i (length s) Comment (comment_end s i) (comment_within s i))
      (λ _. pick_case (Within i (length s)) (stands (text "<!DOCTYPE") s i or stands (text "<![CDATA[") s i) _ _ (λ _. tt) (λ _. tt))

  question_within : Within i (length s) (question_at s i)
  unfolding question_at
  question_within =
      pick_case (Within i (length s)) (eqb i 0 and is_declaration s) _ _ (λ e. first (eqb i 0) refl e)
      (λ _. instructed_within i (length s) (instruction_end s i) (instruction_within s i))
    where
      first : (t : Bool) → eqb i 0 ≡ t → t and is_declaration s ≡ true → Within i (length s) (found Declaration (declaration_end s))
      first true q e = rw (eqb-true i 0 q) (found_within 0 (length s) Declaration (declaration_end s) (declaration_within s))
      first false q e = absurd (let z : ◌≡◌ {A = ℕ} 0 1 = cc in omega arith)

  end_within : (p : DocumentPart) → Within i (length s) (end_at s i p)
  unfolding end_at
  end_within Before = tt
  end_within Inside = found_within i (length s) End (end_tag_end s i) (end_tag_within s i)
  end_within After = tt

  start_within : (p : DocumentPart) → Within i (length s) (start_at s i p)
  unfolding start_at
  start_within Before = tagged_within i (length s) (tag_at s i) (tag_within s i)
  start_within Inside = tagged_within i (length s) (tag_at s i) (tag_within s i)
  start_within After = tt

  markup_within : (p : DocumentPart) → Within i (length s) (markup_at s i p)
  unfolding markup_at
  markup_within p =
      pick_case (Within i (length s)) (stands (text "<!") s i) _ _ (λ _. bang_within)
      (λ _. pick_case (Within i (length s)) (stands (text "<?") s i) _ _ (λ _. question_within)
      (λ _. pick_case (Within i (length s)) (stands (text "</") s i) _ _ (λ _. end_within p) (λ _. start_within p)))

pub piece_within : (s : List ℕ) (i : ℕ) (p : DocumentPart) → i < length s → Within i (length s) (piece_at s i p)
unfolding piece_at
piece_within s i p h =
    pick_case (Within i (length s)) (eqb (get_or s i 0) 60) _ _ (λ _. markup_within s i p) (λ e. text_within s i h (eqb-false (get_or s i 0) 60 e) p)

-- ---- an end tag stands inside the root only, and has its two first bytes
abbrev Ends : DocumentPart → ℕ → Scanned → Type 0
Ends p i (Piece Text j) = Unit {0}
Ends p i (Piece Comment j) = Unit {0}
Ends p i (Piece Instruction j) = Unit {0}
Ends p i (Piece Declaration j) = Unit {0}
Ends p i (Piece Start j) = Unit {0}
Ends p i (Piece Empty j) = Unit {0}
Ends p i (Piece End j) = (p ≡ Inside) × (i + 2 ≤ j)
Ends p i (Refused n) = Unit {0}

abbrev pub Behind : ℕ → Option ℕ → Type 0
Behind i (Some j) = i + 2 ≤ j
Behind i None = Unit {0}

pub end_tag_behind : (s : List ℕ) (i : ℕ) → Behind i (end_tag_end s i)
unfolding end_tag_to closed_by
end_tag_behind s i =
    pick_case (Behind i) (stands (text "</") s i and ltb (i + 2) (element_end s (i + 2))) _ _
    (λ e. pick_case (Behind i) (eqb (get_or s (space_end s (element_end s (i + 2))) 0) 62) _ _
    (λ _. omega (arith, ltb-true (i + 2) (element_end s (i + 2)) (and_right (stands (text "</") s i) _ e), run_least is_space s (element_end s (i + 2)))) (λ _. tt))
    (λ _. tt)

module _ (p : DocumentPart) (s : List ℕ) (i : ℕ) where
  space_ends : (j : ℕ) → Ends p i (only_space s j)
  space_ends j = pick_case (Ends p i) (eqb j (length s) or eqb (get_or s j 0) 60) _ _ (λ _. tt) (λ _. tt)

  text_ends : (x : Option ℕ) → Ends p i (found Text x)
  text_ends (Some j) = tt
  text_ends None = tt

  comment_ends : (x : Option ℕ) → Ends p i (found Comment x)
  comment_ends (Some j) = tt
  comment_ends None = tt

  declaration_ends : (x : Option ℕ) → Ends p i (found Declaration x)
  declaration_ends (Some j) = tt
  declaration_ends None = tt

  instruction_ends : (x : Result ℕ Reason) → Ends p i (instructed x)
  instruction_ends (Ok j) = tt
  instruction_ends (Err n) = tt

  tag_ends : (x : Result Tag Reason) → Ends p i (tagged x)
  tag_ends (Ok (Opens j)) = tt
  tag_ends (Ok (Stands j)) = tt
  tag_ends (Err n) = tt

  bang_ends : Ends p i (bang_at s i)
  unfolding bang_at
  bang_ends =
      pick_case (Ends p i) (stands (text "<!--") s i) _ _ (λ _. comment_ends (comment_end s i))
      (λ _. pick_case (Ends p i) (stands (text "<!DOCTYPE") s i or stands (text "<![CDATA[") s i) _ _ (λ _. tt) (λ _. tt))

  question_ends : Ends p i (question_at s i)
  unfolding question_at
  question_ends =
      pick_case (Ends p i) (eqb i 0 and is_declaration s) _ _ (λ _. declaration_ends (declaration_end s)) (λ _. instruction_ends (instruction_end s i))

end_inside_ends : (s : List ℕ) (i : ℕ) (x : Option ℕ) → Behind i x → Ends Inside i (found End x)
end_inside_ends s i (Some j) h = (refl, h)
end_inside_ends s i None h = tt

end_ends : (s : List ℕ) (i : ℕ) (p : DocumentPart) → Ends p i (end_at s i p)
unfolding end_at
end_ends s i Before = tt
end_ends s i Inside = end_inside_ends s i (end_tag_end s i) (end_tag_behind s i)
end_ends s i After = tt

start_ends : (s : List ℕ) (i : ℕ) (p : DocumentPart) → Ends p i (start_at s i p)
unfolding start_at
start_ends s i Before = tag_ends Before s i (tag_at s i)
start_ends s i Inside = tag_ends Inside s i (tag_at s i)
start_ends s i After = tt

text_at_ends : (s : List ℕ) (i : ℕ) (p : DocumentPart) → Ends p i (text_piece_at s i p)
unfolding text_piece_at
text_at_ends s i Before = space_ends Before s i (space_end s i)
text_at_ends s i Inside = text_ends Inside s i (text_end s i)
text_at_ends s i After = space_ends After s i (space_end s i)

piece_ends : (s : List ℕ) (i : ℕ) (p : DocumentPart) → Ends p i (piece_at s i p)
unfolding piece_at markup_at
piece_ends s i p =
    pick_case (Ends p i) (eqb (get_or s i 0) 60) _ _
    (λ _. pick_case (Ends p i) (stands (text "<!") s i) _ _ (λ _. bang_ends p s i)
    (λ _. pick_case (Ends p i) (stands (text "<?") s i) _ _ (λ _. question_ends p s i)
    (λ _. pick_case (Ends p i) (stands (text "</") s i) _ _ (λ _. end_ends s i p) (λ _. start_ends s i p))))
    (λ _. text_at_ends s i p)

pub end_inside : (s : List ℕ) (i j : ℕ) (p : DocumentPart) → piece_at s i p ≡ Piece End j → (p ≡ Inside) × (i + 2 ≤ j)
end_inside s i j p e = subst (Ends p i) e (piece_ends s i p)
