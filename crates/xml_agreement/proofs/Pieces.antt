-- A piece that ends inside a range of the document, behind the range's first byte: the same in both.
-- Assumes nothing.
use Rattle.std.specs.Prelude.{Result, Option, None, Some, ℕ, Ok, Err}
use Rattle.refusals.specs.declared.Reason.TheVariants.{Malformed, PastLimit}
use Rattle.refusals.specs.declared.Reason.{Reason}
use mathlib.Core.Path.{◌≡◌, refl, sym, ◌∙◌, ap}
use mathlib.Core.Bool.{Bool, true, false}
use mathlib.Core.List.{List, [], ◌∷◌, map}
use Prim.Native.Nat.{ℕ, zero, suc, ◌+◌, ◌-◌, ◌<◌, ◌≤◌}
use Prim.Native.Char.{code}
use native.Mathlib.Omega.{arith}
use borrow.Author.Tests.{eqb-true, eq-eqb, lt-ltb, ltb-true}
use lib.Dec.{eqb, leb, ltb}
use lib.ListN.{length, take, drop, get_or, length-map}
use Rattle.text_scan.specs.Choice.{pick, ◌and◌, ◌or◌, not}
use Rattle.text_scan.specs.Bytes.{text, lower}
use Rattle.text_scan.specs.Lists.{stands}
use Rattle.text_scan.proofs.Tests.{and_left, and_right}
use Rattle.xml_reader.specs.Limits.{name_limit}
use Rattle.xml_names.specs.Names.{is_space, space_end, name_end}
use Rattle.xml_names.specs.ElementNames.{element_end}
use Rattle.xml_names.proofs.Names.{space_least}
use Rattle.xml_markup.specs.AnyCase.{stands_any_case}
use Rattle.xml_markup.specs.Instructions.{is_target, close_end, data_end, limited, instruction_to, instruction_end}
use Rattle.xml_tags.specs.EndTags.{closed_by, end_tag_to, end_tag_end}
use Rattle.xml_agreement.proofs.Range.{range, byte, text_same, run_here, name_same, element_same}
use Rattle.xml_agreement.proofs.Values.{no_place, same_place}
use Rattle.xml_agreement.proofs.Walks.{close_far, close_same}

-- ---- a text in any case
map_take : (f : ℕ → ℕ) (n : ℕ) (xs : List ℕ) → map f (take n xs) ≡ take n (map f xs)
map_take f zero xs = refl
map_take f (suc n) [] = refl
map_take f (suc n) (x ∷ xs) = ap (λ (ys : List ℕ). f x ∷ ys) (map_take f n xs)

map_drop : (f : ℕ → ℕ) (n : ℕ) (xs : List ℕ) → map f (drop n xs) ≡ drop n (map f xs)
map_drop f zero xs = refl
map_drop f (suc n) [] = refl
map_drop f (suc n) (x ∷ xs) = map_drop f n xs

-- ---- the parts of an instruction, and of an end tag
module _ (s : List ℕ) where
  record Instructs (i m : ℕ) : Type 0 where
    opens : stands (text "<?") s i ≡ true
    target : is_target s (i + 2) (name_end s (i + 2)) ≡ true
    small : leb (name_end s (i + 2) - (i + 2)) name_limit ≡ true
    spaced : is_space (get_or s (name_end s (i + 2)) 0) or stands (text "?>") s (name_end s (i + 2)) ≡ true
    closes : close_end s (name_end s (i + 2)) ≡ Some m

  instruction_parts : (i m : ℕ) → instruction_end s i ≡ Ok m → Instructs i m
  unfolding instruction_to data_end
  instruction_parts i m e = go (stands (text "<?") s i) refl (is_target s (i + 2) (name_end s (i + 2))) refl e
    where
      over : (k : ℕ) → ◌≡◌ {A = Result ℕ Reason} (Ok k) (Ok m) → k ≡ m
      over k q = cc

      refusing : {A : Type 0} (k : Reason) → ◌≡◌ {A = Result ℕ Reason} (Err k) (Ok m) → A
      refusing k q = absurd (let z : ◌≡◌ {A = ℕ} 0 1 = cc in omega arith)

      sized : stands (text "<?") s i ≡ true → is_target s (i + 2) (name_end s (i + 2)) ≡ true → is_space (get_or s (name_end s (i + 2)) 0) or stands (text "?>") s (name_end s (i + 2)) ≡ true → (x : Option ℕ) → close_end s (name_end s (i + 2)) ≡ x → (t : Bool) → leb (name_end s (i + 2) - (i + 2)) name_limit ≡ t → limited t x ≡ Ok m → Instructs i m
      sized a b c (Some k) q true l z = record { opens = a; target = b; small = l; spaced = c; closes = q ∙ ap Some (over k z) }
      sized a b c (Some k) q false l z = refusing PastLimit z
      sized a b c None q t l z = refusing Malformed z

      spacing : stands (text "<?") s i ≡ true → is_target s (i + 2) (name_end s (i + 2)) ≡ true → (t : Bool) → is_space (get_or s (name_end s (i + 2)) 0) or stands (text "?>") s (name_end s (i + 2)) ≡ t → limited (leb (name_end s (i + 2) - (i + 2)) name_limit) (pick t (close_end s (name_end s (i + 2))) None) ≡ Ok m → Instructs i m
      spacing a b true c z = sized a b c (close_end s (name_end s (i + 2))) refl (leb (name_end s (i + 2) - (i + 2)) name_limit) refl z
      spacing a b false c z = refusing Malformed z

      go : (t : Bool) → stands (text "<?") s i ≡ t → (u : Bool) → is_target s (i + 2) (name_end s (i + 2)) ≡ u → pick (t and u) (limited (leb (name_end s (i + 2) - (i + 2)) name_limit) (pick (is_space (get_or s (name_end s (i + 2)) 0) or stands (text "?>") s (name_end s (i + 2))) (close_end s (name_end s (i + 2))) None)) (Err Malformed) ≡ Ok m → Instructs i m
      go true a true b z = spacing a b (is_space (get_or s (name_end s (i + 2)) 0) or stands (text "?>") s (name_end s (i + 2))) refl z
      go true a false b z = refusing Malformed z
      go false a u b z = refusing Malformed z

  record EndTags (i m : ℕ) : Type 0 where
    opens : stands (text "</") s i ≡ true
    named : i + 2 < element_end s (i + 2)
    closes : get_or s (space_end s (element_end s (i + 2))) 0 ≡ code ">"
    ends : space_end s (element_end s (i + 2)) + 1 ≡ m

  end_tag_parts : (i m : ℕ) → end_tag_end s i ≡ Some m → EndTags i m
  unfolding end_tag_to closed_by
  end_tag_parts i m e = go (stands (text "</") s i) refl (ltb (i + 2) (element_end s (i + 2))) refl (eqb (get_or s (space_end s (element_end s (i + 2))) 0) (code ">")) refl e
    where
      go : (t : Bool) → stands (text "</") s i ≡ t → (u : Bool) → ltb (i + 2) (element_end s (i + 2)) ≡ u → (v : Bool) → eqb (get_or s (space_end s (element_end s (i + 2))) 0) (code ">") ≡ v → pick (t and u) (pick v (Some (space_end s (element_end s (i + 2)) + 1)) None) None ≡ Some m → EndTags i m
      go true a true b true c z =
          record {
            opens = a;
            named = ltb-true (i + 2) (element_end s (i + 2)) b;
            closes = eqb-true (get_or s (space_end s (element_end s (i + 2))) 0) (code ">") c;
            ends = same_place (space_end s (element_end s (i + 2)) + 1) m z;
          }
      go true a true b false c z = no_place m z
      go true a false b v c z = no_place m z
      go false a u b v c z = no_place m z

  pub instruction_long : (i m : ℕ) → instruction_end s i ≡ Ok m → i + 2 ≤ m
  instruction_long i m e =
      let x : Instructs i m = instruction_parts i m e in
      omega (arith, close_far s (name_end s (i + 2)) m x.closes, ltb-true (i + 2) (name_end s (i + 2)) (and_left (ltb (i + 2) (name_end s (i + 2))) _ x.target))

  pub end_tag_closes : (i m : ℕ) → end_tag_end s i ≡ Some m → (i + 2 < m) × (get_or s (m - 1) 0 ≡ code ">")
  end_tag_closes i m e =
      let x : EndTags i m = end_tag_parts i m e in
      let a : m - 1 ≡ space_end s (element_end s (i + 2)) = omega (arith, x.ends) in
      (omega (arith, x.named, x.ends, space_least s (element_end s (i + 2))), ap (λ (k : ℕ). get_or s k 0) a ∙ x.closes)

module _ (s : List ℕ) (d n : ℕ) (fits : d + n ≤ length s) where
  abbrev r : List ℕ
  r = range s d n fits

  any_same : (t : List ℕ) (i : ℕ) → i + length t ≤ n → stands_any_case t r i ≡ stands_any_case t s (d + i)
  any_same t i h =
      let a : map lower r ≡ take n (drop d (map lower s)) = map_take lower n (drop d s) ∙ ap (take n) (map_drop lower d s) in
      ap (λ (xs : List ℕ). stands t xs i) a ∙ text_same (map lower s) d n (omega (arith, length-map s lower)) t i h

  module _ (i j : ℕ) (within : j ≤ n) where
    module _ (x : Instructs s (d + i) (d + j)) where
      at : d + i + 2 ≡ d + (i + 2)
      at = omega arith

      long : d + i + 2 < name_end s (d + i + 2)
      long = ltb-true (d + i + 2) (name_end s (d + i + 2)) (and_left (ltb (d + i + 2) (name_end s (d + i + 2))) _ x.target)

      far : name_end s (d + i + 2) + 2 ≤ d + j
      far = close_far s (name_end s (d + i + 2)) (d + j) x.closes

      name : name_end s (d + i + 2) ≡ d + name_end r (i + 2)
      name = ap (name_end s) at ∙ name_same s d n fits (i + 2) (omega (arith, long, far)) (omega (arith, far, ap (name_end s) at))

      target_same : is_target r (i + 2) (name_end r (i + 2)) ≡ true
      target_same =
          rw (lt-ltb (i + 2) (name_end r (i + 2)) (omega (arith, long, name)))
          (go (eqb (name_end r (i + 2)) (i + 2 + 3)) refl)
        where
          rest : not (eqb (name_end s (d + i + 2)) (d + i + 2 + 3) and stands_any_case (text "xml") s (d + i + 2)) ≡ true
          rest = and_right (ltb (d + i + 2) (name_end s (d + i + 2))) _ x.target

          go : (t : Bool) → eqb (name_end r (i + 2)) (i + 2 + 3) ≡ t → not (t and stands_any_case (text "xml") r (i + 2)) ≡ true
          go true e =
              let k : name_end r (i + 2) ≡ i + 2 + 3 = eqb-true (name_end r (i + 2)) (i + 2 + 3) e in
              let q : name_end s (d + i + 2) ≡ d + i + 2 + 3 = omega (arith, name) in
              let u : stands_any_case (text "xml") r (i + 2) ≡ stands_any_case (text "xml") s (d + i + 2) = any_same (text "xml") (i + 2) (omega (arith, far, name)) ∙ ap (stands_any_case (text "xml") s) (sym at) in
              rw u (rw (eq-eqb (name_end s (d + i + 2)) (d + i + 2 + 3) q) at rest)
          go false e = refl

      spaced_same : is_space (get_or r (name_end r (i + 2)) 0) or stands (text "?>") r (name_end r (i + 2)) ≡ true
      spaced_same =
          rw (byte s d n fits (name_end r (i + 2)) (omega (arith, far, name)), text_same s d n fits (text "?>") (name_end r (i + 2)) (omega (arith, far, name)), ← name) x.spaced

      instruction_here : Ok j ≡ instruction_end r i
      unfolding instruction_to data_end
      instruction_here =
          let w : name_end r (i + 2) - (i + 2) ≡ name_end s (d + i + 2) - (d + i + 2) = omega (arith, name) in
          let c : close_end r (name_end r (i + 2)) ≡ Some j = close_same s d n fits j within (name_end r (i + 2)) (ap (close_end s) (sym name) ∙ x.closes) in
          rw (text_same s d n fits (text "<?") i (omega (arith, long, far)), x.opens, target_same, w, x.small, spaced_same, c)

    pub instruction_same : instruction_end s (d + i) ≡ Ok (d + j) → instruction_end r i ≡ Ok j
    instruction_same e = sym (instruction_here (instruction_parts s (d + i) (d + j) e))

    module _ (x : EndTags s (d + i) (d + j)) where
      place : d + i + 2 ≡ d + (i + 2)
      place = omega arith

      low : element_end s (d + i + 2) ≤ space_end s (element_end s (d + i + 2))
      low = space_least s (element_end s (d + i + 2))

      element : element_end s (d + i + 2) ≡ d + element_end r (i + 2)
      element =
          ap (element_end s) place ∙ element_same s d n fits (i + 2) (omega (arith, x.named, x.ends, low)) (omega (arith, x.ends, low, ap (element_end s) place))

      space : space_end s (element_end s (d + i + 2)) ≡ d + space_end r (element_end r (i + 2))
      space =
          ap (space_end s) element ∙ run_here s d n fits is_space (element_end r (i + 2)) (omega (arith, element, low, x.ends)) (omega (arith, x.ends, ap (space_end s) element))

      end_tag_here : Some j ≡ end_tag_end r i
      unfolding end_tag_to closed_by
      end_tag_here =
          let c : get_or r (space_end r (element_end r (i + 2))) 0 ≡ code ">" = byte s d n fits (space_end r (element_end r (i + 2))) (omega (arith, space, x.ends)) ∙ ap (λ (k : ℕ). get_or s k 0) (sym space) ∙ x.closes in
          let e : space_end r (element_end r (i + 2)) + 1 ≡ j = omega (arith, space, x.ends) in
          rw (text_same s d n fits (text "</") i (omega (arith, x.named, low, x.ends)), x.opens, lt-ltb (i + 2) (element_end r (i + 2)) (omega (arith, x.named, element)), c, e)

    pub end_tag_same : end_tag_end s (d + i) ≡ Some (d + j) → end_tag_end r i ≡ Some j
    end_tag_same e = sym (end_tag_here (end_tag_parts s (d + i) (d + j) e))
