-- References, values and attributes that end inside a range of the document: the same in both.
-- Assumes nothing.
use mathlib.Core.Path.{◌≡◌, refl, sym, ◌∙◌, ap}
use mathlib.Core.Bool.{Bool, true, false}
use mathlib.Core.List.{List, [], ◌∷◌}
use Prim.Native.Nat.{ℕ, zero, suc, ◌+◌, ◌-◌, ◌*◌, ◌<◌, ◌≤◌}
use Prim.Native.Char.{code}
use native.Mathlib.Omega.{arith}
use borrow.Author.Tests.{eqb-true, eqb-false, lt-ltb}
use lib.Dec.{eqb, ltb}
use lib.ListN.{length, take, drop, get_or}
use Rattle.text_scan.specs.Choice.{pick, ◌and◌}
use Rattle.text_scan.specs.Bytes.{text}
use Rattle.text_scan.specs.Lists.{begins}
use Rattle.text_scan.proofs.Tests.{never}
use Rattle.text_chars.specs.Utf8.{is_xml_char}
use Rattle.xml_names.specs.Names.{is_space, space_end, name_end}
use Rattle.xml_names.specs.Values.{is_quote, opened, equals_at, value_start}
use Rattle.xml_names.proofs.Names.{space_least}
use Rattle.xml_references.specs.declared.Reference.{Reference}
use Rattle.xml_references.specs.References.{digit_value, number, Named, names, entity_named, reference_of, reference_at}
use Rattle.xml_references.specs.Runs.{value_end}
use Rattle.xml_references.proofs.Widths.{reference_least}
use Rattle.xml_references.proofs.Bounds.{value_ahead}
use Rattle.xml_references.proofs.Ends.{InValue, value_start_lem, value_quote, value_less, value_other, value_bad, value_past}
use Rattle.xml_attributes.specs.declared.Attribute.{Attribute}
use Rattle.std.specs.Prelude.{Some, None, Option, ℕ}
use Rattle.std.specs.Option.{is_some}
use Rattle.xml_attributes.specs.Attributes.{closed_at, valued_at, attribute_to, attribute_at}
use Rattle.xml_attributes.proofs.Pieces.{Inside, attribute_inside}
use Rattle.xml_value_reader.proofs.Shown.{drop_take}
use Rattle.xml_agreement.proofs.Range.{begins_short, begins_less, range, range_length, byte, rest, run_here, name_same}
use Rattle.xml_references.specs.References.{refers}

-- a value that is read from its first byte on
begun : (s : List ℕ) (q at : ℕ) → InValue s q at at
begun s q at = value_start_lem s q at at refl

-- ---- a reference of w bytes, of which m are left
no_reference : {A : Type 0} (w c : ℕ) → None ≡ refers w c → A
no_reference w c e = absurd (let z : ◌≡◌ {A = ℕ} 0 1 = cc in omega arith)

abbrev wide : Option Reference → ℕ
wide (Some r) = r.width
wide None = 0

width : (a b v c : ℕ) → refers a b ≡ refers v c → a ≡ v
width a b v c e = ap wide e

module _ (base w c : ℕ) where
  number_wide : (v k : ℕ) (xs : List ℕ) → number base v k xs ≡ refers w c → k < w
  unfolding number
  number_wide v k [] e = no_reference w c e
  number_wide v k (x ∷ xs) e = go (ltb (digit_value x) base) e (number_wide (v * base + digit_value x) (k + 1) xs)
    where
      last : (t : Bool) → pick t (refers (k + 1) v) None ≡ refers w c → k < w
      last true q = omega (arith, width (k + 1) v w c q)
      last false q = no_reference w c q

      go : (t : Bool) → pick t (number base (v * base + digit_value x) (k + 1) xs) (pick (eqb x (code ";") and is_xml_char v) (refers (k + 1) v) None) ≡ refers w c → (number base (v * base + digit_value x) (k + 1) xs ≡ refers w c → k + 1 < w) → k < w
      go true q f = omega (arith, f q)
      go false q f = last (eqb x (code ";") and is_xml_char v) q

  number_short : (v k : ℕ) (xs : List ℕ) (m : ℕ) → number base v k xs ≡ refers w c → w ≤ k + m → number base v k (take m xs) ≡ refers w c
  unfolding number
  number_short v k [] m e h = no_reference w c e
  number_short v k (x ∷ xs) zero e h = absurd (omega (arith, number_wide v k (x ∷ xs) e))
  number_short v k (x ∷ xs) (suc m) e h = go (ltb (digit_value x) base) e (λ q. number_short (v * base + digit_value x) (k + 1) xs m q (omega arith))
    where
      go : (t : Bool) → pick t (number base (v * base + digit_value x) (k + 1) xs) (pick (eqb x (code ";") and is_xml_char v) (refers (k + 1) v) None) ≡ refers w c → (number base (v * base + digit_value x) (k + 1) xs ≡ refers w c → number base (v * base + digit_value x) (k + 1) (take m xs) ≡ refers w c) → pick t (number base (v * base + digit_value x) (k + 1) (take m xs)) (pick (eqb x (code ";") and is_xml_char v) (refers (k + 1) v) None) ≡ refers w c
      go true q f = f q
      go false q f = q

module _ (w c m : ℕ) (h : w ≤ m) (xs : List ℕ) where
  named_short : (ns : List Named) → entity_named ns xs ≡ refers w c → entity_named ns (take m xs) ≡ refers w c
  unfolding entity_named
  named_short [] e = e
  named_short (n ∷ ns) e = go (begins n.0 xs) refl e (named_short ns)
    where
      go : (t : Bool) → begins n.0 xs ≡ t → pick t (refers (length n.0) n.1) (entity_named ns xs) ≡ refers w c → (entity_named ns xs ≡ refers w c → entity_named ns (take m xs) ≡ refers w c) → pick (begins n.0 (take m xs)) (refers (length n.0) n.1) (entity_named ns (take m xs)) ≡ refers w c
      go true b q f = rw (begins_short n.0 xs m (omega (arith, width (length n.0) n.1 w c q)), b) q
      go false b q f = rw (begins_less n.0 xs m b) (f q)

  reference_short : reference_of xs ≡ refers w c → reference_of (take m xs) ≡ refers w c
  unfolding reference_of
  reference_short e = go (begins (text "&#x") xs) refl e
    where
      decimal : (t : Bool) → begins (text "&#") xs ≡ t → pick t (number 10 0 2 (drop 2 xs)) (entity_named names xs) ≡ refers w c → pick (begins (text "&#") (take m xs)) (number 10 0 2 (drop 2 (take m xs))) (entity_named names (take m xs)) ≡ refers w c
      decimal true b q =
          rw (begins_short (text "&#") xs m (omega (arith, number_wide 10 w c 0 2 (drop 2 xs) q)), b, drop_take 2 m xs)
          (number_short 10 w c 0 2 (drop 2 xs) (m - 2) q (omega (arith, number_wide 10 w c 0 2 (drop 2 xs) q)))
      decimal false b q = rw (begins_less (text "&#") xs m b) (named_short names q)

      go : (t : Bool) → begins (text "&#x") xs ≡ t → pick t (number 16 0 3 (drop 3 xs)) (pick (begins (text "&#") xs) (number 10 0 2 (drop 2 xs)) (entity_named names xs)) ≡ refers w c → pick (begins (text "&#x") (take m xs)) (number 16 0 3 (drop 3 (take m xs))) (pick (begins (text "&#") (take m xs)) (number 10 0 2 (drop 2 (take m xs))) (entity_named names (take m xs))) ≡ refers w c
      go true b q =
          rw (begins_short (text "&#x") xs m (omega (arith, number_wide 16 w c 0 3 (drop 3 xs) q)), b, drop_take 3 m xs)
          (number_short 16 w c 0 3 (drop 3 xs) (m - 3) q (omega (arith, number_wide 16 w c 0 3 (drop 3 xs) q)))
      go false b q = rw (begins_less (text "&#x") xs m b) (decimal (begins (text "&#") xs) refl q)

-- ---- in a range
pub no_place : {A : Type 0} (j : ℕ) → None ≡ Some j → A
no_place j e = absurd (let z : ◌≡◌ {A = ℕ} 0 1 = cc in omega arith)

pub same_place : (i j : ℕ) → Some i ≡ Some j → i ≡ j
same_place i j e = cc

module _ (s : List ℕ) (d n : ℕ) (fits : d + n ≤ length s) where
  abbrev r : List ℕ
  r = range s d n fits

  pub reference_same : (i w c : ℕ) → i + w ≤ n → reference_at s (d + i) ≡ refers w c → reference_at r i ≡ refers w c
  reference_same i w c h e = ap reference_of (rest s d n fits i) ∙ reference_short w c (n - i) (omega arith) (drop (d + i) s) e

  -- ---- the end of a value, where those further on are the same
  module _ (q i j : ℕ) (h : i < n) (l : j < n) (e : value_end s q (d + i) ≡ Some (d + j)) (again : (k : ℕ) → i < k → k < n → value_end s q (d + k) ≡ Some (d + j) → value_end r q k ≡ Some j) where
    here : get_or r i 0 ≡ get_or s (d + i) 0
    here = byte s d n fits i h

    inner : i < length r
    inner = omega (arith, range_length s d n fits)

    outer : d + i < length s
    outer = omega arith

    next : (w : ℕ) → 0 < w → value_end s q (d + i) ≡ value_end s q (d + i + w) → (i + w ≤ j → value_end r q i ≡ value_end r q (i + w)) → value_end r q i ≡ Some j
    next w p a c =
        let g : d + i + w ≡ d + (i + w) = omega arith in
        let y : value_end s q (d + (i + w)) ≡ Some (d + j) = ap (value_end s q) (sym g) ∙ sym a ∙ e in
        let m : d + (i + w) ≤ d + j = value_ahead s q (d + (i + w)) (d + j) y in
        c (omega arith) ∙ again (i + w) (omega arith) (omega arith) y

    referred : (get_or s (d + i) 0 ≡ q → ⊥) → (get_or s (d + i) 0 ≡ code "<" → ⊥) → get_or s (d + i) 0 ≡ code "&" → (x : Option Reference) → x ≡ reference_at s (d + i) → value_end r q i ≡ Some j
    referred u v z (Some p) ex =
        next p.width (omega (arith, reference_least s (d + i) p.width p.character (sym ex)))
        (value_past s q (d + i) (d + i) (begun s q (d + i)) outer u v z (Some p) ex p refl ∙ sym (begun s q (d + i + p.width)))
        (λ m. value_past r q i i (begun r q i) inner (λ y. u (sym here ∙ y)) (λ y. v (sym here ∙ y)) (here ∙ z) (Some p) (sym (reference_same i p.width p.character (omega arith) (sym ex))) p refl ∙ sym (begun r q (i + p.width)))
    referred u v z None ex =
        no_place (d + j) (value_bad s q (d + i) (d + i) (begun s q (d + i)) outer u v z None ex refl ∙ e)

    marked : (get_or s (d + i) 0 ≡ q → ⊥) → (get_or s (d + i) 0 ≡ code "<" → ⊥) → (t : Bool) → eqb (get_or s (d + i) 0) (code "&") ≡ t → value_end r q i ≡ Some j
    marked u v true z = referred u v (eqb-true (get_or s (d + i) 0) (code "&") z) (reference_at s (d + i)) refl
    marked u v false z =
        let o : get_or s (d + i) 0 ≡ code "&" → ⊥ = eqb-false (get_or s (d + i) 0) (code "&") z in
        next 1 (omega arith)
        (value_other s q (d + i) (d + i) (begun s q (d + i)) outer u v o ∙ sym (begun s q (d + i + 1)))
        (λ m. value_other r q i i (begun r q i) inner (λ y. u (sym here ∙ y)) (λ y. v (sym here ∙ y)) (λ y. o (sym here ∙ y)) ∙ sym (begun r q (i + 1)))

    lessed : (get_or s (d + i) 0 ≡ q → ⊥) → (t : Bool) → eqb (get_or s (d + i) 0) (code "<") ≡ t → value_end r q i ≡ Some j
    lessed u true z =
        no_place (d + j) (value_less s q (d + i) (d + i) (begun s q (d + i)) outer u (eqb-true (get_or s (d + i) 0) (code "<") z) ∙ e)
    lessed u false z = marked u (eqb-false (get_or s (d + i) 0) (code "<") z) (eqb (get_or s (d + i) 0) (code "&")) refl

    quoted : (t : Bool) → eqb (get_or s (d + i) 0) q ≡ t → value_end r q i ≡ Some j
    quoted true z =
        let y : d + i ≡ d + j = same_place (d + i) (d + j) (value_quote s q (d + i) (d + i) (begun s q (d + i)) outer (eqb-true (get_or s (d + i) 0) q z) ∙ e) in
        let x : i ≡ j = omega arith in
        sym (value_quote r q i i (begun r q i) inner (here ∙ eqb-true (get_or s (d + i) 0) q z)) ∙ ap Some x
    quoted false z = lessed (eqb-false (get_or s (d + i) 0) q z) (eqb (get_or s (d + i) 0) (code "<")) refl

  closes : (q j k i : ℕ) → n - i < k → i < n → j < n → value_end s q (d + i) ≡ Some (d + j) → value_end r q i ≡ Some j
  closes q j zero i f h l e = absurd (omega arith)
  closes q j (suc k) i f h l e =
      quoted q i j h l e (λ m a b y. closes q j k m (omega arith) b l y) (eqb (get_or s (d + i) 0) q) refl

  -- ---- the start of a value
  value_start_same : (i v : ℕ) → i ≤ n → v ≤ n → value_start s (d + i) ≡ Some (d + v) → value_start r i ≡ Some v
  unfolding equals_at opened
  value_start_same i v h l e = equals (eqb (get_or s (space_end s (d + i)) 0) (code "=")) refl e
    where
      equals : (t : Bool) → eqb (get_or s (space_end s (d + i)) 0) (code "=") ≡ t → pick t (opened s (space_end s (space_end s (d + i) + 1))) None ≡ Some (d + v) → value_start r i ≡ Some v
      equals false z q = no_place (d + v) q
      equals true z q = quote (is_quote (get_or s (space_end s (space_end s (d + i) + 1)) 0)) refl q
        where
          quote : (t : Bool) → is_quote (get_or s (space_end s (space_end s (d + i) + 1)) 0) ≡ t → pick t (Some (space_end s (space_end s (d + i) + 1) + 1)) None ≡ Some (d + v) → value_start r i ≡ Some v
          quote false y p = no_place (d + v) p
          quote true y p =
              let end : space_end s (space_end s (d + i) + 1) + 1 ≡ d + v = same_place (space_end s (space_end s (d + i) + 1) + 1) (d + v) p in
              let low : space_end s (d + i) + 1 ≤ space_end s (space_end s (d + i) + 1) = space_least s (space_end s (d + i) + 1) in
              let a : space_end s (d + i) ≡ d + space_end r i = run_here s d n fits is_space i h (omega arith) in
              let m : space_end s (d + i) + 1 ≡ d + (space_end r i + 1) = omega arith in
              let c : space_end s (d + (space_end r i + 1)) ≡ d + space_end r (space_end r i + 1) = run_here s d n fits is_space (space_end r i + 1) (omega arith) (omega (arith, ap (space_end s) m)) in
              let o : space_end s (space_end s (d + i) + 1) ≡ d + space_end r (space_end r i + 1) = ap (space_end s) m ∙ c in
              let f : get_or r (space_end r i) 0 ≡ get_or s (space_end s (d + i)) 0 = byte s d n fits (space_end r i) (omega arith) ∙ ap (λ (x : ℕ). get_or s x 0) (sym a) in
              let g : get_or r (space_end r (space_end r i + 1)) 0 ≡ get_or s (space_end s (space_end s (d + i) + 1)) 0 = byte s d n fits (space_end r (space_end r i + 1)) (omega arith) ∙ ap (λ (x : ℕ). get_or s x 0) (sym o) in
              let x : space_end r (space_end r i + 1) + 1 ≡ v = omega arith in
              rw (f, z, g, y) (ap Some x)

  -- ---- an attribute
  -- the attribute of the range, d bytes before that of the document
  abbrev pub back : Attribute → Attribute
  back a = record { at = a.at - d; name_end = a.name_end - d; value = a.value - d; value_end = a.value_end - d }

  attribute_parts : (i : ℕ) (a : Attribute) → attribute_at s i ≡ Some a → (value_start s a.name_end ≡ Some a.value) × (value_end s (get_or s (a.value - 1) 0) a.value ≡ Some a.value_end)
  unfolding attribute_to
  attribute_parts i a q = named (ltb i (name_end s i)) q
    where
      closed : (m x : ℕ) (y : Option ℕ) → value_end s (get_or s (x - 1) 0) x ≡ y → value_start s m ≡ Some x → closed_at i m x y ≡ Some a → (value_start s a.name_end ≡ Some a.value) × (value_end s (get_or s (a.value - 1) 0) a.value ≡ Some a.value_end)
      closed m x (Some y) g f p =
          let w : record { at = i; name_end = m; value = x; value_end = y } ≡ a = cc in
          let b : m ≡ a.name_end = ap (λ t. t.name_end) w in
          let c : x ≡ a.value = ap (λ t. t.value) w in
          let d : y ≡ a.value_end = ap (λ t. t.value_end) w in
          (rw (← b, ← c) f, rw (← c, ← d) g)
      closed m x None g f p = never (sym (ap is_some p))

      valued : (m : ℕ) (x : Option ℕ) → value_start s m ≡ x → valued_at s i m x ≡ Some a → (value_start s a.name_end ≡ Some a.value) × (value_end s (get_or s (a.value - 1) 0) a.value ≡ Some a.value_end)
      valued m (Some x) f p = closed m x (value_end s (get_or s (x - 1) 0) x) refl f p
      valued m None f p = never (sym (ap is_some p))

      named : (t : Bool) → pick t (valued_at s i (name_end s i) (value_start s (name_end s i))) None ≡ Some a → (value_start s a.name_end ≡ Some a.value) × (value_end s (get_or s (a.value - 1) 0) a.value ≡ Some a.value_end)
      named true p = valued (name_end s i) (value_start s (name_end s i)) refl p
      named false p = never (sym (ap is_some p))

  pub attribute_same : (i : ℕ) (a : Attribute) → i < n → a.value_end < d + n → attribute_at s (d + i) ≡ Some a → attribute_at r i ≡ Some (back a)
  unfolding attribute_to
  attribute_same i a h l q =
      let w : Inside s (d + i) (Some a) = rw q at (attribute_inside s (d + i)) in
      let v : ℕ = a.value in
      let e : ℕ = a.value_end in
      let p = attribute_parts (d + i) a q in
      let b : a.name_end ≡ d + name_end r i = w.1 ∙ name_same s d n fits i h (omega (arith, w.1, w.3, w.4)) in
      let c : name_end r i ≡ a.name_end - d = omega arith in
      let u : i ≡ a.at - d = omega (arith, w.0) in
      let x : v ≡ d + (v - d) = omega (arith, w.2, w.3) in
      let y : e ≡ d + (e - d) = omega (arith, w.2, w.3, w.4) in
      let f : value_start r (name_end r i) ≡ Some (v - d) = value_start_same (name_end r i) (v - d) (omega (arith, w.3, w.4)) (omega (arith, w.4)) (ap (value_start s) (sym b) ∙ p.0 ∙ ap Some x) in
      let k : d + (v - d - 1) ≡ v - 1 = omega (arith, w.2, w.3) in
      let o : get_or r (v - d - 1) 0 ≡ get_or s (v - 1) 0 = byte s d n fits (v - d - 1) (omega (arith, w.2, w.3, w.4)) ∙ ap (λ (j : ℕ). get_or s j 0) k in
      let g : value_end r (get_or s (v - 1) 0) (v - d) ≡ Some (e - d) = closes (get_or s (v - 1) 0) (e - d) (suc (n - (v - d))) (v - d) (omega arith) (omega (arith, w.4)) (omega arith) (ap (value_end s (get_or s (v - 1) 0)) (sym x) ∙ p.1 ∙ ap Some y) in
      rw (lt-ltb i (name_end r i) (omega (arith, w.2)), f, o, g)
      (λ j. Some (record { at = u j; name_end = c j; value = v - d; value_end = e - d }))
