-- A tag that ends inside a range of the document: its parts, its attributes and the tag are the same in both.
-- Assumes nothing.
use mathlib.Core.Path.{◌≡◌, refl, sym, ◌∙◌, ap, subst}
use mathlib.Core.Bool.{Bool, true, false}
use mathlib.Core.List.{List, [], ◌∷◌}
use Prim.Native.Nat.{ℕ, zero, suc, ◌+◌, ◌-◌, ◌<◌, ◌≤◌}
use Prim.Native.Char.{code}
use native.Mathlib.Omega.{arith}
use borrow.Author.Tests.{eqb-true, eqb-false, lt-ltb, ltb-true}
use lib.Dec.{eqb, leb, ltb}
use lib.ListN.{length, get_or}
use Rattle.text_scan.specs.Choice.{pick, ◌and◌, ◌or◌}
use Rattle.text_scan.specs.Bytes.{text}
use Rattle.text_scan.specs.Lists.{stands}
use Rattle.text_scan.proofs.Tests.{pick_case, and_left, and_right}
use Rattle.xml_reader.specs.Limits.{value_limit}
use Rattle.xml_names.specs.Names.{is_space, space_end, name_end, name_at, name_is}
use Rattle.xml_names.specs.ElementNames.{element_end}
use Rattle.xml_attributes.specs.declared.Attribute.{Attribute}
use Rattle.std.specs.Prelude.{is_err, Option, Some, None, Result, Ok, Err}
use Rattle.refusals.specs.declared.Reason.TheVariants.{Malformed, PastLimit}
use Rattle.refusals.specs.declared.Reason.{Reason}
use Rattle.xml_attributes.specs.declared.TagPart.{TagPart}
use Rattle.xml_attributes.specs.declared.TagPart.TheVariants.{Read, Ended}
use Rattle.xml_attributes.specs.declared.Tag.{Tag}
use Rattle.xml_attributes.specs.declared.Tag.TheVariants.{Start, Empty}
use Rattle.xml_attributes.specs.Attributes.{attribute_at, is_long}
use Rattle.xml_attributes.specs.Chains.{item, last, items, ending}
use Rattle.xml_attributes.specs.Parts.{read_at, part_to, part_at, attributes, some_attribute, some_named, repeated}
use Rattle.xml_attributes.proofs.Pieces.{Inside, attribute_inside}
use Rattle.xml_attributes.proofs.Parts.{part_start, part_empty, part_read, read_behind, read_attribute, read_named, read_valued, read_closed, attributes_go, attributes_stop}
use Rattle.xml_tags.specs.Tags.{some_long, past_limit, tag_answer, tag_to, tag_at}
use Rattle.xml_tags.proofs.Bounds.{TagWithin, ending_within}
use Rattle.xml_references.specs.Decoded.{replaced}
use Rattle.xml_values.specs.declared.Place.{Place}
use Rattle.xml_values.specs.Attributes.{name_after, tag_from, attributes_of, value_place, first_named, attribute_place, value_at, attribute_of}
use Rattle.xml_agreement.proofs.Range.{part_same, range, range_length, byte, text_same, text_none, run_here, element_same, named_same, is_same}
use Rattle.xml_agreement.proofs.Values.{back, attribute_same}
use Rattle.xml_values.specs.Places.{from_to}

-- a tag without fault, which ends at a place or before
abbrev pub EndsBy : ℕ → Result Tag Reason → Type 0
EndsBy a (Ok (Start m)) = m ≤ a
EndsBy a (Ok (Empty m)) = m ≤ a
EndsBy a (Err k) = ⊥

pub both_less : (a b d : ℕ) → d ≤ b → a - b ≡ a - d - (b - d)
both_less a b d h = omega arith

module _ (s : List ℕ) (d n : ℕ) (fits : d + n ≤ length s) where
  abbrev r : List ℕ
  r = range s d n fits

  -- a tag of the document, as one of the range
  abbrev pub tag_in : Result Tag Reason → Result Tag Reason
  tag_in (Ok (Start m)) = Ok (Start (m - d))
  tag_in (Ok (Empty m)) = Ok (Empty (m - d))
  tag_in (Err k) = Err k

  abbrev EndsIn : Result Tag Reason → Type 0
  EndsIn x = EndsBy (d + n) x

  ahead : (at : ℕ) (t : Result Tag Reason) → TagWithin at (length s) t → EndsIn t → at < d + n
  ahead at (Ok (Start m)) w l = omega (arith, w.0)
  ahead at (Ok (Empty m)) w l = omega (arith, w.0)
  ahead at (Err k) w l = absurd l

  -- ---- one part
  abbrev Moved : ℕ → TagPart → Type 0
  Moved i (Read a) = a.value_end < d + n → part_at r i ≡ Read (back s d n fits a)
  Moved i (Ended (Ok (Start m))) = m ≤ d + n → part_at r i ≡ Ended (Ok (Start (m - d)))
  Moved i (Ended (Ok (Empty m))) = m ≤ d + n → part_at r i ≡ Ended (Ok (Empty (m - d)))
  Moved i (Ended (Err k)) = Unit {0}

  module _ (i : ℕ) (h : i ≤ n) where
    space : space_end s (d + i) ≤ d + n → space_end s (d + i) ≡ d + space_end r i
    space = run_here s d n fits is_space i h

    after_space : space_end s (d + i) < d + n → get_or r (space_end r i) 0 ≡ get_or s (space_end s (d + i)) 0
    after_space l =
        let a : space_end s (d + i) ≡ d + space_end r i = space (omega arith) in
        byte s d n fits (space_end r i) (omega arith) ∙ ap (λ (x : ℕ). get_or s x 0) (sym a)

    start_moved : eqb (get_or s (space_end s (d + i)) 0) (code ">") ≡ true → Moved i (Ended (Ok (Start (space_end s (d + i) + 1))))
    start_moved z l =
        let a : space_end s (d + i) ≡ d + space_end r i = space (omega arith) in
        let x : space_end r i + 1 ≡ space_end s (d + i) + 1 - d = omega arith in
        sym (part_start r i (space_end r i) refl (get_or r (space_end r i) 0) refl (after_space (omega arith) ∙ eqb-true (get_or s (space_end s (d + i)) 0) (code ">") z))
        ∙ ap (λ (j : ℕ). Ended (Ok (Start j))) x

    no_close : space_end s (d + i) < d + n → eqb (get_or s (space_end s (d + i)) 0) (code ">") ≡ false → get_or r (space_end r i) 0 ≡ code ">" → ⊥
    no_close l z y = eqb-false (get_or s (space_end s (d + i)) 0) (code ">") z (sym (after_space l) ∙ y)

    empty_moved : eqb (get_or s (space_end s (d + i)) 0) (code ">") ≡ false → stands (text "/>") s (space_end s (d + i)) ≡ true → Moved i (Ended (Ok (Empty (space_end s (d + i) + 2))))
    empty_moved z y l =
        let a : space_end s (d + i) ≡ d + space_end r i = space (omega arith) in
        let x : space_end r i + 2 ≡ space_end s (d + i) + 2 - d = omega arith in
        sym (part_empty r i (space_end r i) refl (get_or r (space_end r i) 0) refl (no_close (omega arith) z) (stands (text "/>") r (space_end r i)) refl
        (text_same s d n fits (text "/>") (space_end r i) (omega arith) ∙ ap (stands (text "/>") s) (sym a) ∙ y))
        ∙ ap (λ (j : ℕ). Ended (Ok (Empty j))) x

    read_moved : eqb (get_or s (space_end s (d + i)) 0) (code ">") ≡ false → stands (text "/>") s (space_end s (d + i)) ≡ false → d + i < space_end s (d + i) → (x : Option Attribute) → attribute_at s (space_end s (d + i)) ≡ x → Moved i (read_at x)
    read_moved z y g (Some a) q = λ l.
        let w : Inside s (space_end s (d + i)) (Some a) = rw q at (attribute_inside s (space_end s (d + i))) in
        let low : space_end s (d + i) < d + n = omega (arith, w.2, w.3, w.4) in
        let b : space_end s (d + i) ≡ d + space_end r i = space (omega arith) in
        let f : attribute_at r (space_end r i) ≡ Some (back s d n fits a) = attribute_same s d n fits (space_end r i) a (omega arith) l (ap (attribute_at s) (sym b) ∙ q) in
        sym (part_read r i (space_end r i) refl (get_or r (space_end r i) 0) refl (no_close low z) (stands (text "/>") r (space_end r i)) refl
        (text_none s d n fits (text "/>") (space_end r i) (ap (stands (text "/>") s) (sym b) ∙ y)) (omega arith) (Some (back s d n fits a)) (sym f) (back s d n fits a) refl)
    read_moved z y g None q = tt

    part_moved : Moved i (part_at s (d + i))
    unfolding part_to
    part_moved =
        pick_case (Moved i) (eqb (get_or s (space_end s (d + i)) 0) (code ">")) _ _ start_moved
        (λ z. pick_case (Moved i) (stands (text "/>") s (space_end s (d + i))) _ _ (empty_moved z)
        (λ y. pick_case (Moved i) (ltb (d + i) (space_end s (d + i))) _ _
        (λ g. read_moved z y (ltb-true (d + i) (space_end s (d + i)) g) (attribute_at s (space_end s (d + i))) refl) (λ _. tt)))

  -- ---- the row of attributes
  -- an attribute of the document, and that of the range
  pub record Same (b b' : ℕ) : Type 0 where
    pub place : b ≡ d + b'
    pub inner : b' < n
    pub whole : Attribute
    pub there : attribute_at s b ≡ Some whole
    pub here : attribute_at r b' ≡ Some (back s d n fits whole)
    pub within : whole.value_end < d + n

  abbrev pub Rows : List ℕ → List ℕ → Type 0
  Rows [] [] = Unit {0}
  Rows [] (b' ∷ bs') = ⊥
  Rows (b ∷ bs) [] = ⊥
  Rows (b ∷ bs) (b' ∷ bs') = Same b b' × Rows bs bs'

  abbrev RowSame : ℕ → Type 0
  RowSame i = Rows (items (attributes s (d + i))) (items (attributes r i)) × (ending (attributes r i) ≡ tag_in (ending (attributes s (d + i))))

  module _ (i : ℕ) (h : i ≤ n) (l : EndsIn (ending (attributes s (d + i)))) (again : (k : ℕ) → i < k → k ≤ n → EndsIn (ending (attributes s (d + k))) → RowSame k) where
    low : d + i < d + n
    low = ahead (d + i) (ending (attributes s (d + i))) (ending_within s (d + i) (d + i) (omega arith)) l

    outer : d + i < length s
    outer = omega (arith, low)

    inner : i < length r
    inner = omega (arith, low, range_length s d n fits)

    ended : (t : Result Tag Reason) → part_at s (d + i) ≡ Ended t → RowSame i
    unfolding items ending
    ended (Ok (Start m)) q =
        let a : attributes s (d + i) ≡ last (Ok (Start m)) = attributes_stop s (d + i) (part_at s (d + i)) refl (Ok (Start m)) q outer in
        let k : m ≤ d + n = subst EndsIn (ap ending a) l in
        let b : attributes r i ≡ last (Ok (Start (m - d))) = attributes_stop r i (part_at r i) refl (Ok (Start (m - d))) (subst (Moved i) q (part_moved i h) k) inner in
        rw (a, b) (tt, refl)
    ended (Ok (Empty m)) q =
        let a : attributes s (d + i) ≡ last (Ok (Empty m)) = attributes_stop s (d + i) (part_at s (d + i)) refl (Ok (Empty m)) q outer in
        let k : m ≤ d + n = subst EndsIn (ap ending a) l in
        let b : attributes r i ≡ last (Ok (Empty (m - d))) = attributes_stop r i (part_at r i) refl (Ok (Empty (m - d))) (subst (Moved i) q (part_moved i h) k) inner in
        rw (a, b) (tt, refl)
    ended (Err m) q =
        absurd (subst EndsIn (ap ending (attributes_stop s (d + i) (part_at s (d + i)) refl (Err m) q outer)) l)

    goes : (a : Attribute) → part_at s (d + i) ≡ Read a → RowSame i
    unfolding items ending
    goes a q =
        let b : ℕ = a.at in
        let e : ℕ = a.value_end in
        let c : attributes s (d + i) ≡ item b (attributes s (e + 1)) = attributes_go s (d + i) (part_at s (d + i)) refl a q outer in
        let b₁ : d + i < b = read_behind s (d + i) (part_at s (d + i)) refl a q in
        let b₂ : b < a.name_end = read_named s (d + i) (part_at s (d + i)) refl a q in
        let b₃ : a.name_end < a.value = read_valued s (d + i) (part_at s (d + i)) refl a q in
        let b₄ : a.value ≤ e = read_closed s (d + i) (part_at s (d + i)) refl a q in
        let f : EndsIn (ending (attributes s (e + 1))) = subst EndsIn (ap ending c) l in
        let g : e + 1 < d + n = ahead (e + 1) (ending (attributes s (e + 1))) (ending_within s (e + 1) (e + 1) (omega arith)) f in
        let p : part_at r i ≡ Read (back s d n fits a) = subst (Moved i) q (part_moved i h) (omega arith) in
        let o : attributes r i ≡ item (b - d) (attributes r (e - d + 1)) = attributes_go r i (part_at r i) refl (back s d n fits a) p inner in
        let x : e + 1 ≡ d + (e - d + 1) = omega arith in
        let y : RowSame (e - d + 1) = again (e - d + 1) (omega arith) (omega arith) (subst (λ (j : ℕ). EndsIn (ending (attributes s j))) x f) in
        let same : Same b (b - d) = record {
          place = omega arith;
          inner = omega arith;
          whole = a;
          there = read_attribute s (d + i) (part_at s (d + i)) refl a q;
          here = read_attribute r i (part_at r i) refl (back s d n fits a) p;
          within = omega arith;
        } in
        rw (c, o, x) ((same, y.0), y.1)

    row_here : (x : TagPart) → part_at s (d + i) ≡ x → RowSame i
    row_here (Read a) q = goes a q
    row_here (Ended t) q = ended t q

  row_from : (k i : ℕ) → n - i < k → i ≤ n → EndsIn (ending (attributes s (d + i))) → RowSame i
  row_from zero i f h l = absurd (omega arith)
  row_from (suc k) i f h l =
      row_here i h l (λ m a b y. row_from k m (omega (arith, low i h l (λ m a b y. row_from k m (omega arith) b y))) b y) (part_at s (d + i)) refl

  -- ---- the tests on the row
  same_name : (b b' : ℕ) → Same b b' → name_end s (d + b') ≤ d + n
  same_name b b' x =
      let w : Inside s b (Some x.whole) = subst (Inside s b) x.there (attribute_inside s b) in
      rw (sym x.place) (omega (arith, w.1, w.3, w.4, x.within))

  pub is_named_lem : (t : List ℕ) (b b' : ℕ) → Same b b' → name_is t s b ≡ name_is t r b'
  is_named_lem t b b' x = ap (name_is t s) x.place ∙ is_same s d n fits b' x.inner (same_name b b' x) t

  some_named_lem : (t bs bs' : List ℕ) → Rows bs bs' → some_named t s bs ≡ some_named t r bs'
  unfolding some_attribute
  some_named_lem t [] [] w = refl
  some_named_lem t [] (b' ∷ bs') w = absurd w
  some_named_lem t (b ∷ bs) [] w = absurd w
  some_named_lem t (b ∷ bs) (b' ∷ bs') w = rw (is_named_lem t b b' w.0, some_named_lem t bs bs' w.1)

  repeats_same : (bs bs' : List ℕ) → Rows bs bs' → repeated s bs ≡ repeated r bs'
  unfolding some_attribute
  repeats_same [] [] w = refl
  repeats_same [] (b' ∷ bs') w = absurd w
  repeats_same (b ∷ bs) [] w = absurd w
  repeats_same (b ∷ bs) (b' ∷ bs') w =
      let a : name_at s b ≡ name_at r b' = ap (name_at s) w.0.place ∙ named_same s d n fits b' w.0.inner (same_name b b' w.0) in
      rw (a, some_named_lem (name_at r b') bs bs' w.1, repeats_same bs bs' w.1)

  long_same : (b b' : ℕ) → Same b b' → is_long s b ≡ is_long r b'
  unfolding is_long
  long_same b b' x =
      let t : Attribute = x.whole in
      let w : Inside s b (Some t) = subst (Inside s b) x.there (attribute_inside s b) in
      let a : t.name_end - t.at ≡ t.name_end - d - (t.at - d) = both_less t.name_end t.at d (omega (arith, x.place, w.0)) in
      let e : t.value_end - t.value ≡ t.value_end - d - (t.value - d) = both_less t.value_end t.value d (omega (arith, x.place, w.2, w.3)) in
      rw (x.there, x.here, a, e)

  longs_same : (bs bs' : List ℕ) → Rows bs bs' → some_long s bs ≡ some_long r bs'
  unfolding some_attribute
  longs_same [] [] w = refl
  longs_same [] (b' ∷ bs') w = absurd w
  longs_same (b ∷ bs) [] w = absurd w
  longs_same (b ∷ bs) (b' ∷ bs') w = rw (long_same b b' w.0, longs_same bs bs' w.1)

  count_same : (bs bs' : List ℕ) → Rows bs bs' → length bs ≡ length bs'
  count_same [] [] w = refl
  count_same [] (b' ∷ bs') w = absurd w
  count_same (b ∷ bs) [] w = absurd w
  count_same (b ∷ bs) (b' ∷ bs') w = ap suc (count_same bs bs' w.1)

  -- ---- the tag at the first byte of the range
  refused_same : (t : Result Tag Reason) → is_err (tag_in t) ≡ is_err t
  refused_same (Ok (Start m)) = refl
  refused_same (Ok (Empty m)) = refl
  refused_same (Err k) = refl

  module _ (l : EndsIn (tag_at s d)) where
    opened : eqb (get_or s d 0) (code "<") and ltb (d + 1) (element_end s (d + 1)) ≡ true
    unfolding tag_to
    opened = go (eqb (get_or s d 0) (code "<") and ltb (d + 1) (element_end s (d + 1))) refl l
      where
        go : (t : Bool) → eqb (get_or s d 0) (code "<") and ltb (d + 1) (element_end s (d + 1)) ≡ t → EndsIn (pick t (tag_answer s (element_end s (d + 1) - (d + 1)) (items (attributes s (element_end s (d + 1)))) (ending (attributes s (element_end s (d + 1))))) (Err Malformed)) → t ≡ true
        go true q e = refl
        go false q e = absurd e

    pub first_byte : get_or s d 0 ≡ code "<"
    first_byte = eqb-true (get_or s d 0) (code "<") (and_left (eqb (get_or s d 0) (code "<")) (ltb (d + 1) (element_end s (d + 1))) opened)

    pub named : d + 1 < element_end s (d + 1)
    named = ltb-true (d + 1) (element_end s (d + 1)) (and_right (eqb (get_or s d 0) (code "<")) (ltb (d + 1) (element_end s (d + 1))) opened)

    abbrev t : Result Tag Reason
    t = ending (attributes s (element_end s (d + 1)))

    abbrev bs : List ℕ
    bs = items (attributes s (element_end s (d + 1)))

    answered : EndsIn (tag_answer s (element_end s (d + 1) - (d + 1)) bs t)
    unfolding tag_to
    answered = rw opened at l

    faultless : (is_err t or repeated s bs ≡ false) × (past_limit s (element_end s (d + 1) - (d + 1)) bs ≡ false)
    unfolding tag_answer
    faultless = go (is_err t or repeated s bs) refl answered
      where
        limits : (b : Bool) → EndsIn (pick b (Err PastLimit) t) → b ≡ false
        limits true e = absurd e
        limits false e = refl

        go : (b : Bool) → is_err t or repeated s bs ≡ b → EndsIn (pick b (Err Malformed) (pick (past_limit s (element_end s (d + 1) - (d + 1)) bs) (Err PastLimit) t)) → (is_err t or repeated s bs ≡ false) × (past_limit s (element_end s (d + 1) - (d + 1)) bs ≡ false)
        go true q e = absurd e
        go false q e = (q, limits (past_limit s (element_end s (d + 1) - (d + 1)) bs) e)

    pub tag_is : tag_at s d ≡ t
    unfolding tag_to tag_answer
    tag_is = rw (opened, faultless.0, faultless.1)

    ends : EndsIn t
    ends = subst EndsIn tag_is l

    pub name_low : element_end s (d + 1) < d + n
    name_low = ahead (element_end s (d + 1)) t (ending_within s (element_end s (d + 1)) (element_end s (d + 1)) (omega arith)) ends

    pub name_end_lem : element_end s (d + 1) ≡ d + element_end r 1
    name_end_lem = element_same s d n fits 1 (omega (arith, named, name_low)) (omega (arith, name_low))

    pub opened_same : eqb (get_or r 0 0) (code "<") and ltb (0 + 1) (element_end r (0 + 1)) ≡ true
    opened_same =
        let z : d + 0 ≡ d = omega arith in
        let b : get_or r 0 0 ≡ get_or s d 0 = byte s d n fits 0 (omega (arith, named, name_low)) ∙ ap (λ (j : ℕ). get_or s j 0) z in
        rw (b, first_byte, lt-ltb 1 (element_end r 1) (omega (arith, named, name_end_lem)))

    pub row_same : Rows bs (items (attributes r (element_end r 1))) × (ending (attributes r (element_end r 1)) ≡ tag_in t)
    row_same =
        subst (λ (j : ℕ). Rows (items (attributes s j)) (items (attributes r (element_end r 1))) × (ending (attributes r (element_end r 1)) ≡ tag_in (ending (attributes s j)))) (sym name_end_lem)
        (row_from (suc (n - element_end r 1)) (element_end r 1) (omega arith) (omega (arith, name_low, name_end_lem)) (subst (λ (j : ℕ). EndsIn (ending (attributes s j))) name_end_lem ends))

    past_same : past_limit r (element_end r 1 - (0 + 1)) (items (attributes r (element_end r 1))) ≡ past_limit s (element_end s (d + 1) - (d + 1)) bs
    past_same =
        let a : element_end s (d + 1) - (d + 1) ≡ element_end r 1 - (0 + 1) = omega (arith, name_end_lem) in
        rw (a, count_same bs (items (attributes r (element_end r 1))) row_same.0, longs_same bs (items (attributes r (element_end r 1))) row_same.0)

    tag_in_lem : tag_at r 0 ≡ tag_in t
    unfolding tag_to tag_answer
    tag_in_lem =
        let a : is_err (tag_in t) or repeated r (items (attributes r (element_end r 1))) ≡ false = rw (refused_same t, sym (repeats_same bs (items (attributes r (element_end r 1))) row_same.0)) faultless.0 in
        rw (opened_same, row_same.1, a, past_same, faultless.1)

    pub tag_same : tag_at r 0 ≡ tag_in (tag_at s d)
    tag_same = tag_in_lem ∙ ap tag_in (sym tag_is)

    pub ending_is : ending (tag_from s d) ≡ tag_at s d
    unfolding name_after
    ending_is = rw opened (sym tag_is)

    pub ending_in : ending (tag_from r 0) ≡ tag_in (tag_at s d)
    unfolding name_after
    ending_in = rw opened_same row_same.1 ∙ ap tag_in (sym tag_is)

    -- ---- an attribute by its name
    abbrev pub place_in : Option Place → Option Place
    place_in (Some p) = from_to (p.first - d) (p.after - d)
    place_in None = None

    -- it stands in the range, as any value that is found
    abbrev pub StandsIn : Option Place → Type 0
    StandsIn (Some p) = (d ≤ p.first) × (p.first ≤ p.after) × (p.after ≤ d + n)
    StandsIn None = Unit {0}

    first_same : (name bs bs' : List ℕ) → Rows bs bs' → (first_named name r bs' ≡ place_in (first_named name s bs)) × StandsIn (first_named name s bs)
    unfolding first_named
    first_same name [] [] w = (refl, tt)
    first_same name [] (b' ∷ bs') w = absurd w
    first_same name (b ∷ bs) [] w = absurd w
    first_same name (b ∷ bs) (b' ∷ bs') w =
        rw (is_named_lem name b b' w.0, w.0.there, w.0.here) (go (name_is name r b') (first_same name bs bs' w.1))
      where
        x : Same b b'
        x = w.0

        a : Attribute
        a = x.whole

        inside_is : Inside s b (Some a)
        inside_is = subst (Inside s b) x.there (attribute_inside s b)

        low : d ≤ a.value
        low = omega (arith, x.place, inside_is.2, inside_is.3)

        valued : (t : Bool) → (pick t (from_to (a.value - d) (a.value_end - d)) None ≡ place_in (pick t (from_to a.value a.value_end) None)) × StandsIn (pick t (from_to a.value a.value_end) None)
        valued true = (refl, (low, inside_is.4, omega (arith, x.within)))
        valued false = (refl, tt)

        here : (value_place (Some (back s d n fits a)) ≡ place_in (value_place (Some a))) × StandsIn (value_place (Some a))
        here = rw (sym (both_less a.value_end a.value d low)) (valued (leb (a.value_end - a.value) value_limit))

        go : (t : Bool) → (first_named name r bs' ≡ place_in (first_named name s bs)) × StandsIn (first_named name s bs)
            → (pick t (value_place (Some (back s d n fits a))) (first_named name r bs') ≡ place_in (pick t (value_place (Some a)) (first_named name s bs)))
            × StandsIn (pick t (value_place (Some a)) (first_named name s bs))
        go true e = here
        go false e = e

    row_of : attributes_of s d ≡ bs
    unfolding name_after
    row_of = rw opened

    row_in : attributes_of r 0 ≡ items (attributes r (element_end r 1))
    unfolding name_after
    row_in = rw opened_same

    module _ (name : List ℕ) where
      pub place_same : (attribute_place r 0 name ≡ place_in (attribute_place s d name)) × StandsIn (attribute_place s d name)
      unfolding attribute_place
      place_same = rw (row_of, row_in) (first_same name bs (items (attributes r (element_end r 1))) row_same.0)

      pub attribute_is_lem : attribute_of r 0 name ≡ attribute_of s d name
      attribute_is_lem = ap (value_at r) place_same.0 ∙ go (attribute_place s d name) place_same.1
        where
          go : (p : Option Place) → StandsIn p → value_at r (place_in p) ≡ value_at s p
          go (Some p) w =
              let a : d + (p.first - d) ≡ p.first = omega (arith, w.0) in
              let b : d + (p.after - d) ≡ p.after = omega (arith, w.0, w.1) in
              ap (replaced 0) (sym (part_same s d n fits (p.first - d) (p.after - d) (omega (arith, w.2))) ∙ (rw (a, b)))
          go None w = refl
