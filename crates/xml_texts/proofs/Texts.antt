-- The content of an element, by what the loops over its pieces know; and where it stands and how much it says, for callers.
-- Assumes nothing.
use Rattle.std.specs.Prelude.{Option, None, Some, ℕ, Result, Ok, Err}
use Rattle.refusals.specs.declared.Reason.TheVariants.{Malformed}
use Rattle.refusals.specs.declared.Reason.{Reason}
use mathlib.Core.Path.{◌≡◌, refl, sym, ◌∙◌, ap, subst}
use mathlib.Core.Bool.{Bool, true, false}
use mathlib.Core.List.{List, [], ◌∷◌, ◌++◌, append-nil}
use Prim.Native.Nat.{ℕ, zero, suc, ◌+◌, ◌-◌, ◌<◌, ◌≤◌, ◌^◌}
use Prim.Native.Char.{code}
use native.Mathlib.Omega.{arith}
use borrow.Author.Tests.{ne_eqb, le-leb, lt-leb, leb-true, eqb-true, eqb-false}
use lib.Dec.{eqb, leb}
use lib.ListN.{length, drop, get_or, length-append, length-take, length-drop}
use lib.Seq.{sets, length-sets, sets-eq, get_or-take, get_or-drop}
use mir.Val.{Fits}
use mir.Syntax.{w64}
use Rattle.text_scan.specs.Lists.{every}
use Rattle.text_scan.proofs.Tests.{never, pick_case}
use Rattle.text_scan.proofs.Within.{inside}
use Rattle.text_scan.proofs.Lists.{every_at}
use Rattle.xml_reader.specs.Limits.{value_limit}
use Rattle.xml_references.specs.Runs.{text_end}
use Rattle.xml_references.specs.Decoded.{replaced, part, decoded}
use Rattle.xml_references.proofs.Bounds as runs
use Rattle.xml_references.proofs.Replaced.{decoded_most, plain_same}
use Rattle.xml_references.proofs.Writes.{sets_append}
use Rattle.xml_attributes.specs.declared.Attribute.{Attribute}
use Rattle.xml_attributes.specs.declared.TagPart.{TagPart}
use Rattle.xml_attributes.specs.declared.TagPart.TheVariants.{Read, Ended as Ends}
use Rattle.xml_attributes.specs.declared.Tag.{Tag}
use Rattle.xml_attributes.specs.declared.Tag.TheVariants.{Start as Opens, Empty as Stands}
use Rattle.xml_attributes.specs.Chains.{holds, item, last, items, ending}
use Rattle.xml_attributes.specs.Parts.{part_at, attributes}
use Rattle.xml_attributes.proofs.Parts.{attributes_go, attributes_stop, attributes_out}
use Rattle.xml_attributes.proofs.Chains.{chain_goes, chain_stops, chain_out}
use Rattle.xml_pieces.specs.declared.Kind.{Kind}
use Rattle.xml_pieces.specs.declared.Kind.TheVariants.{Text, Comment, Instruction, Declaration, Start, Empty, End}
use Rattle.xml_pieces.specs.declared.DocumentPart.TheVariants.{Inside}
use Rattle.xml_pieces.specs.declared.Scanned.{Scanned}
use Rattle.xml_pieces.specs.declared.Scanned.TheVariants.{Piece, Refused}
use Rattle.xml_pieces.specs.Pieces.{found, text_piece_at, piece_at}
use Rattle.xml_pieces.proofs.Within as pieces
use Rattle.xml_texts.specs.declared.Content.{Content}
use Rattle.xml_texts.specs.declared.Content.TheVariants.{Said, Dropped, Ended, Other}
use Rattle.xml_values.specs.declared.Place.{Place}
use Rattle.xml_values.specs.Attributes.{name_after, tag_from}
use Rattle.xml_texts.specs.Texts.{content_of, content_at, content_step, step_at, content_from, content_to, content_behind, text_place, saying, said_from, text_of}
use Rattle.xml_texts.specs.Texts as texts
use Rattle.xml_values.specs.declared.View.{View}
use Rattle.xml_values.specs.declared.View.TheVariants.{Scratch}
use Rattle.xml_values.specs.Views.{is_shown, said_in, plain_of, seen, InRange, Shows}
use Rattle.xml_values.proofs.Views.{shown_plain, Says, AsItStands, plain_stands, shows_front, in_range, seen_is}
use Rattle.xml_values.specs.Places.{from_to}

-- ---- the end of a tag: the row from the tag's name on ends as the row from i on
abbrev pub TagEnds : List ℕ → ℕ → ℕ → Type 0
TagEnds s first i = ending (tag_from s first) ≡ ending (attributes s i)

pub tag_ends_start : (s : List ℕ) (first i : ℕ) → i ≡ name_after s first → TagEnds s first i
tag_ends_start s first i e = rw e

module _ (s : List ℕ) (first i : ℕ) (l : TagEnds s first i) where
  pub tag_out : length s ≤ i → Err Malformed ≡ ending (tag_from s first)
  unfolding ending
  tag_out h = sym (l ∙ rw (attributes_out s i h))

  module _ (h : i < length s) (x : TagPart) (ex : x ≡ part_at s i) where
    pub tag_ended : (t : Result Tag Reason) → x ≡ Ends t → t ≡ ending (tag_from s first)
    unfolding ending
    tag_ended t z = sym (l ∙ rw (attributes_stop s i x ex t z h))

    pub tag_next : (a : Attribute) → x ≡ Read a → TagEnds s first (a.value_end + 1)
    unfolding ending
    tag_next a z = l ∙ rw (attributes_go s i x ex a z h)

-- ---- a piece of a content
module _ (x : Scanned) (k : Kind) (j : ℕ) (z : x ≡ Piece k j) where
  pub of_text : k ≡ Text → Said j ≡ content_of x
  of_text q = rw (z, q)

  pub of_comment : k ≡ Comment → Dropped j ≡ content_of x
  of_comment q = rw (z, q)

  pub of_instruction : k ≡ Instruction → Dropped j ≡ content_of x
  of_instruction q = rw (z, q)

pub is_content : (s : List ℕ) (i : ℕ) (x : Scanned) (r : Content) → x ≡ piece_at s i Inside → r ≡ content_of x → r ≡ content_at s i
unfolding content_at
is_content s i x r e f = f ∙ ap content_of e

-- it ends behind its start, and within
abbrev Within : ℕ → ℕ → Content → Type 0
Within at n (Said j) = (at < j) × (j ≤ n)
Within at n (Dropped j) = (at < j) × (j ≤ n)
Within at n Ended = Unit {0}
Within at n Other = Unit {0}

of_within : (at n : ℕ) (x : Scanned) → pieces.Within at n x → Within at n (content_of x)
of_within at n (Piece Text j) w = w
of_within at n (Piece Comment j) w = w
of_within at n (Piece Instruction j) w = w
of_within at n (Piece Declaration j) w = tt
of_within at n (Piece Start j) w = tt
of_within at n (Piece Empty j) w = tt
of_within at n (Piece End j) w = tt
of_within at n (Refused k) w = tt

content_within : (s : List ℕ) (i : ℕ) → i < length s → Within i (length s) (content_at s i)
unfolding content_at
content_within s i h = of_within i (length s) (piece_at s i Inside) (pieces.piece_within s i Inside h)

-- ---- the row of pieces
module _ (s : List ℕ) (i : ℕ) where
  pub content_out : length s ≤ i → content_from s i ≡ last None
  unfolding content_from
  content_out h = chain_out (step_at s) None (length s) i h

  module _ (h : i < length s) (x : Content) (ex : x ≡ content_at s i) where
    here : step_at s i ≡ content_step i x
    unfolding step_at
    here = ap (content_step i) (sym ex)

    bounds : Within i (length s) x
    bounds = subst (Within i (length s)) (sym ex) (content_within s i h)

    pub content_ended : x ≡ Ended → content_from s i ≡ last (Some i)
    unfolding content_from
    content_ended z = chain_stops (step_at s) None (length s) i (Some i) h (here ∙ ap (content_step i) z)

    pub content_other : x ≡ Other → content_from s i ≡ last None
    unfolding content_from
    content_other z = chain_stops (step_at s) None (length s) i None h (here ∙ ap (content_step i) z)

    behind : (j : ℕ) → i < j → j ≤ length s → step_at s i ≡ holds i (j - (i + 1)) → content_from s i ≡ item i (content_from s j)
    unfolding content_from
    behind j g k q =
        let a : i + 1 + (j - (i + 1)) ≡ j = omega arith in
        rw a at (chain_goes (step_at s) None (length s) i i (j - (i + 1)) (omega arith) q)

    module _ (j : ℕ) (z : x ≡ Said j) where
      pub said_ahead : i < j
      said_ahead = (rw z at bounds).0

      pub said_inside : j ≤ length s
      said_inside = (rw z at bounds).1

      pub said_behind : content_from s i ≡ item i (content_from s j)
      said_behind = behind j said_ahead said_inside (here ∙ ap (content_step i) z)

      pub said_next : said_from s i ≡ decoded s i j ++ said_from s j
      unfolding said_from items saying
      said_next = rw (said_behind, ← ex, z)

      pub said_falls : length s - j < length s - i
      said_falls = omega (arith, said_ahead, said_inside)

    module _ (j : ℕ) (z : x ≡ Dropped j) where
      pub dropped_ahead : i < j
      dropped_ahead = (rw z at bounds).0

      pub dropped_inside : j ≤ length s
      dropped_inside = (rw z at bounds).1

      pub dropped_behind : content_from s i ≡ item i (content_from s j)
      dropped_behind = behind j dropped_ahead dropped_inside (here ∙ ap (content_step i) z)

      pub dropped_next : said_from s i ≡ said_from s j
      unfolding said_from items saying
      dropped_next = rw (dropped_behind, ← ex, z)

      pub dropped_falls : length s - j < length s - i
      dropped_falls = omega (arith, dropped_ahead, dropped_inside)

-- ---- the loop for the end tag: the row from a on ends as the row from i on
abbrev pub ContentEnds : List ℕ → ℕ → ℕ → Type 0
ContentEnds s a i = ending (content_from s a) ≡ ending (content_from s i)

module _ (s : List ℕ) (a i : ℕ) (l : ContentEnds s a i) where
  pub ends_out : length s ≤ i → None ≡ ending (content_from s a)
  unfolding ending
  ends_out h = sym (l ∙ rw (content_out s i h))

  module _ (h : i < length s) (x : Content) (ex : x ≡ content_at s i) where
    pub ends_here : x ≡ Ended → Some i ≡ ending (content_from s a)
    unfolding ending
    ends_here z = sym (l ∙ rw (content_ended s i h x ex z))

    pub ends_other : x ≡ Other → None ≡ ending (content_from s a)
    unfolding ending
    ends_other z = sym (l ∙ rw (content_other s i h x ex z))

    pub ends_said : (j : ℕ) → x ≡ Said j → ContentEnds s a j
    unfolding ending
    ends_said j z = l ∙ rw (said_behind s i h x ex j z)

    pub ends_dropped : (j : ℕ) → x ≡ Dropped j → ContentEnds s a j
    unfolding ending
    ends_dropped j z = l ∙ rw (dropped_behind s i h x ex j z)

-- ---- how much a content says, and where it ends: by what is left of s
no_end : {A : Type 0} (e : ℕ) → None ≡ Some e → A
no_end e q = absurd (let z : ◌≡◌ {A = ℕ} 0 1 = cc in omega arith)

same_end : (i e : ℕ) → Some i ≡ Some e → i ≡ e
same_end i e q = cc

said_nothing : (s : List ℕ) (i : ℕ) (r : Option ℕ) → content_from s i ≡ last r → said_from s i ≡ []
unfolding said_from items saying
said_nothing s i r q = rw q

no_bytes : (xs : List ℕ) → length xs ≤ 0 → xs ≡ []
no_bytes [] h = refl
no_bytes (x ∷ xs) h = absurd (omega arith)

module _ (s : List ℕ) (e : ℕ) where
  Bounded : ℕ → Type 0
  Bounded i = (i + length (said_from s i) ≤ e) × (e < length s)

  bounded : (n i : ℕ) → length s - i < n → ending (content_from s i) ≡ Some e → Bounded i
  unfolding ending Bounded
  bounded zero i k q = absurd (omega arith)
  bounded (suc n) i k q =
      inside (length s) i (λ h. go h (content_at s i) refl (λ j g f. bounded n j (omega arith) f)) (λ h. no_end e (sym (ap ending (content_out s i h)) ∙ q))
    where
      go : i < length s → (x : Content) → x ≡ content_at s i → ((j : ℕ) → (i < j) × (j ≤ length s) → ending (content_from s j) ≡ Some e → Bounded j) → Bounded i
      go h (Said j) ex f =
          let w : Bounded j = f j (said_ahead s i h (Said j) ex j refl, said_inside s i h (Said j) ex j refl) (sym (ap ending (said_behind s i h (Said j) ex j refl)) ∙ q) in
          (omega (arith, ap length (said_next s i h (Said j) ex j refl), length-append (decoded s i j) (said_from s j), decoded_most s i j, said_ahead s i h (Said j) ex j refl), w.1)
      go h (Dropped j) ex f =
          let w : Bounded j = f j (dropped_ahead s i h (Dropped j) ex j refl, dropped_inside s i h (Dropped j) ex j refl) (sym (ap ending (dropped_behind s i h (Dropped j) ex j refl)) ∙ q) in
          (omega (arith, ap length (dropped_next s i h (Dropped j) ex j refl), dropped_ahead s i h (Dropped j) ex j refl), w.1)
      go h Ended ex f =
          let z : i ≡ e = same_end i e (sym (ap ending (content_ended s i h Ended ex refl)) ∙ q) in
          (omega (arith, ap length (said_nothing s i (Some i) (content_ended s i h Ended ex refl))), omega arith)
      go h Other ex f = no_end e (sym (ap ending (content_other s i h Other ex refl)) ∙ q)

  module _ (a : ℕ) (q : ending (content_from s a) ≡ Some e) where
    pub said_most : a + length (said_from s a) ≤ e
    unfolding Bounded
    said_most = (bounded (suc (length s - a)) a (omega arith) q).0

    pub end_inside : e < length s
    unfolding Bounded
    end_inside = (bounded (suc (length s - a)) a (omega arith) q).1

    pub end_ahead : a ≤ e
    end_ahead = omega (arith, said_most)

-- ---- the raw content, by the tests of the code
module _ (s : List ℕ) (a : ℕ) (x : Option ℕ) (ex : x ≡ ending (content_from s a)) where
  pub no_content : x ≡ None → None ≡ content_to a (ending (content_from s a))
  no_content z = rw (← ex, z)

  module _ (e : ℕ) (z : x ≡ Some e) where
    pub content_ahead : a ≤ e
    content_ahead = end_ahead s e a (sym ex ∙ z)

    pub content_whole : e - a ≤ value_limit → from_to a e ≡ content_to a (ending (content_from s a))
    content_whole h = rw (← ex, z, le-leb (e - a) value_limit h)

    pub content_long : value_limit < e - a → None ≡ content_to a (ending (content_from s a))
    content_long h = rw (← ex, z, lt-leb (e - a) value_limit h)

module _ (s : List ℕ) (first : ℕ) (t : Result Tag Reason) (et : t ≡ ending (tag_from s first)) where
  pub text_behind_lem : (tag : Tag) → t ≡ Ok tag → (a : ℕ) → tag ≡ Opens a → (r : Option Place) → r ≡ content_to a (ending (content_from s a)) → r ≡ text_place s first
  unfolding text_place
  text_behind_lem tag y a z r e = rw (← et, y, z) e

  pub text_empty : (tag : Tag) → t ≡ Ok tag → (j : ℕ) → tag ≡ Stands j → None ≡ text_place s first
  unfolding text_place
  text_empty tag y j z = rw (← et, y, z)

  pub text_malformed : (n : Reason) → t ≡ Err n → None ≡ text_place s first
  unfolding text_place
  text_malformed n z = rw (← et, z)

-- ---- bounds: a content that is found stands within, within the limit, and ends at its end tag
abbrev pub Stood : List ℕ → Option Place → Type 0
Stood s (Some p) = (p.after - p.first ≤ value_limit) × (ending (content_from s p.first) ≡ Some p.after)
Stood s None = Unit {0}

module _ (s : List ℕ) where
  content_stood : (a : ℕ) (x : Option ℕ) → ending (content_from s a) ≡ x → Stood s (content_to a x)
  content_stood a (Some e) q = pick_case (Stood s) (leb (e - a) value_limit) _ _ (λ h. (leb-true (e - a) value_limit h, q)) (λ _. tt)
  content_stood a None q = tt

  behind_stood : (t : Result Tag Reason) → Stood s (content_behind s t)
  behind_stood (Ok (Opens a)) = content_stood a (ending (content_from s a)) refl
  behind_stood (Ok (Stands j)) = tt
  behind_stood (Err n) = tt

  pub text_stood : (first : ℕ) → Stood s (text_place s first)
  unfolding text_place
  text_stood first = behind_stood (ending (tag_from s first))

-- of a place that the code was told
module _ (s : List ℕ) (first : ℕ) (p : Option Place) (ep : p ≡ text_place s first) (there : Place) (z : p ≡ Some there) where
  stood : Stood s (Some there)
  stood = rw z at (rw (← ep) at (text_stood s first))

  pub text_ends : ending (content_from s there.first) ≡ Some there.after
  text_ends = stood.1

  pub text_ahead : there.first ≤ there.after
  text_ahead = end_ahead s there.after there.first stood.1

  pub text_inside : there.after ≤ length s
  text_inside = omega (arith, end_inside s there.after there.first stood.1)

  pub text_room : (out : List ℕ) → value_limit ≤ length out → there.after - there.first ≤ length out
  text_room out h = omega (arith, stood.0)

-- ---- the loop that stores: what is left to say at i, stored from n on, makes what the whole makes
abbrev pub Stored : List ℕ → ℕ → ℕ → List ℕ → List ℕ → ℕ → ℕ → Type 0
Stored s a e out₀ out n i =
    (sets out n (said_from s i) ≡ sets out₀ 0 (said_from s a))
    × (n + length (said_from s i) ≡ length (said_from s a))
    × (length out ≡ length out₀)
    × (ending (content_from s i) ≡ Some e)
    × (a + n ≤ i)

module _ (s : List ℕ) (a e : ℕ) (out₀ out : List ℕ) (n i : ℕ) (l : Stored s a e out₀ out n i) where
  here_inside : i < e → i < length s
  here_inside h = omega (arith, end_inside s e i l.3)

  module _ (h : i < e) (x : Content) (ex : x ≡ content_at s i) where
    module _ (j : ℕ) (z : x ≡ Said j) where
      ends_behind : ending (content_from s j) ≡ Some e
      unfolding ending
      ends_behind = sym (ap ending (said_behind s i (here_inside h) x ex j z)) ∙ l.3

      pub run_ahead : i ≤ j
      run_ahead = omega (arith, said_ahead s i (here_inside h) x ex j z)

      pub run_inside : j ≤ length s
      run_inside = said_inside s i (here_inside h) x ex j z

      pub run_less : e - j < e - i
      run_less = omega (arith, said_ahead s i (here_inside h) x ex j z, end_ahead s e j ends_behind)

      pub run_fits : (k : ℕ) → k ≡ length (replaced 0 (part s i j)) → e - a ≤ length out₀ → length out₀ < 2 ^ 64 → Fits w64 (n + k)
      run_fits k g r q = omega (arith, l.4, decoded_most s i j, end_ahead s e j ends_behind, said_ahead s i (here_inside h) x ex j z)

      module _ (k : ℕ) (out' : List ℕ) (g : (k ≡ length (replaced 0 (part s i j))) × (out' ≡ sets out n (replaced 0 (part s i j)))) where
        sizes : length (said_from s i) ≡ length (decoded s i j) + length (said_from s j)
        sizes = ap length (said_next s i (here_inside h) x ex j z) ∙ length-append (decoded s i j) (said_from s j)

        pub run_stored : Stored s a e out₀ out' (n + k) j
        run_stored = (
          rw (g.0, g.1) (sym (sets_append (decoded s i j) (said_from s j) out n) ∙ ap (sets out n) (sym (said_next s i (here_inside h) x ex j z)) ∙ l.0),
          omega (arith, sizes, l.1, g.0),
          ap length g.1 ∙ length-sets out n (decoded s i j) ∙ l.2,
          ends_behind,
          omega (arith, l.4, g.0, decoded_most s i j, said_ahead s i (here_inside h) x ex j z),
        )

    module _ (j : ℕ) (z : x ≡ Dropped j) where
      ends_past : ending (content_from s j) ≡ Some e
      unfolding ending
      ends_past = sym (ap ending (dropped_behind s i (here_inside h) x ex j z)) ∙ l.3

      pub drop_less : e - j < e - i
      drop_less = omega (arith, dropped_ahead s i (here_inside h) x ex j z, end_ahead s e j ends_past)

      pub drop_stored : Stored s a e out₀ out n j
      drop_stored =
          let q : said_from s i ≡ said_from s j = dropped_next s i (here_inside h) x ex j z in
          (rw (← q) l.0, rw (← q) l.1, l.2, ends_past, omega (arith, l.4, dropped_ahead s i (here_inside h) x ex j z))

  -- ---- at the end
  module _ (room : e - a ≤ length out₀) where
    stored_all : said_from s i ≡ [] → (n ≡ length (said_from s a)) × (out ≡ said_from s a ++ drop n out₀)
    stored_all q =
        let m : n ≡ length (said_from s a) = omega (arith, ap length q, l.1) in
        let g : 0 + length (said_from s a) ≡ n = omega arith in
        (m, ap (sets out n) (sym q) ∙ l.0 ∙ sets-eq (said_from s a) out₀ 0 (omega (arith, l.4, end_ahead s e i l.3)) ∙ rw g)

    -- at the end of the content, and at what ends the row of its pieces
    nothing_left : e ≤ i → said_from s i ≡ []
    nothing_left h = no_bytes (said_from s i) (omega (arith, said_most s e i l.3))

    pub end_count : e ≤ i → n ≡ length (said_from s a)
    end_count h = (stored_all (nothing_left h)).0

    pub end_stored : e ≤ i → out ≡ said_from s a ++ drop n out₀
    end_stored h = (stored_all (nothing_left h)).1

    module _ (h : i < e) (x : Content) (ex : x ≡ content_at s i) where
      pub ended_count : x ≡ Ended → n ≡ length (said_from s a)
      ended_count z = (stored_all (said_nothing s i (Some i) (content_ended s i (here_inside h) x ex z))).0

      pub ended_stored : x ≡ Ended → out ≡ said_from s a ++ drop n out₀
      ended_stored z = (stored_all (said_nothing s i (Some i) (content_ended s i (here_inside h) x ex z))).1

      pub other_count : x ≡ Other → n ≡ length (said_from s a)
      other_count z = (stored_all (said_nothing s i None (content_other s i (here_inside h) x ex z))).0

      pub other_stored : x ≡ Other → out ≡ said_from s a ++ drop n out₀
      other_stored z = (stored_all (said_nothing s i None (content_other s i (here_inside h) x ex z))).1

-- ---- a content without references and dropped parts is one run of text, which says itself
module _ (s : List ℕ) (a e : ℕ) (q : ending (content_from s a) ≡ Some e) (plain : every is_shown (part s a e) ≡ true) where
  -- no byte of it is '<'
  no_markup : (j : ℕ) → a ≤ j → j < e → get_or s j 0 ≡ code "<" → ⊥
  no_markup j h g b =
      let at : a + (j - a) ≡ j = omega arith in
      let is : get_or (part s a e) (j - a) 0 ≡ code "<" = get_or-take (e - a) (drop a s) (j - a) 0 (omega arith) ∙ get_or-drop a s (j - a) 0 ∙ ap (λ k. get_or s k 0) at ∙ b in
      let long : j - a < length (part s a e) = simp (length-take, length-drop) (omega (arith, end_inside s e a q)) in
      let t : is_shown (get_or (part s a e) (j - a) 0) ≡ true = every_at is_shown (part s a e) (j - a) plain long in
      never (sym t ∙ (rw is refl))

  -- the run ends where the content does
  run_whole : (j : ℕ) → j ≤ e → (j < length s → get_or s j 0 ≡ code "<") → a ≤ j → j ≡ e
  run_whole j h g k = go (eqb j e) refl
    where
      go : (t : Bool) → eqb j e ≡ t → j ≡ e
      go true z = eqb-true j e z
      go false z = absurd (no_markup j k (omega (arith, eqb-false j e z)) (g (omega (arith, eqb-false j e z, end_inside s e a q))))

  text_here : a < e → content_at s a ≡ content_of (found Text (text_end s a))
  unfolding content_at piece_at text_piece_at
  text_here h = rw (ne_eqb (get_or s a 0) 60 (no_markup a (omega arith) h))

  at_run : a < e → (x : Option ℕ) → text_end s a ≡ x → said_from s a ≡ part s a e
  unfolding ending
  at_run h (Some j) w =
      let le : a ≤ length s = omega (arith, end_inside s e a q) in
      let lt : a < length s = omega (arith, end_inside s e a q) in
      let c : Said j ≡ content_at s a = sym (text_here h ∙ ap (λ (y : Option ℕ). content_of (found Text y)) w) in
      let f : ending (content_from s j) ≡ Some e = sym (ap ending (said_behind s a lt (Said j) c j refl)) ∙ q in
      let m : j ≡ e = run_whole j (end_ahead s e j f) (runs.text_ended s a le j w) (runs.text_ahead s a le j w) in
      let d : decoded s a j ≡ part s a e = rw m (plain_same (part s a e) (shown_plain (part s a e) plain)) in
      let n : said_from s j ≡ [] = no_bytes (said_from s j) (omega (arith, said_most s e j f)) in
      said_next s a lt (Said j) c j refl ∙ rw (d, n) (append-nil (part s a e))
  at_run h None w =
      let lt : a < length s = omega (arith, end_inside s e a q) in
      let c : Other ≡ content_at s a = sym (text_here h ∙ ap (λ (y : Option ℕ). content_of (found Text y)) w) in
      no_end e (sym (ap ending (content_other s a lt Other c refl)) ∙ q)

  pub said_itself : said_from s a ≡ part s a e
  said_itself = go (eqb a e) refl
    where
      go : (t : Bool) → eqb a e ≡ t → said_from s a ≡ part s a e
      go true z =
          let w : e - a ≡ 0 = omega (arith, eqb-true a e z) in
          no_bytes (said_from s a) (omega (arith, said_most s e a q, eqb-true a e z)) ∙ (rw w refl)
      go false z = at_run (omega (arith, eqb-false a e z, end_ahead s e a q)) (text_end s a) refl

-- ---- the text is shown, and seen
pub text_front : (s : List ℕ) (place : Option Place) (out : List ℕ) (p : Option Place) → p ≡ place → (there : Place) → p ≡ Some there → (t : Bool) → t ≡ every is_shown (part s there.first there.after) → value_limit ≤ length out → (n : ℕ) (out' : List ℕ) → t ≡ false → (n ≡ length (said_from s there.first)) × (out' ≡ said_from s there.first ++ drop n out) → Shows s place (texts.text_at s place) out (Scratch n) out'
text_front s place out p ep there z t et room n out' f g =
    let q : place ≡ Some there = sym ep ∙ z in
    shows_front s place (texts.text_at s place) out p ep there z t et room n out' f (rw q g)

pub text_says : (s : List ℕ) (first : ℕ) → Says s (text_place s first) (text_of s first)
text_says s first = go (text_place s first) (text_stood s first)
  where
    go : (p : Option Place) → Stood s p → Says s p (texts.text_at s p)
    go (Some p) w =
        (end_ahead s p.after p.first w.1, omega (arith, end_inside s p.after p.first w.1), w.0, λ q. said_itself s p.first p.after w.1 q, omega (arith, said_most s p.after p.first w.1))
    go None w = refl

module _ (s : List ℕ) (first : ℕ) (scratch : List ℕ) (view : View) (after : List ℕ) (x : Shows s (text_place s first) (text_of s first) scratch view after) where
  pub text_in_range : InRange s after view
  text_in_range = in_range s (text_of s first) scratch (text_place s first) (text_says s first) view after x

  pub text_seen : seen s after view ≡ said_in scratch (text_of s first)
  text_seen = seen_is s (text_of s first) scratch (text_place s first) (text_says s first) view after x

module _ (s : List ℕ) (first : ℕ) (p : Option Place) (ep : p ≡ plain_of s (text_place s first)) (there : Place) (z : p ≡ Some there) where
  stands : AsItStands s (text_of s first) (Some there)
  stands = rw (sym ep ∙ z) at (plain_stands s (text_of s first) (text_place s first) (text_says s first))

  pub plain_text_ahead : there.first ≤ there.after
  plain_text_ahead = stands.0

  pub plain_text_inside : there.after ≤ length s
  plain_text_inside = stands.1

  pub plain_text_says : part s there.first there.after ≡ text_of s first
  plain_text_says = stands.2
