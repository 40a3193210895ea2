-- A tag, judged by what its reading brought and kept; and where it ends, for callers.
-- Assumes nothing.
use Rattle.std.specs.Prelude.{is_err, Result, Ok, Err}
use Rattle.refusals.specs.declared.Reason.TheVariants.{Malformed, PastLimit}
use Rattle.refusals.specs.declared.Reason.{Reason}
use mathlib.Core.Path.{◌≡◌, refl, sym, ◌∙◌, ap}
use mathlib.Core.Bool.{Bool, true, false}
use mathlib.Core.List.{List, [], ◌∷◌}
use Prim.Native.Nat.{ℕ, ◌+◌, ◌-◌, ◌<◌, ◌≤◌, ◌^◌}
use Prim.Native.Char.{code}
use native.Mathlib.Nat.{zero-add}
use native.Mathlib.Omega.{arith}
use borrow.Author.Tests.{eq-eqb, ne_eqb, lt-ltb, le-ltb, le-leb, lt-leb, leb-true, eqb-true}
use mir.Val.{Fits}
use mir.Syntax.{w64}
use lib.Dec.{eqb, ltb, leb}
use lib.ListN.{length, take, get_or}
use lib.Seq.{sets, length-sets}
use Rattle.text_scan.specs.Choice.{pick, ◌or◌}
use Rattle.text_scan.proofs.Lists.{run_stops}
use Rattle.text_scan.proofs.Tests.{pick_case, or_true, or_false}
use Rattle.text_scan.proofs.Within.{there}
use Rattle.xml_reader.specs.Limits.{name_limit, value_limit, attributes_limit}
use Rattle.xml_tags.specs.declared.Body.{Body}
use Rattle.xml_attributes.specs.declared.TagPart.TheVariants.{Ended}
use Rattle.xml_attributes.specs.declared.Tag.{Tag}
use Rattle.xml_attributes.specs.declared.Tag.TheVariants.{Start}
use Rattle.xml_names.specs.Names.{is_space, space_end}
use Rattle.xml_names.specs.ElementNames.{element_end}
use Rattle.xml_attributes.specs.Chains.{last, items, ending}
use Rattle.xml_attributes.specs.Parts.{part_to, part_at, attributes, some_attribute, some_named, repeated}
use Rattle.xml_tags.specs.Tags.{some_long, past_limit, tag_answer, tag_to, tag_at}
use Rattle.xml_tags.specs.Reading.{body_of}
use Rattle.xml_tags.proofs.Reading.{brought}
use Rattle.xml_attributes.proofs.Keeping.{kept_whole}
use Rattle.xml_attributes.proofs.Parts.{attributes_stop}

-- among no places there is none
pub none_behind : (t s bs : List ℕ) → length bs ≡ 0 → false ≡ some_named t s bs
unfolding some_attribute
none_behind t s [] h = refl
none_behind t s (b ∷ bs) h = absurd (omega arith)

module _ (s starts : List ℕ) (count at : ℕ) (r : Bool) where
  pub by_places : count ≤ length starts → r ≡ repeated s (take count starts) → r ≡ pick (leb count (length starts)) (repeated s (take count starts)) (repeated s (items (attributes s at)))
  by_places h e = rw (le-leb count (length starts) h) e

  pub by_reading : length starts < count → r ≡ repeated s (items (attributes s at)) → r ≡ pick (leb count (length starts)) (repeated s (take count starts)) (repeated s (items (attributes s at)))
  by_reading h e = rw (lt-leb count (length starts) h) e

-- two of the same name, asked of the places or of the tag
either_way : (s zeros starts bs : List ℕ) (count : ℕ) → starts ≡ sets zeros 0 bs → count ≡ length bs → pick (leb count (length starts)) (repeated s (take count starts)) (repeated s bs) ≡ repeated s bs
either_way s zeros starts bs count e f =
    pick_case (λ r. r ≡ repeated s bs) (leb count (length starts)) (repeated s (take count starts)) (repeated s bs)
    (λ h. ap (repeated s) (ap (take count) e ∙ (rw f (kept_whole zeros bs (room (leb-true count (length starts) h))))))
    (λ _. refl)
  where
    room : count ≤ length starts → length bs ≤ length zeros
    room h = omega (arith, ap length e, length-sets zeros 0 bs)

swapped : (a b : Bool) → a or b ≡ b or a or false
swapped true true = refl
swapped true false = refl
swapped false true = refl
swapped false false = refl

-- ---- a tag without attributes
pub closes_told : (s : List ℕ) (n b : ℕ) → b ≡ get_or s n 0 → eqb b (code ">") ≡ eqb (get_or s n 0) (code ">")
closes_told s n b e = rw e

pub closes_fits : (s : List ℕ) (n : ℕ) (t : Bool) → t ≡ eqb (get_or s n 0) (code ">") → t ≡ true → length s < 2 ^ 64 → Fits w64 (n + 1)
closes_fits s n t e f l = omega (arith, there s n (code ">") (omega arith) (eqb-true (get_or s n 0) (code ">") (sym e ∙ f)))

module _ (m j : ℕ) where
  pub bare_long : name_limit < m → Err PastLimit ≡ pick (ltb name_limit m) (Err PastLimit) (Ok (Start j))
  bare_long h = rw (lt-ltb name_limit m h)

  pub bare_short : m ≤ name_limit → Ok (Start j) ≡ pick (ltb name_limit m) (Err PastLimit) (Ok (Start j))
  bare_short h = rw (le-ltb name_limit m h)

bare_answer : (s : List ℕ) (m j : ℕ) → tag_answer s m [] (Ok (Start j)) ≡ pick (ltb name_limit m) (Err PastLimit) (Ok (Start j))
unfolding tag_answer some_attribute
bare_answer s m j = ap (λ t. pick t (Err PastLimit) (Ok (Start j))) (or_false (ltb name_limit m))

-- ---- piece by piece
module _ (s : List ℕ) (at b : ℕ) (eb : b ≡ get_or s at 0) where
  pub no_tag : (b ≡ code "<" → ⊥) → Err Malformed ≡ tag_at s at
  unfolding tag_to
  no_tag f = rw (← eb, ne_eqb b (code "<") f)

  module _ (y : b ≡ code "<") (n : ℕ) (en : n ≡ element_end s (at + 1)) where
    pub no_element : n ≤ at + 1 → Err Malformed ≡ tag_at s at
    unfolding tag_to
    no_element h = rw (← eb, eq-eqb b (code "<") y, ← en, le-ltb (at + 1) n h)

    -- straight behind the name stands '>'
    pub tag_bare : at + 1 < n → (t : Bool) → t ≡ eqb (get_or s n 0) (code ">") → t ≡ true → (r : Result Tag Reason) → r ≡ pick (ltb name_limit (n - (at + 1))) (Err PastLimit) (Ok (Start (n + 1))) → r ≡ tag_at s at
    unfolding tag_to part_to items ending
    tag_bare h t et ft r er =
        let z : get_or s n 0 ≡ code ">" = eqb-true (get_or s n 0) (code ">") (sym et ∙ ft) in
        let within : n < length s = there s n (code ">") (omega arith) z in
        let here : n ≡ space_end s n = run_stops is_space s n n refl (is_space (code ">")) within (ap is_space (sym z)) refl in
        let part : Ended (Ok (Start (n + 1))) ≡ part_at s n = rw (← here, ← et, ft) in
        let row : attributes s n ≡ last (Ok (Start (n + 1))) = attributes_stop s n (Ended (Ok (Start (n + 1)))) part (Ok (Start (n + 1))) refl within in
        er ∙ sym (rw (← eb, eq-eqb b (code "<") y, ← en, lt-ltb (at + 1) n h, row) (bare_answer s (n - (at + 1)) (n + 1)))

    module _ (h : at + 1 < n) (body : Body) (e : body ≡ body_of s 0 false (attributes s n)) where
      tells : body ≡ record { ending = ending (attributes s n); count = 0 + length (items (attributes s n)); over = some_long s (items (attributes s n)) }
      tells = e ∙ brought s 0 false (attributes s n)

      counted : body.count ≡ length (items (attributes s n))
      counted = ap (λ (x : Body). x.count) tells ∙ zero-add (length (items (attributes s n)))

      named : tag_at s at ≡ tag_answer s (n - (at + 1)) (items (attributes s n)) body.ending
      unfolding tag_to
      named = rw (← eb, eq-eqb b (code "<") y, ← en, lt-ltb (at + 1) n h) (ap (tag_answer s (n - (at + 1)) (items (attributes s n))) (sym (ap (λ (x : Body). x.ending) tells)))

      module _ (r : Bool) (er : r ≡ is_err body.ending) where
        pub tag_malformed : r ≡ true → Err Malformed ≡ tag_at s at
        unfolding tag_answer
        tag_malformed f = sym (named ∙ rw (← er, f))

        module _ (f : r ≡ false) (zeros starts : List ℕ) (es : starts ≡ sets zeros 0 (items (attributes s n))) (u : Bool) (eu : u ≡ pick (leb body.count (length starts)) (repeated s (take body.count starts)) (repeated s (items (attributes s n)))) where
          told : u ≡ repeated s (items (attributes s n))
          told = eu ∙ either_way s zeros starts (items (attributes s n)) body.count es counted

          pub tag_repeats : u ≡ true → Err Malformed ≡ tag_at s at
          unfolding tag_answer
          tag_repeats g = sym (named ∙ rw (← er, f, ← told, g))

          module _ (g : u ≡ false) where
            limited : tag_at s at ≡ pick (past_limit s (n - (at + 1)) (items (attributes s n))) (Err PastLimit) body.ending
            unfolding tag_answer
            limited = named ∙ rw (← er, f, ← told, g)

            pub tag_many : attributes_limit < body.count → Err PastLimit ≡ tag_at s at
            tag_many k =
                sym (limited ∙ rw (← counted, lt-ltb attributes_limit body.count k) (rw (or_true (ltb name_limit (n - (at + 1))))))

            module _ (k : body.count ≤ attributes_limit) (o : Bool) (eo : o ≡ body.over or ltb name_limit (n - (at + 1)) or ltb value_limit 0) where
              past : past_limit s (n - (at + 1)) (items (attributes s n)) ≡ o
              past =
                  rw (← counted, le-ltb attributes_limit body.count k)
                  (swapped (ltb name_limit (n - (at + 1))) (some_long s (items (attributes s n)))
                  ∙ sym (eo ∙ ap (λ (x : Body). x.over or ltb name_limit (n - (at + 1)) or false) tells))

              pub tag_over : o ≡ true → Err PastLimit ≡ tag_at s at
              tag_over z = sym (limited ∙ rw (past, z))

              pub tag_whole : o ≡ false → body.ending ≡ tag_at s at
              tag_whole z = sym (limited ∙ rw (past, z))
