-- The XML declaration, by the pieces that the code finds in a row; and where it ends, for callers.
-- Assumes nothing.
use Rattle.std.specs.Prelude.{Option, None, Some, ℕ}
use mathlib.Core.Path.{◌≡◌, sym, ◌∙◌}
use mathlib.Core.Bool.{Bool, true, false}
use mathlib.Core.List.{List}
use Prim.Native.Nat.{ℕ, ◌+◌, ◌-◌, ◌*◌, ◌<◌, ◌≤◌, ◌^◌}
use native.Mathlib.Omega.{arith}
use borrow.Author.Tests.{eq-eqb, ne_eqb, lt-ltb, le-ltb}
use lib.Dec.{ltb}
use lib.ListN.{length, get_or, get_or-eq_default}
use mir.Val.{Fits}
use mir.Syntax.{w64}
use Rattle.text_scan.specs.Choice.{pick}
use Rattle.text_scan.specs.Bytes.{text}
use Rattle.text_scan.specs.Lists.{stands}
use Rattle.text_scan.proofs.Tests.{pick_case, and_false, and_true}
use Rattle.text_scan.proofs.Within.{inside}
use Rattle.text_scan.proofs.Lists.{text_fits}
use Rattle.text_scan.proofs.Ending.{Within}
use Rattle.xml_names.proofs.Names.{space_least}
use Rattle.xml_markup.proofs.AnyCase.{any_fits}
use Rattle.xml_names.proofs.Values.{value_within}
use Rattle.xml_markup.specs.AnyCase.{stands_any_case}
use Rattle.xml_names.specs.Names.{is_space, space_end}
use Rattle.xml_names.specs.Values.{value_start}
use Rattle.xml_declaration.specs.Declaration.{is_declaration, stands_in, valued, setting_end, version_end, encoding_end, standalone_end, closing_end, versioned, declaration_end}

-- ---- a text as it is, or in any case
module _ (t s : List ℕ) (at : ℕ) (any r : Bool) where
  pub in_any_case : any ≡ true → r ≡ stands_any_case t s at → r ≡ stands_in any t s at
  in_any_case f e = rw f e

  pub in_its_case : any ≡ false → r ≡ stands t s at → r ≡ stands_in any t s at
  in_its_case f e = rw f e

-- it ends within
stands_fits : (any : Bool) (t s : List ℕ) (v : ℕ) → v ≤ length s → stands_in any t s v ≡ true → v + length t ≤ length s
stands_fits true t s v h e = inside (length t) 0 (λ p. any_fits t s v p e) (λ p. omega arith)
stands_fits false t s v h e = inside (length t) 0 (λ p. text_fits t s v p e) (λ p. omega arith)

-- ---- a setting: nothing wraps
pub name_fits : (name s : List ℕ) (n : ℕ) (t : Bool) → t ≡ stands name s n → t ≡ true → Fits w64 n → length s < 2 ^ 64 → Fits w64 (n + length name)
name_fits name s n t e f k l = inside (length name) 0 (λ p. omega (arith, text_fits name s n p (sym e ∙ f))) (λ p. omega arith)

module _ (s : List ℕ) (m : ℕ) (x : Option ℕ) (ex : x ≡ value_start s m) (v : ℕ) (z : x ≡ Some v) where
  bounds : Within m (length s) (Some v)
  bounds = rw z at (rw (← ex) at (value_within s m))

  pub value_behind : 1 ≤ v
  value_behind = omega (arith, bounds)

  module _ (any : Bool) (value : List ℕ) (u : Bool) (eu : u ≡ stands_in any value s v) (g : u ≡ true) (k : length s * 1 < 2 ^ 63) where
    pub quote_fits : Fits w64 (v + length value + 1)
    quote_fits = omega (arith, stands_fits any value s v bounds.1 (sym eu ∙ g))

    pub value_fits : Fits w64 (v + length value)
    value_fits = omega (arith, quote_fits)

-- ---- a setting, piece by piece
module _ (s : List ℕ) (at n : ℕ) (en : n ≡ space_end s at) (any : Bool) (name value : List ℕ) where
  pub no_space : n ≡ at → at ≡ setting_end any name value s at
  unfolding setting_end
  no_space h = rw (← en, le-ltb at n (omega arith))

  module _ (h : n ≡ at → ⊥) (t : Bool) (et : t ≡ stands name s n) where
    behind : at < n
    behind = omega (arith, space_least s at)

    pub other_name : t ≡ false → at ≡ setting_end any name value s at
    unfolding setting_end
    other_name f = rw (← en, ← et, f) (rw (and_false (ltb at n)))

    module _ (f : t ≡ true) (x : Option ℕ) (ex : x ≡ value_start s (n + length name)) where
      named : setting_end any name value s at ≡ valued any value s at x
      unfolding setting_end
      named = rw (← en, lt-ltb at n behind, ← et, f, ← ex)

      pub no_value : x ≡ None → at ≡ setting_end any name value s at
      unfolding valued
      no_value z = sym (named ∙ rw z)

      module _ (v : ℕ) (z : x ≡ Some v) where
        module _ (u : Bool) (eu : u ≡ stands_in any value s v) where
          pub other_value : u ≡ false → at ≡ setting_end any name value s at
          unfolding valued
          other_value g = sym (named ∙ rw (z, ← eu, g))

          module _ (g : u ≡ true) (b : ℕ) (eb : b ≡ get_or s (v + length value) 0) (c : ℕ) (ec : c ≡ get_or s (v - 1) 0) where
            pub other_quote : (b ≡ c → ⊥) → at ≡ setting_end any name value s at
            unfolding valued
            other_quote q = sym (named ∙ rw (z, ← eu, g, ← eb, ← ec, ne_eqb b c q))

            pub setting_whole : b ≡ c → v + length value + 1 ≡ setting_end any name value s at
            unfolding valued
            setting_whole q = sym (named ∙ rw (z, ← eu, g, ← eb, ← ec, eq-eqb b c q))

-- ---- standalone, by the answers for its two values
module _ (s : List ℕ) (at y : ℕ) (ey : y ≡ setting_end false (text "standalone") (text "yes") s at) where
  pub standalone_yes : at < y → y ≡ standalone_end s at
  unfolding standalone_end
  standalone_yes h = rw (← ey, lt-ltb at y h)

  pub standalone_no : y ≤ at → (r : ℕ) → r ≡ setting_end false (text "standalone") (text "no") s at → r ≡ standalone_end s at
  unfolding standalone_end
  standalone_no h r e = rw (← ey, le-ltb at y h) e

-- ---- the document's first bytes
module _ (s : List ℕ) where
  pub declaration_short : length s < 6 → false ≡ is_declaration s
  unfolding is_declaration
  declaration_short h =
      let g : length s ≤ 5 = omega arith in
      rw (get_or-eq_default s 0 g) (sym (and_false (stands (text "<?xml") s 0)))

  module _ (t : Bool) (et : t ≡ is_space (get_or s 5 0)) where
    pub declaration_other : t ≡ false → false ≡ is_declaration s
    unfolding is_declaration
    declaration_other f = rw (← et, f) (sym (and_false (stands (text "<?xml") s 0)))

    pub declaration_begins : t ≡ true → (r : Bool) → r ≡ stands (text "<?xml") s 0 → r ≡ is_declaration s
    unfolding is_declaration
    declaration_begins f r e = rw (← et, f) (e ∙ sym (and_true (stands (text "<?xml") s 0)))

-- ---- the whole
module _ (s : List ℕ) (o : Bool) (eo : o ≡ stands (text "<?xml") s 0) where
  pub no_declaration : o ≡ false → None ≡ declaration_end s
  unfolding declaration_end
  no_declaration f = rw (← eo, f)

  module _ (y : o ≡ true) (v : ℕ) (ev : v ≡ version_end s 5) where
    opens : declaration_end s ≡ versioned s v
    unfolding declaration_end
    opens = rw (← eo, y, ← ev)

    pub no_version : v ≤ 5 → None ≡ declaration_end s
    unfolding versioned
    no_version h = sym (opens ∙ rw (le-ltb 5 v h))

    module _ (h : 5 < v) (e : ℕ) (ee : e ≡ encoding_end s v) (a : ℕ) (ea : a ≡ standalone_end s e) (q : ℕ) (eq : q ≡ space_end s a) (t : Bool) (et : t ≡ stands (text "?>") s q) where
      at_close : declaration_end s ≡ pick t (Some (q + 2)) None
      unfolding versioned closing_end
      at_close = opens ∙ rw (lt-ltb 5 v h, ← ee, ← ea, ← eq, ← et)

      pub no_close : t ≡ false → None ≡ declaration_end s
      no_close f = sym (at_close ∙ rw f)

      pub declaration_whole : t ≡ true → Some (q + 2) ≡ declaration_end s
      declaration_whole f = sym (at_close ∙ rw f)

pub close_fits : (s : List ℕ) (q : ℕ) (t : Bool) → t ≡ stands (text "?>") s q → t ≡ true → length s < 2 ^ 64 → Fits w64 (q + 2)
close_fits s q t e f l = omega (arith, text_fits (text "?>") s q (omega arith) (sym e ∙ f))

-- ---- bounds
closed_within : (s : List ℕ) (q : ℕ) → Within 0 (length s) (closing_end s q)
unfolding closing_end
closed_within s q =
    pick_case (Within 0 (length s)) (stands (text "?>") s q) _ _ (λ e. omega (arith, text_fits (text "?>") s q (omega arith) e)) (λ _. tt)

versioned_within : (s : List ℕ) (v : ℕ) → Within 0 (length s) (versioned s v)
unfolding versioned
versioned_within s v =
    pick_case (Within 0 (length s)) (ltb 5 v) _ _ (λ _. closed_within s (space_end s (standalone_end s (encoding_end s v)))) (λ _. tt)

pub declaration_within : (s : List ℕ) → Within 0 (length s) (declaration_end s)
unfolding declaration_end
declaration_within s =
    pick_case (Within 0 (length s)) (stands (text "<?xml") s 0) _ _ (λ _. versioned_within s (version_end s 5)) (λ _. tt)
