-- Addresses, 24 and 25: one law for each branch of the code.
-- Assumes nothing.
use Rattle.std.specs.Prelude.{Option, None, Some, ℕ}
use mathlib.Core.Path.{◌≡◌, ◌∙◌, ap}
use mathlib.Core.Bool.{Bool, true, false}
use mathlib.Core.Logic.{◌⊎◌, inl, inr}
use Prim.Native.Nat.{ℕ}
use borrow.Author.Tests.{ne_eqb}
use Rattle.text_scan.specs.Choice.{◌and◌, not}
use Rattle.text_scan.proofs.Tests.{and_true, and_false}
use Rattle.text_scan.specs.Bytes.{text}
use Rattle.text_facts.specs.Strings.{equal}
use Rattle.judge_paths.specs.Roles.{Establishment, ContactParty, Addr, StreetAddressLine, City, State, PostalCode, Country}
use Rattle.judge_tests.specs.declared.Test.TheVariants.{Any, Empty}
use Rattle.judge_draft.specs.Drafts.{Draft, role, parent, is, said, is_empty}
use Rattle.judge_below.specs.Chosen.{chosen, wanted, is_the, only_kid}
use Rattle.judge_below.proofs.TheOne.{the_has}
use Rattle.judge_organisations.specs.Organisations.{is_said}
use Rattle.judge_addresses.specs.Addresses.{one_said, lines_said, is_address, address_holds, breaks24, is_usa, breaks25}

-- ---- one child of a role that says something
module _ (d : Draft) (n : ℕ) (r : ℕ) (x : Option ℕ) (e : x ≡ only_kid d n r) where
  pub said_none : x ≡ None → false ≡ one_said d n r
  unfolding one_said
  said_none f = rw (← e, f)

  pub said_one : (k : ℕ) → x ≡ Some k → (b : Bool) → b ≡ is_said d k → b ≡ one_said d n r
  unfolding one_said
  said_one k f b g = g ∙ rw (← e, f)

-- ---- the lines of an address
module _ (d : Draft) (n : ℕ) (a : Bool) (e : a ≡ is_empty (chosen d (wanted StreetAddressLine 1 Any) n)) where
  pub lines_none : a ≡ true → false ≡ lines_said d n
  unfolding lines_said
  lines_none f = rw (← e, f)

  pub lines_some : a ≡ false → (r : Bool) → r ≡ is_empty (chosen d (wanted StreetAddressLine 1 Empty) n) → r ≡ lines_said d n
  unfolding lines_said
  lines_some f r g = g ∙ rw (← e, f)

-- ---- the parts of an address
module _ (d : Draft) (n : ℕ) (a : Bool) (e : a ≡ one_said d n City) where
  pub address_city : a ≡ false → false ≡ is_address d n
  unfolding is_address
  address_city f = rw (← e, f)

  module _ (f : a ≡ true) (b : Bool) (g : b ≡ one_said d n Country) where
    pub address_country : b ≡ false → false ≡ is_address d n
    unfolding is_address
    address_country h = rw (← e, f, ← g, h)

    pub address_lines : b ≡ true → (r : Bool) → r ≡ lines_said d n → r ≡ is_address d n
    unfolding is_address
    address_lines h r i = i ∙ rw (← e, f, ← g, h)

-- ---- the address of a holder
module _ (d : Draft) (n : ℕ) (x : Option ℕ) (e : x ≡ only_kid d n Addr) where
  pub address_none : x ≡ None → false ≡ address_holds d n
  unfolding address_holds
  address_none f = rw (← e, f)

  pub address_one : (k : ℕ) → x ≡ Some k → (b : Bool) → b ≡ is_address d k → b ≡ address_holds d n
  unfolding address_holds
  address_one k f b g = g ∙ rw (← e, f)

-- ---- 24
module _ (d : Draft) (n q : ℕ) (e : q ≡ role d n) where
  pub holder_24 : (q ≡ Establishment) ⊎ (q ≡ ContactParty) → (r : Bool) → r ≡ address_holds d n → not r ≡ breaks24 d n
  unfolding breaks24 is
  holder_24 (inl f) r g = rw (← e, f, ← g)
  holder_24 (inr f) r g = rw (← e, f, ← g)

  pub other_24 : ((q ≡ Establishment) ⊎ (q ≡ ContactParty) → ⊥) → false ≡ breaks24 d n
  unfolding breaks24 is
  other_24 h = rw (← e, ne_eqb q Establishment (λ f. h (inl f)), ne_eqb q ContactParty (λ f. h (inr f)))

-- ---- the country of an address
module _ (d : Draft) (n : ℕ) (x : Option ℕ) (e : x ≡ only_kid d n Country) where
  pub usa_none : x ≡ None → false ≡ is_usa d n
  unfolding is_usa
  usa_none f = rw (← e, f)

  pub usa_one : (k : ℕ) → x ≡ Some k → (b : Bool) → b ≡ equal (said d k) (text "USA") → b ≡ is_usa d n
  unfolding is_usa
  usa_one k f b g = g ∙ rw (← e, f)

-- ---- 25
module _ (d : Draft) (n : ℕ) (a : Bool) (e : a ≡ one_said d n State) where
  pub state_missing : a ≡ false → false ≡ (one_said d n State and one_said d n PostalCode)
  state_missing f = rw (← e, f)

  pub state_said : a ≡ true → (r : Bool) → r ≡ one_said d n PostalCode → r ≡ (one_said d n State and one_said d n PostalCode)
  state_said f r g = g ∙ rw (← e, f)

-- a premise and that n is the one, asked last
pub asked_last : (h t i w : Bool) → (h and t) ≡ i → (h and t and w) ≡ (w and i)
asked_last h t i true e = ap (λ u. h and u) (and_true t) ∙ e
asked_last h t i false e = ap (λ u. h and u) (and_false t) ∙ and_false h

-- 24 holds and n is the one addr: n is the one, and has what 24 demands of it
in_order_25 : (d : Draft) (n : ℕ) → breaks25 d n ≡ (is d Addr n and (is_usa d n and not (one_said d n State and one_said d n PostalCode)) and is_the (only_kid d (parent d n) Addr) n and is_address d n)
unfolding breaks25 address_holds
in_order_25 d n =
    let x : Option ℕ = only_kid d (parent d n) Addr in
    ap (λ u. is d Addr n and u)
    (asked_last (address_holds d (parent d n)) (is_the x n) (is_the x n and is_address d n) (is_usa d n and not (one_said d n State and one_said d n PostalCode)) (the_has x n (is_address d)))

module _ (d : Draft) (n : ℕ) (a : Bool) (e : a ≡ is d Addr n) where
  pub other_25 : a ≡ false → false ≡ breaks25 d n
  unfolding breaks25
  other_25 f = rw (← e, f)

  module _ (f : a ≡ true) (b : Bool) (g : b ≡ is_usa d n) where
    pub abroad_25 : b ≡ false → false ≡ breaks25 d n
    abroad_25 h = rw (in_order_25 d n, ← e, f, ← g, h)

    module _ (h : b ≡ true) (s : Bool) (i : s ≡ (one_said d n State and one_said d n PostalCode)) where
      pub state_25 : s ≡ true → false ≡ breaks25 d n
      state_25 j = rw (in_order_25 d n, ← e, f, ← g, h, ← i, j)

      module _ (j : s ≡ false) (p : ℕ) (q : p ≡ parent d n) (c : Bool) (k : c ≡ is_the (only_kid d p Addr) n) where
        pub another_25 : c ≡ false → false ≡ breaks25 d n
        another_25 l = rw (in_order_25 d n, ← e, f, ← g, h, ← i, j, ← q, ← k, l)

        pub address_25 : c ≡ true → (r : Bool) → r ≡ is_address d n → r ≡ breaks25 d n
        address_25 l r m = m ∙ rw (in_order_25 d n, ← e, f, ← g, h, ← i, j, ← q, ← k, l)
