-- The start of a value, by the pieces that the code finds in a row; and where it is, for callers.
-- Assumes nothing.
use Rattle.std.specs.Prelude.{None, Some}
use mathlib.Core.Path.{◌≡◌, refl, sym, ◌∙◌, ap}
use mathlib.Core.Bool.{false}
use mathlib.Core.List.{List}
use Prim.Native.Nat.{ℕ, ◌+◌, ◌<◌, ◌≤◌, ◌^◌}
use Prim.Native.Char.{code}
use native.Mathlib.Omega.{arith}
use borrow.Author.Tests.{eq-eqb, ne_eqb}
use lib.Dec.{eqb}
use lib.ListN.{length, get_or}
use mir.Val.{Fits}
use mir.Syntax.{w64}
use Rattle.text_scan.proofs.Tests.{pick_case, or_true}
use Rattle.text_scan.proofs.Lists.{run_stops}
use Rattle.text_scan.proofs.Within.{holds_there, there}
use Rattle.text_scan.proofs.Ending.{Within}
use Rattle.xml_names.proofs.Names.{space_least}
use Rattle.xml_names.specs.Names.{is_space, space_end}
use Rattle.xml_names.specs.Values.{is_quote, opened, equals_at, value_start}

module _ (s : List ℕ) (n e : ℕ) (ee : e ≡ space_end s n) (b : ℕ) (eb : b ≡ get_or s e 0) where
  pub no_equals : (b ≡ code "=" → ⊥) → None ≡ value_start s n
  unfolding equals_at
  no_equals f = rw (← ee, ← eb, ne_eqb b (code "=") f)

  module _ (y : b ≡ code "=") (q : ℕ) (eq : q ≡ space_end s (e + 1)) (c : ℕ) (ec : c ≡ get_or s q 0) where
    at_quote : value_start s n ≡ opened s q
    unfolding equals_at
    at_quote = rw (← ee, ← eb, eq-eqb b (code "=") y, ← eq)

    pub quote_double : c ≡ code "\"" → Some (q + 1) ≡ value_start s n
    unfolding opened
    quote_double f = sym (at_quote ∙ rw (← ec, eq-eqb c (code "\"") f))

    module _ (f : c ≡ code "\"" → ⊥) where
      pub quote_single : c ≡ code "'" → Some (q + 1) ≡ value_start s n
      unfolding opened
      quote_single g = sym (at_quote ∙ rw (← ec, eq-eqb c (code "'") g) (rw (or_true (eqb c (code "\"")))))

      pub no_quote : (c ≡ code "'" → ⊥) → None ≡ value_start s n
      unfolding opened
      no_quote g = sym (at_quote ∙ rw (← ec, ne_eqb c (code "\"") f, ne_eqb c (code "'") g))

-- straight behind the name, with no white space
no_space : (s : List ℕ) (n b : ℕ) → b ≡ get_or s n 0 → 0 < b → is_space b ≡ false → n ≡ space_end s n
no_space s n b e h f = run_stops is_space s n n refl (is_space b) (there s n b h (sym e)) (ap is_space e) f

pub straight : (s : List ℕ) (n b : ℕ) → b ≡ get_or s n 0 → b ≡ code "=" → (c : ℕ) → c ≡ get_or s (n + 1) 0 → c ≡ code "\"" → Some (n + 2) ≡ value_start s n
straight s n b eb y c ec f =
    let a : n + 1 + 1 ≡ n + 2 = omega arith in
    rw a at (quote_double s n n (no_space s n b eb (omega arith) (rw y)) b eb y (n + 1) (no_space s (n + 1) c ec (omega arith) (rw f)) c ec f)

pub second_fits : (s : List ℕ) (n c b : ℕ) → c ≡ get_or s (n + 1) 0 → c ≡ b → 0 < b → length s < 2 ^ 64 → Fits w64 (n + 2)
second_fits s n c b e f h l = omega (arith, there s (n + 1) b h (sym e ∙ f))

-- ---- bounds
module _ (s : List ℕ) (at : ℕ) where
  opened_within : (q : ℕ) → at ≤ q → Within at (length s) (opened s q)
  unfolding opened
  opened_within q h = pick_case (Within at (length s)) (is_quote (get_or s q 0)) _ _ (λ e. omega (arith, holds_there is_quote refl s q e)) (λ _. tt)

  pub value_within : Within at (length s) (value_start s at)
  unfolding equals_at
  value_within =
      let e : ℕ = space_end s at in
      pick_case (Within at (length s)) (eqb (get_or s e 0) (code "=")) _ _
      (λ _. opened_within (space_end s (e + 1)) (omega (arith, space_least s at, space_least s (e + 1))))
      (λ _. tt)
