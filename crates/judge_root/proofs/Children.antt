-- Procedures 5 to 13: one law for each branch of the code.
-- Assumes nothing.
use Rattle.std.specs.Prelude.{Option, ℕ}
use mathlib.Core.Path.{◌≡◌, refl, sym, ap}
use mathlib.Core.Bool.{Bool, true, false}
use Prim.Native.Nat.{ℕ, ◌+◌}
use native.Mathlib.Omega.{arith}
use borrow.Author.Tests.{eqb-true, eqb-false, eq-eqb, ne_eqb}
use lib.Dec.{eqb}
use lib.ListN.{length}
use Rattle.text_scan.specs.Choice.{not}
use Rattle.judge_paths.specs.Roles.{Root, Id, Code, EffectiveTime, SetId, VersionNumber, Labeler, RequestLabeler}
use Rattle.judge_draft.specs.declared.Demand.TheVariants.{Nothing, CodeRow, NoDocument, NoVersion}
use Rattle.judge_tests.specs.declared.Test.TheVariants.{Any}
use Rattle.judge_draft.specs.Drafts.{Draft, role, is}
use Rattle.judge_below.specs.Chosen.{chosen, wanted, one, the}
use Rattle.judge_header.specs.declared.Header.{Header}
use Rattle.judge_header.specs.declared.Property.{Property}
use Rattle.judge_header.specs.declared.Property.TheVariants.{GuidRoot, OfType, Day, Version}
use Rattle.judge_header.specs.Header.{id_holds, set_holds, has_type, version_holds, has_property}
use Rattle.judge_root.specs.Root.{one_at, one_of_root, breaks5, demand6, breaks7, demand8, breaks9, breaks10, breaks11, demand12, labelers, breaks13}

-- ---- one child of the root with a property
module _ (d : Draft) (found : Option ℕ) (r : ℕ) (p : Property) (n a : ℕ) (e : a ≡ role d n) where
  pub number_wrong : a ≡ Root → (t : Bool) → t ≡ one found → not t ≡ one_of_root d found r (has_property d p) n
  unfolding one_of_root is
  number_wrong f t g = rw (← e, eq-eqb a Root f, g)

  module _ (f : a ≡ Root → ⊥) where
    module _ (g : a ≡ r) (b : Bool) (h : b ≡ one found) where
      pub property_wrong : b ≡ true → (t : Bool) → t ≡ has_property d p n → not t ≡ one_of_root d found r (has_property d p) n
      unfolding one_of_root one_at is
      property_wrong i t j = rw (← e, ne_eqb a Root f, eq-eqb a r g, ← h, i, j)

      pub one_of_many : b ≡ false → false ≡ one_of_root d found r (has_property d p) n
      unfolding one_of_root one_at is
      one_of_many i = rw (← e, ne_eqb a Root f, eq-eqb a r g, ← h, i)

    pub elsewhere : (a ≡ r → ⊥) → false ≡ one_of_root d found r (has_property d p) n
    unfolding one_of_root one_at is
    elsewhere g = rw (← e, ne_eqb a Root f, ne_eqb a r g)

module _ (d : Draft) (h : Header) (n : ℕ) (r : Bool) where
  pub five_is : r ≡ one_of_root d h.id Id (has_property d GuidRoot) n → r ≡ breaks5 d h n
  unfolding breaks5 has_property
  five_is e = e

  pub seven_is : r ≡ one_of_root d h.code Code (has_property d OfType) n → r ≡ breaks7 d h n
  unfolding breaks7 has_property
  seven_is e = e

  pub nine_is : r ≡ one_of_root d h.time EffectiveTime (has_property d Day) n → r ≡ breaks9 d h n
  unfolding breaks9 has_property
  nine_is e = e

  pub ten_is : r ≡ one_of_root d h.set SetId (has_property d GuidRoot) n → r ≡ breaks10 d h n
  unfolding breaks10 has_property
  ten_is e = e

  pub eleven_is : r ≡ one_of_root d h.version VersionNumber (has_property d Version) n → r ≡ breaks11 d h n
  unfolding breaks11 has_property
  eleven_is e = e

-- ---- the labelers
module _ (d : Draft) (n a b : ℕ) (e : a ≡ length (chosen d (wanted RequestLabeler 3 Any) n)) (f : b ≡ length (chosen d (wanted Labeler 3 Any) n)) where
  pub one_registering : a ≡ 0 → eqb b 1 ≡ eqb (labelers d n) 1
  one_registering g = rw (← e, ← f) (ap (λ x. eqb x 1) (let q : b ≡ a + b = omega (arith, g) in q))

  pub one_requesting : a ≡ 1 → eqb b 0 ≡ eqb (labelers d n) 1
  one_requesting g = rw (← e, ← f) (go (eqb b 0) refl)
    where
      go : (t : Bool) → eqb b 0 ≡ t → t ≡ eqb (a + b) 1
      go true h = sym (eq-eqb (a + b) 1 (omega (arith, g, eqb-true b 0 h)))
      go false h = sym (ne_eqb (a + b) 1 (λ q. eqb-false b 0 h (omega (arith, g, q))))

  pub two_requesting : (a ≡ 0 → ⊥) → (a ≡ 1 → ⊥) → false ≡ eqb (labelers d n) 1
  two_requesting g h = rw (← e, ← f) (sym (ne_eqb (a + b) 1 (λ q. omega (arith, g, h))))

module _ (d : Draft) (h : Header) (n : ℕ) where
  -- ---- 13
  module _ (a : Bool) (e : a ≡ is d Root n) where
    pub thirteen_elsewhere : a ≡ false → false ≡ breaks13 d h n
    unfolding breaks13
    thirteen_elsewhere f = rw (← e, f)

    module _ (f : a ≡ true) (b : Bool) (g : b ≡ has_type d h) where
      pub thirteen_untyped : b ≡ false → false ≡ breaks13 d h n
      unfolding breaks13
      thirteen_untyped i = rw (← e, f, ← g, i)

      pub thirteen_labelers : b ≡ true → (r : Bool) → r ≡ eqb (labelers d n) 1 → not r ≡ breaks13 d h n
      unfolding breaks13
      thirteen_labelers i r j = rw (← e, f, ← g, i, j)

  -- ---- 6
  module _ (a : Bool) (e : a ≡ is d Id n) where
    pub six_elsewhere : a ≡ false → Nothing ≡ demand6 d h n
    unfolding demand6
    six_elsewhere f = rw (← e, f)

    module _ (f : a ≡ true) (b : Bool) (g : b ≡ id_holds d h) where
      pub six_asks : b ≡ true → NoDocument n ≡ demand6 d h n
      unfolding demand6
      six_asks i = rw (← e, f, ← g, i)

      pub six_waits : b ≡ false → Nothing ≡ demand6 d h n
      unfolding demand6
      six_waits i = rw (← e, f, ← g, i)

  -- ---- 8
  module _ (a : Bool) (e : a ≡ is d Code n) where
    pub eight_elsewhere : a ≡ false → Nothing ≡ demand8 d h n
    unfolding demand8
    eight_elsewhere f = rw (← e, f)

    module _ (f : a ≡ true) (b : Bool) (g : b ≡ has_type d h) where
      pub eight_asks : b ≡ true → CodeRow n ≡ demand8 d h n
      unfolding demand8
      eight_asks i = rw (← e, f, ← g, i)

      pub eight_waits : b ≡ false → Nothing ≡ demand8 d h n
      unfolding demand8
      eight_waits i = rw (← e, f, ← g, i)

  -- ---- 12
  module _ (a : Bool) (e : a ≡ is d VersionNumber n) where
    pub twelve_elsewhere : a ≡ false → Nothing ≡ demand12 d h n
    unfolding demand12
    twelve_elsewhere f = rw (← e, f)

    module _ (f : a ≡ true) (b : Bool) (g : b ≡ set_holds d h) where
      pub twelve_no_set : b ≡ false → Nothing ≡ demand12 d h n
      unfolding demand12
      twelve_no_set i = rw (← e, f, ← g, i)

      module _ (i : b ≡ true) (c : Bool) (j : c ≡ version_holds d h) where
        pub twelve_no_version : c ≡ false → Nothing ≡ demand12 d h n
        unfolding demand12
        twelve_no_version k = rw (← e, f, ← g, i, ← j, k)

        pub twelve_asks : c ≡ true → (m : ℕ) → m ≡ the h.set → NoVersion m n ≡ demand12 d h n
        unfolding demand12
        twelve_asks k m l = rw (← e, f, ← g, i, ← j, k, l)
