-- Roles without procedures of their own, by the arms of the code; and that nothing but 3 and 4 is asked of them.
-- Assumes nothing.
use mathlib.Core.Path.{◌≡◌, refl, sym, ◌∙◌, ap}
use mathlib.Core.Bool.{Bool, true, false}
use mathlib.Core.List.{List, [], ◌∷◌, ◌++◌}
use Prim.Native.Nat.{ℕ}
use borrow.Author.Tests.{eq-eqb, ne_eqb, eqb-true}
use lib.Dec.{eqb}
use Rattle.text_scan.specs.Choice.{◌or◌}
use Rattle.text_scan.proofs.Tests.{never, or_false}
use Rattle.judge_paths.specs.Roles.{Id, Code, Title, Br, Author, Component, StructuredBody, Time, OrganisationId, ContactPerson, PersonName, StreetAddressLine, City, State, PostalCode, Country, Performance, ActDefinition, OperationCode}
use Rattle.judge_paths.specs.Attributes.{is_role}
use Rattle.judge_procedures.specs.Procedures.{with_number, found_at, asked_from, asked_at}
use Rattle.judge_asked.specs.Asked.{plain_roles}

module _ (q : ℕ) where
  -- ---- one of five
  module _ (a b c d e : ℕ) where
    abbrev five : List ℕ
    five = a ∷ b ∷ c ∷ d ∷ e ∷ []

    pub first_of : q ≡ a → true ≡ is_role q five
    first_of x = rw (eq-eqb q a x)

    module _ (f : q ≡ a → ⊥) where
      pub second_of : q ≡ b → true ≡ is_role q five
      second_of x = rw (ne_eqb q a f, eq-eqb q b x)

      module _ (g : q ≡ b → ⊥) where
        pub third_of : q ≡ c → true ≡ is_role q five
        third_of x = rw (ne_eqb q a f, ne_eqb q b g, eq-eqb q c x)

        module _ (h : q ≡ c → ⊥) where
          pub fourth_of : q ≡ d → true ≡ is_role q five
          fourth_of x = rw (ne_eqb q a f, ne_eqb q b g, ne_eqb q c h, eq-eqb q d x)

          pub fifth_of : (q ≡ d → ⊥) → eqb q e ≡ is_role q five
          fifth_of i = rw (ne_eqb q a f, ne_eqb q b g, ne_eqb q c h, ne_eqb q d i) (sym (or_false (eqb q e)))

  role_append : (xs ys : List ℕ) → is_role q (xs ++ ys) ≡ is_role q xs or is_role q ys
  role_append [] ys = refl
  role_append (a ∷ xs) ys = rw (role_append xs ys) (or_assoc (eqb q a) (is_role q xs) (is_role q ys))
    where
      or_assoc : (x y z : Bool) → x or (y or z) ≡ (x or y) or z
      or_assoc true y z = refl
      or_assoc false y z = refl

  -- ---- one of three times five
  abbrev upper : List ℕ
  upper = StreetAddressLine ∷ City ∷ State ∷ PostalCode ∷ Country ∷ []

  abbrev middle : List ℕ
  middle = ContactPerson ∷ PersonName ∷ Performance ∷ ActDefinition ∷ Title ∷ []

  abbrev lower : List ℕ
  lower = Br ∷ Author ∷ Component ∷ StructuredBody ∷ Time ∷ []

  by_fives : is_role q plain_roles ≡ is_role q upper or (is_role q middle or is_role q lower)
  by_fives = role_append upper (middle ++ lower) ∙ ap (λ (x : Bool). is_role q upper or x) (role_append middle lower)

  module _ (a : Bool) (e : a ≡ is_role q upper) where
    pub plain_upper : a ≡ true → true ≡ is_role q plain_roles
    plain_upper f = sym (by_fives ∙ rw (← e, f))

    module _ (f : a ≡ false) (b : Bool) (g : b ≡ is_role q middle) where
      pub plain_middle : b ≡ true → true ≡ is_role q plain_roles
      plain_middle h = sym (by_fives ∙ rw (← e, f, ← g, h))

      pub plain_lower : b ≡ false → (r : Bool) → r ≡ is_role q lower → r ≡ is_role q plain_roles
      plain_lower h r i = i ∙ sym (by_fives ∙ rw (← e, f, ← g, h))

-- ---- what is true of each is true of one of them
abbrev Each : (ℕ → Type 0) → List ℕ → Type 0
Each p [] = Unit {0}
Each p (a ∷ xs) = p a × Each p xs

each_is : (p : ℕ → Type 0) (q : ℕ) (xs : List ℕ) → Each p xs → is_role q xs ≡ true → p q
each_is p q [] e h = never (sym h)
each_is p q (a ∷ xs) e h = go (eqb q a) refl h (each_is p q xs e.1)
  where
    go : (t : Bool) → eqb q a ≡ t → t or is_role q xs ≡ true → (is_role q xs ≡ true → p q) → p q
    go true u h f = rw (eqb-true q a u) e.0
    go false u h f = f h

module _ (q : ℕ) (h : is_role q plain_roles ≡ true) where
  pub plain_asked : asked_at q ≡ 3 ∷ 4 ∷ []
  unfolding asked_at asked_from found_at with_number
  plain_asked =
      each_is (λ r. asked_at r ≡ 3 ∷ 4 ∷ []) q plain_roles
      (refl, (refl, (refl, (refl, (refl, (refl, (refl, (refl, (refl, (refl, (refl, (refl, (refl, (refl, (refl, tt)))))))))))))))
      h

  -- and they list no code and no extension
  pub plain_lists : (is_role q (Id ∷ OrganisationId ∷ []) ≡ false) × (is_role q (Code ∷ OperationCode ∷ []) ≡ false)
  plain_lists =
      each_is (λ r. (is_role r (Id ∷ OrganisationId ∷ []) ≡ false) × (is_role r (Code ∷ OperationCode ∷ []) ≡ false)) q plain_roles
      ((refl, refl), ((refl, refl), ((refl, refl), ((refl, refl), ((refl, refl), ((refl, refl), ((refl, refl), ((refl, refl), ((refl, refl), ((refl, refl), ((refl, refl), ((refl, refl), ((refl, refl), ((refl, refl), ((refl, refl), tt)))))))))))))))
      h
