-- A processing instruction, by the pieces that the code finds in a row; and where it ends, for callers.
-- Assumes nothing.
use Rattle.std.specs.Prelude.{Option, None, Some, ℕ, Result, Ok, Err}
use Rattle.refusals.specs.declared.Reason.TheVariants.{Malformed, PastLimit}
use Rattle.refusals.specs.declared.Reason.{Reason}
use mathlib.Core.Path.{◌≡◌, refl, sym, ◌∙◌, ap, subst}
use mathlib.Core.Bool.{Bool, true, false}
use mathlib.Core.List.{List}
use Prim.Native.Nat.{ℕ, ◌+◌, ◌-◌, ◌<◌, ◌≤◌, ◌^◌}
use Prim.Native.Char.{code}
use native.Mathlib.Omega.{arith}
use borrow.Author.Tests.{eq-eqb, ne_eqb, eqb-true, lt-ltb, le-ltb, le-leb, lt-leb}
use lib.Dec.{eqb, leb}
use lib.ListN.{length, get_or, get_or-eq_default, drop_of_length-le}
use mir.Val.{Fits}
use mir.Syntax.{w64}
use Rattle.text_scan.specs.Choice.{◌and◌, ◌or◌, not}
use Rattle.text_scan.specs.Bytes.{text}
use Rattle.text_scan.specs.Lists.{stands, begins}
use Rattle.text_scan.specs.Walk.{from}
use Rattle.text_scan.proofs.Tests.{pick_case, and_false, and_right}
use Rattle.text_scan.proofs.Within.{there}
use Rattle.text_scan.proofs.Lists.{text_fits}
use Rattle.text_scan.proofs.Ending.{Within, DoneWithin}
use Rattle.text_scan.proofs.Walk as walks
use Rattle.text_scan.proofs.Walk.{further}
use Rattle.xml_names.proofs.Names.{name_least}
use Rattle.xml_markup.specs.AnyCase.{stands_any_case}
use Rattle.xml_names.specs.Names.{is_space, name_end}
use Rattle.xml_markup.specs.Instructions.{is_target, close_step, close_end, data_end, limited, instruction_to, instruction_end}

-- ---- a target
module _ (s : List ℕ) (i n : ℕ) where
  pub target_empty : n ≤ i → false ≡ is_target s i n
  target_empty h = rw (le-ltb i n h)

  module _ (h : i < n) where
    pub target_other : (n - i ≡ 3 → ⊥) → true ≡ is_target s i n
    target_other f = rw (lt-ltb i n h, ne_eqb n (i + 3) (λ e. f (omega arith)))

    module _ (e : n - i ≡ 3) (t : Bool) (et : t ≡ stands_any_case (text "xml") s i) where
      same : not t ≡ is_target s i n
      same = rw (lt-ltb i n h, eq-eqb n (i + 3) (omega arith), ← et)

      pub target_xml : t ≡ true → false ≡ is_target s i n
      target_xml f = sym (ap not f) ∙ same

      pub target_named : t ≡ false → true ≡ is_target s i n
      target_named f = sym (ap not f) ∙ same

-- ---- the first "?>"
abbrev pub InData : List ℕ → ℕ → ℕ → Type 0
InData s at i = close_end s at ≡ from (close_step s) None (length s) i

module _ (s : List ℕ) (at : ℕ) where
  pub close_starts : InData s at at
  unfolding close_end
  close_starts = refl

  module _ (i : ℕ) (l : InData s at i) where
    pub close_unfinished : length s ≤ i → None ≡ close_end s at
    close_unfinished h = sym (l ∙ walks.ends (close_step s) None (length s) i h)

    module _ (h : i < length s) where
      pub close_other : (get_or s i 0 ≡ code "?" → ⊥) → InData s at (i + 1)
      unfolding close_step
      close_other a = l ∙ further (close_step s) None (length s) i h (rw (ne_eqb (get_or s i 0) (code "?") a))

      module _ (b : ℕ) (eb : b ≡ get_or s (i + 1) 0) (a : get_or s i 0 ≡ code "?") where
        pub close_mark : (b ≡ code ">" → ⊥) → InData s at (i + 1)
        unfolding close_step
        close_mark x =
            l ∙ further (close_step s) None (length s) i h (rw (← eb, ne_eqb b (code ">") x) (rw (and_false (eqb (get_or s i 0) (code "?")))))

        pub close_found : b ≡ code ">" → Some (i + 2) ≡ close_end s at
        unfolding close_step
        close_found x =
            sym (l ∙ walks.stops (close_step s) None (length s) i (Some (i + 2)) h (rw (← eb, eq-eqb (get_or s i 0) (code "?") a, eq-eqb b (code ">") x)))

-- ---- behind the target
module _ (s : List ℕ) (n : ℕ) where
  pub data_none : length s ≤ n → None ≡ data_end s n
  unfolding data_end begins
  data_none h = rw (get_or-eq_default s 0 h, drop_of_length-le s h)

  module _ (t : Bool) (et : t ≡ is_space (get_or s n 0)) where
    pub data_space : (r : Option ℕ) → t ≡ true → r ≡ close_end s n → r ≡ data_end s n
    unfolding data_end
    data_space r f g = rw (← et, f) g

    module _ (f : t ≡ false) (u : Bool) (eu : u ≡ stands (text "?>") s n) where
      pub data_at_once : (r : Option ℕ) → u ≡ true → r ≡ close_end s n → r ≡ data_end s n
      unfolding data_end
      data_at_once r y g = rw (← et, f, ← eu, y) g

      pub data_malformed : u ≡ false → None ≡ data_end s n
      unfolding data_end
      data_malformed y = rw (← et, f, ← eu, y)

-- ---- the whole
module _ (s : List ℕ) (at : ℕ) (o : Bool) (eo : o ≡ stands (text "<?") s at) where
  pub no_instruction : o ≡ false → Err Malformed ≡ instruction_end s at
  unfolding instruction_to
  no_instruction f = rw (← eo, f)

  module _ (y : o ≡ true) where
    pub opened_fits : length s < 2 ^ 64 → Fits w64 (at + 2)
    opened_fits l = omega (arith, text_fits (text "<?") s at (omega arith) (sym eo ∙ y))

    module _ (n : ℕ) (en : n ≡ name_end s (at + 2)) where
      pub target_room : at + 2 ≤ n
      target_room = rw en (name_least s (at + 2))

      module _ (t : Bool) (et : t ≡ is_target s (at + 2) n) where
        pub no_target : t ≡ false → Err Malformed ≡ instruction_end s at
        unfolding instruction_to
        no_target f = rw (← eo, y, ← en, ← et, f)

        module _ (f : t ≡ true) (x : Option ℕ) (ex : x ≡ data_end s n) where
          named : instruction_end s at ≡ limited (leb (n - (at + 2)) 64) x
          unfolding instruction_to
          named = rw (← eo, y, ← en, ← et, f, ← ex)

          pub no_end : x ≡ None → Err Malformed ≡ instruction_end s at
          no_end z = sym (named ∙ rw z)

          module _ (j : ℕ) (z : x ≡ Some j) where
            pub name_over : 64 < n - (at + 2) → Err PastLimit ≡ instruction_end s at
            name_over h = sym (named ∙ rw (z, lt-leb (n - (at + 2)) 64 h))

            pub instruction_whole : n - (at + 2) ≤ 64 → Ok j ≡ instruction_end s at
            instruction_whole h = sym (named ∙ rw (z, le-leb (n - (at + 2)) 64 h))

-- ---- bounds
abbrev pub ScannedWithin : ℕ → ℕ → Result ℕ Reason → Type 0
ScannedWithin at n (Ok j) = (at < j) × (j ≤ n)
ScannedWithin at n (Err k) = Unit {0}

limited_within : (at n : ℕ) (small : Bool) (x : Option ℕ) → Within at n x → ScannedWithin at n (limited small x)
limited_within at n true (Some j) w = w
limited_within at n false (Some j) w = tt
limited_within at n small None w = tt

module _ (s : List ℕ) (at : ℕ) where
  step_within : (i : ℕ) → at ≤ i → DoneWithin at (length s) (close_step s i)
  unfolding close_step
  step_within i h =
      pick_case (DoneWithin at (length s)) (eqb (get_or s i 0) 63 and eqb (get_or s (i + 1) 0) 62) _ _
      (λ e. omega (arith, there s (i + 1) 62 (omega arith) (eqb-true (get_or s (i + 1) 0) 62 (and_right (eqb (get_or s i 0) 63) (eqb (get_or s (i + 1) 0) 62) e))))
      (λ _. tt)

  pub close_within : (n : ℕ) → at ≤ n → Within at (length s) (close_end s n)
  unfolding close_end
  close_within n h =
      walks.keeps (close_step s) None (Within at (length s)) at (length s) (λ i r h g e. subst (DoneWithin at (length s)) e (step_within i h)) tt n h

  pub data_within : (n : ℕ) → at ≤ n → Within at (length s) (data_end s n)
  unfolding data_end
  data_within n h = pick_case (Within at (length s)) (is_space (get_or s n 0) or stands (text "?>") s n) _ _ (λ _. close_within n h) (λ _. tt)

  pub instruction_within : ScannedWithin at (length s) (instruction_end s at)
  unfolding instruction_to
  instruction_within =
      let n : ℕ = name_end s (at + 2) in
      pick_case (ScannedWithin at (length s)) (stands (text "<?") s at and is_target s (at + 2) n) _ _
      (λ _. limited_within at (length s) (leb (n - (at + 2)) 64) (data_end s n) (data_within n (omega (arith, name_least s (at + 2)))))
      (λ _. tt)
