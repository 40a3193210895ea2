-- The reference at a position, by the texts that the code tries in turn.
-- Assumes nothing.
use Rattle.std.specs.Prelude.{Option, None}
use mathlib.Core.Path.{◌≡◌}
use mathlib.Core.Bool.{true, false}
use mathlib.Core.List.{List}
use Prim.Native.Nat.{ℕ, ◌+◌, ◌≤◌}
use Prim.Native.Char.{code}
use native.Mathlib.Omega.{arith}
use lib.ListN.{length, drop}
use lib.Seq.{drop-drop}
use Rattle.text_scan.specs.Bytes.{text}
use Rattle.text_scan.specs.Lists.{stands}
use Rattle.text_scan.proofs.Lists.{text_fits}
use Rattle.xml_references.specs.declared.Reference.{Reference}
use Rattle.xml_references.specs.References.{number, names, entity_named, reference_of, reference_at}
use Rattle.xml_references.specs.References.{refers}

module _ (s : List ℕ) (i : ℕ) where
  pub lt : stands (text "&lt;") s i ≡ true → refers 4 (code "<") ≡ entity_named names (drop i s)
  unfolding entity_named
  lt a = rw a

  module _ (n1 : stands (text "&lt;") s i ≡ false) where
    pub gt : stands (text "&gt;") s i ≡ true → refers 4 (code ">") ≡ entity_named names (drop i s)
    unfolding entity_named
    gt a = rw (n1, a)

    module _ (n2 : stands (text "&gt;") s i ≡ false) where
      pub amp : stands (text "&amp;") s i ≡ true → refers 5 (code "&") ≡ entity_named names (drop i s)
      unfolding entity_named
      amp a = rw (n1, n2, a)

      module _ (n3 : stands (text "&amp;") s i ≡ false) where
        pub apos : stands (text "&apos;") s i ≡ true → refers 6 (code "'") ≡ entity_named names (drop i s)
        unfolding entity_named
        apos a = rw (n1, n2, n3, a)

        module _ (n4 : stands (text "&apos;") s i ≡ false) where
          pub quot : stands (text "&quot;") s i ≡ true → refers 6 (code "\"") ≡ entity_named names (drop i s)
          unfolding entity_named
          quot a = rw (n1, n2, n3, n4, a)

          pub no_name : stands (text "&quot;") s i ≡ false → None ≡ entity_named names (drop i s)
          unfolding entity_named
          no_name a = rw (n1, n2, n3, n4, a)

  -- ---- a number, or a name
  pub hex_fits : stands (text "&#x") s i ≡ true → i + 3 ≤ length s
  hex_fits a = text_fits (text "&#x") s i (omega arith) a

  pub dec_fits : stands (text "&#") s i ≡ true → i + 2 ≤ length s
  dec_fits a = text_fits (text "&#") s i (omega arith) a

  pub hex : (r : Option Reference) → stands (text "&#x") s i ≡ true → r ≡ number 16 0 3 (drop (i + 3) s) → r ≡ reference_at s i
  unfolding reference_of
  hex r a e = rw (a, drop-drop 3 i s) e

  module _ (n1 : stands (text "&#x") s i ≡ false) where
    pub dec : (r : Option Reference) → stands (text "&#") s i ≡ true → r ≡ number 10 0 2 (drop (i + 2) s) → r ≡ reference_at s i
    unfolding reference_of
    dec r a e = rw (n1, a, drop-drop 2 i s) e

    pub name : (r : Option Reference) → stands (text "&#") s i ≡ false → r ≡ entity_named names (drop i s) → r ≡ reference_at s i
    unfolding reference_of
    name r a e = rw (n1, a) e
