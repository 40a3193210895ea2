-- What text and attribute values say: each reference is replaced by the UTF-8 of its character, every other byte is kept.
-- Assumes nothing.
use Rattle.std.specs.Prelude.{ℕ, zero, suc, ◌-◌, Bool, List, [], ◌∷◌, ◌++◌, eqb, take, drop, None, Some}
use Prim.Native.Char.{code}
use Rattle.text_scan.specs.Choice.{not}
use Rattle.text_encode.specs.Encode.{encoded}
use Rattle.xml_references.specs.References.{reference_of}

-- what bytes say, where the first k of them belong to a reference that was replaced. An '&' that begins no reference, which `value_end`
-- and `text_end` let nowhere stand, is kept
unfoldable pub replaced : ℕ → List ℕ → List ℕ
replaced k [] = []
replaced zero (x ∷ xs) = elim (reference_of (x ∷ xs)) [ Some p ↦ encoded p.character ++ replaced (p.width - 1) xs | None ↦ x ∷ replaced 0 xs ]
replaced (suc k) (x ∷ xs) = replaced k xs

-- a byte that begins no reference; bytes that are all plain say themselves
abbrev pub is_plain : ℕ → Bool
is_plain b = not (eqb b (code "&"))

-- the bytes of s from a to e
abbrev pub part : List ℕ → ℕ → ℕ → List ℕ
part s a e = take (e - a) (drop a s)

-- what these bytes say
abbrev pub decoded : List ℕ → ℕ → ℕ → List ℕ
decoded s a e = replaced 0 (part s a e)
