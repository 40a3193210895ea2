-- Where a comment ends (XML 1.0, production [15]): "<!--", and a text that neither holds "--" nor ends in "-", and "-->".
-- Past the end of s stands 0, which is no part of any markup.
-- Assumes nothing.
use Rattle.std.specs.Prelude.{ℕ, ◌+◌, List, eqb, length, get_or, Option, None, Some}
use Prim.Native.Char.{code}
use Rattle.text_scan.specs.Choice.{pick, ◌and◌}
use Rattle.text_scan.specs.Bytes.{text}
use Rattle.text_scan.specs.Lists.{stands}
use Rattle.text_scan.specs.Walk.{Next, skip, done, from}

-- inside a comment: the first "--" is its end if '>' follows, and malformed if not
unfoldable pub comment_step : List ℕ → ℕ → Next (Option ℕ)
comment_step s i =
    pick (eqb (get_or s i 0) (code "-") and eqb (get_or s (i + 1) 0) (code "-"))
    (pick (eqb (get_or s (i + 2) 0) (code ">")) (done (Some (i + 3))) (done None))
    (skip 0)

-- the place after the comment at position `at`; nothing if none stands there that is well formed
unfoldable pub comment_end : List ℕ → ℕ → Option ℕ
comment_end s at = pick (stands (text "<!--") s at) (from (comment_step s) None (length s) (at + 4)) None
