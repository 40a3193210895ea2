-- How the code writes down what a parent lists: the names as words of one text, each followed by a space, the length of each, and the role of each.
-- No contract of a public function cites this.
-- Assumes nothing.
use Rattle.std.specs.Prelude.{ℕ, ◌+◌, List, [], ◌∷◌, take, drop, get_or}
use Rattle.text_scan.specs.Choice.{pick}
use Rattle.text_facts.specs.Strings.{equal}
use Rattle.judge_paths.specs.Roles.{Unlisted}

-- the bytes of words of these lengths, with their spaces
unfoldable pub span_of : List ℕ → ℕ
span_of [] = 0
span_of (n ∷ ns) = n + 1 + span_of ns

-- the role of the word that is the name: from the word at this position, which has this number, on
unfoldable pub worded_from : List ℕ → List ℕ → List ℕ → ℕ → ℕ → List ℕ → ℕ
worded_from words roles name at number [] = Unlisted
worded_from words roles name at number (n ∷ ns) =
    pick (equal name (take n (drop at words))) (get_or roles number 0) (worded_from words roles name (at + n + 1) (number + 1) ns)

unfoldable pub child_in : List ℕ → List ℕ → List ℕ → List ℕ → ℕ
child_in words lengths roles name = worded_from words roles name 0 0 lengths
