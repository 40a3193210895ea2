-- What was told of the keys of a set id. For the code's own functions: it changes no answer.
-- Assumes nothing.
use Rattle.std.specs.Prelude.{ℕ, Bool, true, List, ◌≡◌}
use Rattle.table_sets.specs.declared.Keys.{Keys}
use Rattle.table_sets.specs.SetKeys.{keys_of}
use Rattle.judge_header.specs.Header.{request_code}

-- where they are known, they are those of the rows of requests with this set id
pub record Told (known : Bool) (keys : Keys) (set s : List ℕ) (at count : ℕ) : Type 0 where
  pub told : known ≡ true → keys ≡ keys_of request_code set s at count
