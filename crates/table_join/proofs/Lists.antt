-- Lists one after the other.
-- Assumes nothing.
use mathlib.Core.Path.{◌≡◌, refl}
use mathlib.Core.Bool.{Bool, true}
use mathlib.Core.List.{List, [], ◌∷◌, ◌++◌}
use Prim.Native.Nat.{ℕ}
use Rattle.text_scan.specs.Choice.{◌and◌}
use Rattle.text_scan.specs.Lists.{every}
use Rattle.text_scan.proofs.Tests.{and_left, and_right}

pub and_both : (a b : Bool) → a ≡ true → b ≡ true → a and b ≡ true
and_both a b p q = rw (p, q)

pub every_joined : (p : ℕ → Bool) (a b : List ℕ) → every p a ≡ true → every p b ≡ true → every p (a ++ b) ≡ true
unfolding every
every_joined p [] b e f = f
every_joined p (x ∷ a) b e f =
    and_both (p x) (every p (a ++ b)) (and_left (p x) (every p a) e) (every_joined p a b (and_right (p x) (every p a) e) f)

-- what holds of each element by one test holds by a weaker one
pub every_weaker : (p q : ℕ → Bool) → ((b : ℕ) → p b ≡ true → q b ≡ true) → (a : List ℕ) → every p a ≡ true → every q a ≡ true
unfolding every
every_weaker p q w [] e = refl
every_weaker p q w (x ∷ a) e =
    and_both (q x) (every q a) (w x (and_left (p x) (every p a) e)) (every_weaker p q w a (and_right (p x) (every p a) e))
