use lib.ListN.{length}
use Prim.Native.Nat.{◌/◌}
use borrow.Author.Rules.{rules}
use Rattle.sort_compare.specs.Keys.{key_at}
use Rattle.sort_places.proofs.Sorting.{short_sorted, joined_fits, first_rises, second_rises, whole_sorted, half_least, half_some, half_less}
use Rattle.sort_places.proofs.+sort.Goals as goal

pub returns-then-n-lt2 : goal.returns-then-n-lt2
returns-then-n-lt2 t c = search short_sorted

pub merge_halves-requires : goal.merge_halves-requires
merge_halves-requires t c =
    let a = c.args in
    let key = key_at a.by a.s.now in (
      search half_some,
      search (joined_fits key a.a.now (length a.a.now / 2) (half_least (length a.a.now)) c.sort.new.a c.sort.ensures, half_less),
      search rules,
      search (first_rises key a.a.now (length a.a.now / 2) (half_least (length a.a.now)) c.sort.new.a c.sort.ensures),
      search (second_rises key a.a.now (length a.a.now / 2) (half_least (length a.a.now)) c.sort.new.a c.sort.ensures),
    )

pub returns : goal.returns
returns t c =
    let a = c.args in
    let key = key_at a.by a.s.now in
    search (whole_sorted key a.a.now (length a.a.now / 2) (half_least (length a.a.now)) c.sort.new.a c.sort.ensures)
