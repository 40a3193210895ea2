-- Worked examples of the definitions, each computed.
-- Assumes nothing.
use Rattle.std.specs.Prelude.{◌≡◌, refl, [], ◌∷◌, ◌++◌, None, Some}
use Rattle.xml_steps.specs.Reading.{element_row}
use Rattle.judge_paths.specs.Roles.{Unknown, Unlisted, Root, Id, Author, Entity1, Labeler}
use Rattle.judge_tests.specs.declared.Test.TheVariants.{Any}
use Rattle.judge_draft.specs.Below.{ancestor_in, those, all_below}
use Rattle.judge_draft.specs.Drafts.{Draft, full_draft, is}
use Rattle.judge_tests.specs.Passing.{passes}
use Rattle.judge_below.specs.Chosen.{chosen, wanted, kids, only_one, only_kid}

-- two ids of the root, and one in an element that is not listed; and a labeler
abbrev its : Draft
its =
    full_draft []
    (element_row Root 0 0 105 ++ element_row Id 0 3 8 ++ element_row Unlisted 0 8 20 ++ element_row Unknown 2 11 16 ++ element_row Id 0 20 25 ++ element_row Author 0 25 101
    ++ element_row Entity1 5 33 92 ++ element_row Labeler 6 49 75)

its_ids : kids its 0 Id ≡ 1 ∷ 4 ∷ []
unfolding ancestor_in those all_below full_draft is passes chosen
its_ids = refl

-- of two ids none is the only one
no_one_id : only_kid its 0 Id ≡ None
unfolding ancestor_in those all_below full_draft is passes chosen
no_one_id = refl

the_labeler : only_one (chosen its (wanted Labeler 3 Any) 0) ≡ Some 7
unfolding ancestor_in those all_below full_draft is passes chosen
the_labeler = refl

-- it stands two levels below author, and is no child of it
no_labeler_child : kids its 5 Labeler ≡ []
unfolding ancestor_in those all_below full_draft is passes chosen
no_labeler_child = refl

-- the root is no child of its own
no_root_child : kids its 0 Root ≡ []
unfolding ancestor_in those all_below full_draft is passes chosen
no_root_child = refl
