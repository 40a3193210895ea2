use Rattle.judge_root.proofs.Children.{number_wrong, property_wrong, one_of_many, elsewhere}
use Rattle.judge_root.proofs.one_of_root.Goals as goal

pub returns-then-is-eq-ROOT : goal.returns-then-is-eq-ROOT
returns-then-is-eq-ROOT c = search number_wrong

pub returns-then-is_one : goal.returns-then-is_one
returns-then-is_one c = search property_wrong

pub returns-then-is-role : goal.returns-then-is-role
returns-then-is-role c = search one_of_many

pub returns : goal.returns
returns c = search elsewhere
