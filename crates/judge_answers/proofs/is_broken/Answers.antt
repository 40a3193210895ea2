use Rattle.judge_answers.proofs.Asked.{asks_nothing, asks_broken, wants_code, wants_name, forbids_document, forbids_version, forbids_elsewhere, forbids_other}
use Rattle.judge_answers.proofs.Runs.{codes_served, names_served, keys_served, keys_told}
use Rattle.judge_answers.proofs.is_broken.Goals as goal

pub has_code-requires : goal.has_code-requires
has_code-requires c = search codes_served

pub has_name-requires : goal.has_name-requires
has_name-requires c = search names_served

pub has_key_elsewhere-requires : goal.has_key_elsewhere-requires
has_key_elsewhere-requires c = search keys_served

pub has_other_key-requires : goal.has_other_key-requires
has_other_key-requires c = search keys_told

pub returns-in-Nothing : goal.returns-in-Nothing
returns-in-Nothing c = search asks_nothing

pub returns-in-Broken : goal.returns-in-Broken
returns-in-Broken c = search asks_broken

pub returns-in-CodeRow : goal.returns-in-CodeRow
returns-in-CodeRow c = search wants_code

pub returns-in-NameRow : goal.returns-in-NameRow
returns-in-NameRow c = search wants_name

pub returns-in-NoDocument : goal.returns-in-NoDocument
returns-in-NoDocument c = search forbids_document

pub returns-in-NoVersion : goal.returns-in-NoVersion
returns-in-NoVersion c = search forbids_version

pub returns-in-NoKeyElsewhere : goal.returns-in-NoKeyElsewhere
returns-in-NoKeyElsewhere c = search forbids_elsewhere

pub returns-in-NoOtherKey : goal.returns-in-NoOtherKey
returns-in-NoOtherKey c = search forbids_other
