use Rattle.judge_organisations.proofs.Numbers.{in_request, in_level_1, in_level_2, in_level_3, in_level_4, in_no_entity}
use Rattle.judge_organisations.proofs.organisation_in.Goals as goal

pub returns-then-entity-eq-REQUEST_ENTITY : goal.returns-then-entity-eq-REQUEST_ENTITY
returns-then-entity-eq-REQUEST_ENTITY c = search in_request

pub returns-then-entity-eq-ENTITY_1 : goal.returns-then-entity-eq-ENTITY_1
returns-then-entity-eq-ENTITY_1 c = search in_level_1

pub returns-then-entity-eq-ENTITY_2 : goal.returns-then-entity-eq-ENTITY_2
returns-then-entity-eq-ENTITY_2 c = search in_level_2

pub returns-then-entity-eq-ENTITY_3 : goal.returns-then-entity-eq-ENTITY_3
returns-then-entity-eq-ENTITY_3 c = search in_level_3

pub returns-then-entity-eq-ENTITY_4 : goal.returns-then-entity-eq-ENTITY_4
returns-then-entity-eq-ENTITY_4 c = search in_level_4

pub returns : goal.returns
returns c = search in_no_entity
