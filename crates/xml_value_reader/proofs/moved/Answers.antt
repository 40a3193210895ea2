use Rattle.xml_value_reader.proofs.Shown.{start_moves, end_moves, moved_part, moved_front}
use Rattle.xml_value_reader.proofs.moved.Goals as goal

pub overflow_add-result : goal.overflow_add-result
overflow_add-result c = search start_moves

pub overflow_add-result-in-Document : goal.overflow_add-result-in-Document
overflow_add-result-in-Document c = search end_moves

pub returns-in-Document : goal.returns-in-Document
returns-in-Document c = search moved_part

pub returns-in-Scratch : goal.returns-in-Scratch
returns-in-Scratch c = search moved_front
