use Rattle.xml_value_reader.proofs.Shown.{small_scratch, ends_first, ends_outside, read_moves, filled}
use Rattle.xml_value_reader.proofs.fill.Goals as goal

pub returns-then-scratch-lt-SCRATCH : goal.returns-then-scratch-lt-SCRATCH
returns-then-scratch-lt-SCRATCH c = search small_scratch

pub returns-then-after-first : goal.returns-then-after-first
returns-then-after-first c = search ends_first

pub returns-then-document-after : goal.returns-then-document-after
returns-then-document-after c = search ends_outside

pub moved-requires : goal.moved-requires
moved-requires c = search read_moves

pub returns : goal.returns
returns c = search filled
