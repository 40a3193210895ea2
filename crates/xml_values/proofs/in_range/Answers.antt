use Rattle.xml_values.proofs.Views.{ends_first, ends_outside, part_within, front_outside, front_within}
use Rattle.xml_values.proofs.in_range.Goals as goal

pub returns-then-after-first : goal.returns-then-after-first
returns-then-after-first c = search ends_first

pub returns-then-document-after : goal.returns-then-document-after
returns-then-document-after c = search ends_outside

pub returns-in-Document : goal.returns-in-Document
returns-in-Document c = search part_within

pub returns-then-scratch-n : goal.returns-then-scratch-n
returns-then-scratch-n c = search front_outside

pub returns-in-Scratch : goal.returns-in-Scratch
returns-in-Scratch c = search front_within
