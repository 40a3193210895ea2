use mathlib.Core.Bool.{true}
use lib.Dec.{eqb, ltb}
use native.Mathlib.Omega.{arith}
use Rattle.text_scan.proofs.Bytes.{range}
use Rattle.xml_names.specs.Names.{is_name_start}
use Rattle.xml_names.proofs.is_name_start.Goals as goal

pub returns-then-b-gt96 : goal.returns-then-b-gt96
returns-then-b-gt96 c = range (λ b. ltb b 123) is_name_start 97 255 tt c.args.b (omega arith) (omega arith)

pub returns-then-b-lt65 : goal.returns-then-b-lt65
returns-then-b-lt65 c = range (λ b. eqb b 58) is_name_start 0 64 tt c.args.b (omega arith) (omega arith)

pub returns-then-b-lt91 : goal.returns-then-b-lt91
returns-then-b-lt91 c = range (λ _. true) is_name_start 65 90 tt c.args.b (omega arith) (omega arith)

pub returns : goal.returns
returns c = range (λ b. eqb b 95) is_name_start 91 96 tt c.args.b (omega arith) (omega arith)
