use mathlib.Core.Bool.{true, false}
use lib.Dec.{eqb}
use native.Mathlib.Omega.{arith}
use Rattle.text_scan.proofs.Bytes.{range}
use Rattle.xml_names.specs.Names.{is_space}
use Rattle.xml_names.proofs.is_space.Goals as goal

pub returns-then-b-lt9 : goal.returns-then-b-lt9
returns-then-b-lt9 c = range (λ _. false) is_space 0 8 tt c.args.b (omega arith) (omega arith)

pub returns-then-b-lt11 : goal.returns-then-b-lt11
returns-then-b-lt11 c = range (λ _. true) is_space 9 10 tt c.args.b (omega arith) (omega arith)

pub returns-then-b-lt14 : goal.returns-then-b-lt14
returns-then-b-lt14 c = range (λ b. eqb b 13) is_space 11 13 tt c.args.b (omega arith) (omega arith)

pub returns : goal.returns
returns c = range (λ b. eqb b 32) is_space 14 255 tt c.args.b (omega arith) (omega arith)
