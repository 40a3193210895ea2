use Prim.Native.Nat.{◌-◌}
use native.Mathlib.Omega.{arith}
use Rattle.text_scan.proofs.Bytes.{numbers}
use Rattle.xml_references.specs.References.{digit_value}
use Rattle.xml_references.proofs.digit.Goals as goal

pub returns-then-b-lt48 : goal.returns-then-b-lt48
unfolding digit_value
returns-then-b-lt48 c = numbers (λ _. 255) digit_value 0 47 tt c.args.b (omega arith) (omega arith)

pub returns-then-b-lt58 : goal.returns-then-b-lt58
unfolding digit_value
returns-then-b-lt58 c = numbers (λ b. b - 48) digit_value 48 57 tt c.args.b (omega arith) (omega arith)

pub returns-then-b-lt65 : goal.returns-then-b-lt65
unfolding digit_value
returns-then-b-lt65 c = numbers (λ _. 255) digit_value 58 64 tt c.args.b (omega arith) (omega arith)

pub returns-then-b-lt71 : goal.returns-then-b-lt71
unfolding digit_value
returns-then-b-lt71 c = numbers (λ b. b - 55) digit_value 65 70 tt c.args.b (omega arith) (omega arith)

pub returns-then-b-lt97 : goal.returns-then-b-lt97
unfolding digit_value
returns-then-b-lt97 c = numbers (λ _. 255) digit_value 71 96 tt c.args.b (omega arith) (omega arith)

pub returns-then-b-lt103 : goal.returns-then-b-lt103
unfolding digit_value
returns-then-b-lt103 c = numbers (λ b. b - 87) digit_value 97 102 tt c.args.b (omega arith) (omega arith)

pub returns : goal.returns
unfolding digit_value
returns c = numbers (λ _. 255) digit_value 103 255 tt c.args.b (omega arith) (omega arith)
