use mathlib.Core.Bool.{true, false}
use mathlib.Core.Path.{◌∙◌}
use lib.Dec.{ltb}
use native.Mathlib.Omega.{arith}
use Rattle.text_scan.proofs.Bytes.{range}
use Rattle.xml_names.specs.Names.{is_name_start, is_name_char}
use Rattle.xml_names.proofs.Names.{small_letter}
use Rattle.xml_names.proofs.is_name_char.Goals as goal

pub returns-then-b : goal.returns-then-b
returns-then-b c = search (small_letter is_name_char tt)

pub returns-then-b-lt45 : goal.returns-then-b-lt45
returns-then-b-lt45 c = range (λ _. false) is_name_char 0 44 tt c.args.b (omega arith) (omega arith)

pub returns-then-b-lt48 : goal.returns-then-b-lt48
returns-then-b-lt48 c = range (λ b. ltb b 47) is_name_char 45 47 tt c.args.b (omega arith) (omega arith)

pub returns-then-b-lt59 : goal.returns-then-b-lt59
returns-then-b-lt59 c = range (λ _. true) is_name_char 48 58 tt c.args.b (omega arith) (omega arith)

pub returns : goal.returns
returns c = c.is_name_start.ensures ∙ range is_name_start is_name_char 59 255 tt c.args.b (omega arith) (omega arith)
