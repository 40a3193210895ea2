use mathlib.Core.Path.{refl}
use Rattle.xml_names.specs.Names.{is_name_char}
use Rattle.sort_compare.proofs.Bytes.{byte_in_lem, byte_out, byte_past}
use Rattle.sort_compare.proofs.next_byte.Goals as goal
use Rattle.sort_compare.proofs.next_byte.Goals.{else-i-s-via-then-i-s+else-is_name_char, else-i-s-via-else-i-s}

pub returns-then-is_name_char : goal.returns-then-is_name_char
returns-then-is_name_char c = search byte_in_lem

pub returns : goal.returns
returns c = elim c.else-i-s.branch [ else-i-s-via-then-i-s+else-is_name_char w ↦ search byte_out | else-i-s-via-else-i-s w ↦ search (byte_past is_name_char refl) ]
