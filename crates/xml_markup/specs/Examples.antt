-- Worked examples of the definitions, each computed.
-- Assumes nothing.
use Rattle.std.specs.Prelude.{◌≡◌, refl, None, Some, Ok, Err}
use Rattle.refusals.specs.declared.Reason.TheVariants.{Malformed, PastLimit}
use Rattle.text_scan.specs.Bytes.{text}
use Rattle.text_scan.specs.Lists.{begins, run_end}
use Rattle.text_scan.specs.Walk.{walk, from}
use Rattle.xml_names.specs.Names.{name_end}
use Rattle.xml_markup.specs.Comments.{comment_step, comment_end}
use Rattle.xml_markup.specs.Instructions.{close_step, close_end, data_end, instruction_to, instruction_end}

-- ---- comments
comment_whole : comment_end (text "<a><!-- c --></a>") 3 ≡ Some 13
unfolding begins walk from comment_step comment_end
comment_whole = refl

comment_empty : comment_end (text "<!---->") 0 ≡ Some 7
unfolding begins walk from comment_step comment_end
comment_empty = refl

-- what follows "<!--" may begin with '-', if another byte comes next
comment_hyphen : comment_end (text "<!---> -->") 0 ≡ Some 10
unfolding begins walk from comment_step comment_end
comment_hyphen = refl

comment_short : comment_end (text "<!--->") 0 ≡ None
unfolding begins walk from comment_step comment_end
comment_short = refl

comment_three : comment_end (text "<!--a--->") 0 ≡ None
unfolding begins walk from comment_step comment_end
comment_three = refl

comment_inner : comment_end (text "<!-- a -- b -->") 0 ≡ None
unfolding begins walk from comment_step comment_end
comment_inner = refl

-- ---- processing instructions
instruction_bare : instruction_end (text "<?p?><a>") 0 ≡ Ok 5
unfolding begins run_end name_end walk from close_step close_end data_end instruction_to
instruction_bare = refl

instruction_data : instruction_end (text "<?a:b c ? >??>") 0 ≡ Ok 14
unfolding begins run_end name_end walk from close_step close_end data_end instruction_to
instruction_data = refl

instruction_stylesheet : instruction_end (text "<?xml-stylesheet x?>") 0 ≡ Ok 20
unfolding begins run_end name_end walk from close_step close_end data_end instruction_to
instruction_stylesheet = refl

instruction_xml : instruction_end (text "<?XmL x?>") 0 ≡ Err Malformed
unfolding begins run_end name_end walk from close_step close_end data_end instruction_to
instruction_xml = refl

instruction_no_space : instruction_end (text "<?p+x?>") 0 ≡ Err Malformed
unfolding begins run_end name_end walk from close_step close_end data_end instruction_to
instruction_no_space = refl

instruction_unfinished : instruction_end (text "<?p d></a>") 0 ≡ Err Malformed
unfolding begins run_end name_end walk from close_step close_end data_end instruction_to
instruction_unfinished = refl

-- 64 and 65 bytes of target, and 65 where the end is missing
instruction_64 : instruction_end (text "<?pppppppppppppppppppppppppppppppppppppppppppppppppppppppppppppppp?>") 0 ≡ Ok 68
unfolding begins run_end name_end walk from close_step close_end data_end instruction_to
instruction_64 = refl

instruction_65 : instruction_end (text "<?ppppppppppppppppppppppppppppppppppppppppppppppppppppppppppppppppp?>") 0 ≡ Err PastLimit
unfolding begins run_end name_end walk from close_step close_end data_end instruction_to
instruction_65 = refl

instruction_65_unfinished : instruction_end (text "<?ppppppppppppppppppppppppppppppppppppppppppppppppppppppppppppppppp >") 0 ≡ Err Malformed
unfolding begins run_end name_end walk from close_step close_end data_end instruction_to
instruction_65_unfinished = refl
