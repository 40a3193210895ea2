use Rattle.xml_texts.proofs.Texts.{of_text, of_comment, of_instruction}
use Rattle.xml_texts.proofs.content_of.Goals as goal

pub returns-in-Text : goal.returns-in-Text
returns-in-Text c = search of_text

pub returns-in-Comment : goal.returns-in-Comment
returns-in-Comment c = search of_comment

pub returns-in-Instruction : goal.returns-in-Instruction
returns-in-Instruction c = search of_instruction
