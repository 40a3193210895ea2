use Rattle.text_chars.proofs.Decode.{sound_under, sound_in, sound_out}
use Rattle.text_chars.proofs.sound_width.Goals as goal

pub returns-then-c-least : goal.returns-then-c-least
returns-then-c-least c = search sound_under

pub returns-then-is_char : goal.returns-then-is_char
returns-then-is_char c = search sound_in

pub returns : goal.returns
returns c = search sound_out
