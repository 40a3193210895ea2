-- The contracts of this crate decide what is answered and left.
-- Assumes nothing.
use denote.RattleType.{RattleType}
use denote.Param.Laws.{Laws}
use mir.Syntax.{Dict}
use Rattle.text_scan.specs.declared.ByteClass as byte_class
use Rattle.text_scan.specs.declared.Case as case
use Rattle.text_scan.proofs.Decides.{only, Answers}
use Rattle.text_scan.proofs.Case.read
use Rattle.text_scan.proofs.ByteClass.holds
use Rattle.text_scan.proofs.ExactCase.read as read_exact
use Rattle.text_scan.proofs.AnyCaseCase.read as read_any_case
use Rattle.text_scan.proofs.DigitByteClass.holds as holds_digit
use Rattle.text_scan.proofs.byte
use Rattle.text_scan.proofs.is_digit
use Rattle.text_scan.proofs.lower_case
use Rattle.text_scan.proofs.text_read_at
use Rattle.text_scan.proofs.text_at
use Rattle.text_scan.proofs.run_end
use Rattle.text_scan.proofs.digits_end
use Rattle.text_scan.proofs.all_digits

pub byte_decided : Answers byte.Kinds.ps byte.Kinds.r byte.Reads.Post
byte_decided κs a x y s t p q = only p.0 q.0

pub is_digit_decided : Answers is_digit.Kinds.ps is_digit.Kinds.r is_digit.Reads.Post
is_digit_decided κs a x y s t = only

pub lower_case_decided : Answers lower_case.Kinds.ps lower_case.Kinds.r lower_case.Reads.Post
lower_case_decided κs a x y s t = only

-- of each case in which bytes are read
pub text_read_at_decided : (C : RattleType) (l : Laws C) (m : case.Ghosts C.Denot) (d : Dict) → Answers (text_read_at.Kinds.ps C l) (text_read_at.Kinds.r C l) (text_read_at.Reads.Post C l m d)
text_read_at_decided C l m d κs a x y s t = only

pub text_at_decided : Answers text_at.Kinds.ps text_at.Kinds.r text_at.Reads.Post
text_at_decided κs a x y s t = only

-- of each class of bytes
pub run_end_decided : (C : RattleType) (l : Laws C) (m : byte_class.Ghosts C.Denot) (d : Dict) → Answers (run_end.Kinds.ps C l) (run_end.Kinds.r C l) (run_end.Reads.Post C l m d)
run_end_decided C l m d κs a x y s t = only

pub digits_end_decided : Answers digits_end.Kinds.ps digits_end.Kinds.r digits_end.Reads.Post
digits_end_decided κs a x y s t = only

pub all_digits_decided : Answers all_digits.Kinds.ps all_digits.Kinds.r all_digits.Reads.Post
all_digits_decided κs a x y s t = only

-- of each case, and of those that are given
pub read_decided : (C : RattleType) (l : Laws C) (m : case.Ghosts C.Denot) (d : Dict) → Answers (read.Kinds.ps C l) (read.Kinds.r C l) (read.Reads.Post C l m d)
read_decided C l m d κs a x y s t = only

pub read_exact_decided : Answers read_exact.Kinds.ps read_exact.Kinds.r read_exact.Reads.Post
read_exact_decided κs a x y s t = only

pub read_any_case_decided : Answers read_any_case.Kinds.ps read_any_case.Kinds.r read_any_case.Reads.Post
read_any_case_decided κs a x y s t = only

-- of each class, and of the digits
pub holds_decided : (C : RattleType) (l : Laws C) (m : byte_class.Ghosts C.Denot) (d : Dict) → Answers (holds.Kinds.ps C l) (holds.Kinds.r C l) (holds.Reads.Post C l m d)
holds_decided C l m d κs a x y s t = only

pub holds_digit_decided : Answers holds_digit.Kinds.ps holds_digit.Kinds.r holds_digit.Reads.Post
holds_digit_decided κs a x y s t = only
