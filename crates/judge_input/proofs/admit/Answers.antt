use Rattle.judge_input.proofs.Admitted.{refused_1, refused_2, refused_3, bad_file, good_file}
use Rattle.judge_input.proofs.admit.Goals as goal

pub returns-then-document-gt-DOCUMENT : goal.returns-then-document-gt-DOCUMENT
returns-then-document-gt-DOCUMENT c = search refused_1

pub returns-then-tables-gt-TABLES : goal.returns-then-tables-gt-TABLES
returns-then-tables-gt-TABLES c = search refused_2

pub returns-then-scratch-lt-SCRATCH : goal.returns-then-scratch-lt-SCRATCH
returns-then-scratch-lt-SCRATCH c = search refused_3

pub returns-in-Err : goal.returns-in-Err
returns-in-Err c = search bad_file

pub returns-in-Ok : goal.returns-in-Ok
returns-in-Ok c = search good_file
