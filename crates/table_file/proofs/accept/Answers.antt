use Rattle.std.proofs.lemmas.Result.{err_from_is_err_and}
use Rattle.table_file.proofs.Reading.{no_code_list, no_register, no_history, not_all, all}
use Rattle.table_file.proofs.accept.Goals as goal

pub returns-in_err-codes : goal.returns-in_err-codes
returns-in_err-codes c = let p = err_from_is_err_and c.from_residual.result c.from_residual.ensures.1 in rw (p.1, p.2) (search (no_code_list, c.in_err-codes.ensures))

pub returns-in_err-names : goal.returns-in_err-names
returns-in_err-names c = let p = err_from_is_err_and c.from_residual-in_err-names.result c.from_residual-in_err-names.ensures.1 in rw (p.1, p.2) (search (no_register, c.in_ok-codes.ensures, c.in_err-names.ensures))

pub returns-in_err-history : goal.returns-in_err-history
returns-in_err-history c = let p = err_from_is_err_and c.from_residual-in_err-history.result c.from_residual-in_err-history.ensures.1 in rw (p.1, p.2) (search (no_history, c.in_ok-codes.ensures, c.in_ok-names.ensures, c.in_err-history.ensures))

pub returns-then-history-s : goal.returns-then-history-s
returns-then-history-s c = search (not_all, c.in_ok-codes.ensures, c.in_ok-names.ensures, c.in_ok-history.ensures)

pub returns : goal.returns
returns c = search (all, c.in_ok-codes.ensures, c.in_ok-names.ensures, c.in_ok-history.ensures)
