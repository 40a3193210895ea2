use Rattle.table_search.proofs.Asking.{asked_code, asked_name, asked_key}
use Rattle.table_search.proofs.compare_asked.Goals as goal

pub returns-in-Code : goal.returns-in-Code
returns-in-Code c = search asked_code

pub returns-in-Name : goal.returns-in-Name
returns-in-Name c = search asked_name

pub returns-in-KeyElsewhere : goal.returns-in-KeyElsewhere
returns-in-KeyElsewhere c = search asked_key
