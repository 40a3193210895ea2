use Rattle.judge_procedures.proofs.Told.{in_listed, in_header, in_organisations, in_contacts, in_registrations}
use Rattle.judge_procedures.proofs.demand.Goals as goal

pub returns-then-p-lt5 : goal.returns-then-p-lt5
returns-then-p-lt5 c = search in_listed

pub returns-then-p-lt14 : goal.returns-then-p-lt14
returns-then-p-lt14 c = search in_header

pub returns-then-p-lt23 : goal.returns-then-p-lt23
returns-then-p-lt23 c = search in_organisations

pub returns-then-p-lt31 : goal.returns-then-p-lt31
returns-then-p-lt31 c = search in_contacts

pub returns : goal.returns
returns c = search in_registrations
