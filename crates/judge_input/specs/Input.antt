-- What is handed in (document 01, "Refusal numbers"): refusals 1 to 4 in their order, or the sections of the tables.
-- Assumes nothing.
use Rattle.std.specs.Prelude.{ℕ, Result, Ok, Err, List, ltb, length}
use Rattle.refusals.specs.declared.Reason.TheVariants.{LongDocument, LongTables, ShortScratch, BadTables}
use Rattle.refusals.specs.declared.Refusal.{Refusal}
use Rattle.refusals.specs.Numbers.{refuses}
use Rattle.text_scan.specs.Choice.{pick}
use Rattle.xml_reader.specs.Limits.{document_limit, tables_limit, scratch_limit}
use Rattle.table_lines.specs.Lines.{rows_at}
use Rattle.table_file.specs.declared.Sections.{Sections as Accepted}
use Rattle.table_file.specs.declared.BadLine.{BadLine}
use Rattle.table_file.specs.Accepted.{Tables, accepted}
use Rattle.judge_input.specs.declared.Sections.{Sections}

-- 4: the place of the first bad line
abbrev pub of_file : Result Accepted BadLine → Result Sections Refusal
of_file (Err e) = refuses BadTables e.place
of_file (Ok t) =
    Ok (record {
      codes = t.codes.first;
      ncodes = t.codes.count;
      names = t.names.first;
      nnames = t.names.count;
      history = t.history.first;
      nhistory = t.history.count;
    })

-- 1, 2 and 3: the length of the document, that of the tables, and 4,096 where the scratch area has fewer bytes
unfoldable pub admitted : List ℕ → List ℕ → ℕ → Result Sections Refusal
admitted document file scratch =
    pick (ltb document_limit (length document)) (refuses LongDocument (length document))
    (pick (ltb tables_limit (length file)) (refuses LongTables (length file))
    (pick (ltb scratch scratch_limit) (refuses ShortScratch scratch_limit) (of_file (accepted file))))

-- the tables of a file with these sections
abbrev pub section_tables : List ℕ → Sections → Tables
section_tables s x =
    record {
      codes = rows_at s x.codes x.ncodes;
      names = rows_at s x.names x.nnames;
      history = rows_at s x.history x.nhistory;
    }
