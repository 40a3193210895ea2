use Rattle.judge_lookup.proofs.Laws.{many_elements, long_tables, many_codes, many_names, many_rows, few_elements, product_fits, by_product}
use Rattle.judge_lookup.proofs.is_large.Goals as goal

pub returns-then-count-gt-ELEMENTS : goal.returns-then-count-gt-ELEMENTS
returns-then-count-gt-ELEMENTS c = search many_elements

pub returns-then-length-gt-TABLES : goal.returns-then-length-gt-TABLES
returns-then-length-gt-TABLES c = search long_tables

pub returns-then-places-gt-ROWS : goal.returns-then-places-gt-ROWS
returns-then-places-gt-ROWS c = search many_codes

pub returns-then-places-gt-ROWS-2 : goal.returns-then-places-gt-ROWS-2
returns-then-places-gt-ROWS-2 c = search many_names

pub returns-then-places-gt-ROWS-3 : goal.returns-then-places-gt-ROWS-3
returns-then-places-gt-ROWS-3 c = search many_rows

pub returns-then-count-lt24 : goal.returns-then-count-lt24
returns-then-count-lt24 c = search few_elements

pub overflow_mul-result : goal.overflow_mul-result
overflow_mul-result c = search product_fits

pub returns : goal.returns
returns c = search by_product
