-- Each answer is none or one of document 01's refusals, told by its number: of a piece, of a tables file, of a reading, of a check, of a merge. A check answers never with 10.
-- Assumes nothing.
use Prim.Native.Nat.{ℕ, zero, suc, ◌+◌, ◌-◌, ◌*◌}
use Prim.Native.Char.{code}
use mathlib.Core.Path.{◌≡◌, refl, sym}
use mathlib.Core.Bool.{Bool, true, false}
use mathlib.Core.List.{List, [], ◌∷◌, ◌++◌}
use borrow.Author.Tests.{eqb-true}
use lib.Dec.{leb, ltb, eqb}
use lib.ListN.{length, get_or, drop}
use Rattle.text_scan.specs.Choice.{pick, ◌or◌, ◌and◌}
use Rattle.text_scan.specs.Bytes.{text}
use Rattle.text_scan.specs.Lists.{every, stands}
use Rattle.text_chars.specs.Utf8.{first_bad}
use Rattle.text_scan.proofs.Tests.{never, and_left, and_right}
use Rattle.text_scan.specs.Turns.{Turn, on, out, turns, run}
use Rattle.xml_attributes.specs.declared.Tag.{Tag}
use Rattle.xml_attributes.specs.declared.Tag.TheVariants.{Start as Opens, Empty as Stands}
use Rattle.xml_names.specs.Names.{name_end, space_end}
use Rattle.xml_names.specs.ElementNames.{element_end}
use Rattle.xml_references.specs.Runs.{text_end}
use Rattle.xml_declaration.specs.Declaration.{is_declaration, declaration_end}
use Rattle.xml_markup.specs.Comments.{comment_end}
use Rattle.xml_markup.specs.Instructions.{is_target, data_end, limited, instruction_to}
use Rattle.xml_attributes.specs.Chains.{items, ending}
use Rattle.xml_attributes.specs.Parts.{attributes, repeated}
use Rattle.xml_tags.specs.EndTags.{end_tag_end}
use Rattle.xml_tags.specs.Tags.{past_limit, tag_answer, tag_to}
use Rattle.xml_reader.specs.Limits.{name_limit, document_limit, tables_limit, scratch_limit}
use Rattle.xml_pieces.specs.declared.Kind.{Kind}
use Rattle.xml_pieces.specs.declared.Kind.TheVariants.{Text, Comment, Instruction, Declaration, Start, Empty, End}
use Rattle.xml_pieces.specs.declared.DocumentPart.{DocumentPart}
use Rattle.xml_pieces.specs.declared.DocumentPart.TheVariants.{Before, Inside, After}
use Rattle.xml_pieces.specs.declared.Scanned.{Scanned}
use Rattle.xml_pieces.specs.declared.Scanned.TheVariants.{Piece, Refused}
use Rattle.xml_pieces.specs.Pieces.{found, text_piece_at, bang_at, instructed, question_at, end_at, tagged, start_at, markup_at, piece_at}
use Rattle.xml_pieces.specs.Numbered.{numbered_piece}
use Rattle.xml_steps.specs.Reading.{Reading, fresh, passed, added, closed, has_element_room, is_named, content_fits, Read, refused, elements, adding, closing, by_piece, document_part}
use Rattle.xml_elements.specs.Elements.{at_end, turn, left, read_from, elements_of, answer_of}
use Rattle.xml_elements.specs.Numbered.{numbered_reading}
use Rattle.std.specs.Prelude.{is_err, Result, Ok, Err, Option, None, Some, ℕ}
use Rattle.refusals.specs.declared.Reason.TheVariants.{LongDocument, LongTables, ShortScratch, BadCharacter, Unsupported, Malformed, PastLimit, ShortElements, ShortList, BadList, NoMerge}
use Rattle.refusals.specs.declared.Reason.{Reason}
use Rattle.refusals.specs.declared.Refusal.{Refusal}
use Rattle.refusals.specs.Numbers.{number_of, refuses}
use Rattle.judge_input.specs.declared.Sections.{Sections}
use Rattle.table_file.specs.declared.Sections.{Sections as Accepted}
use Rattle.table_file.specs.declared.BadLine.{BadLine}
use Rattle.table_file.specs.Accepted.{Tables, tables_of, accepted}
use Rattle.table_file.specs.Numbered.{numbered_file}
use Rattle.list_findings.specs.Findings.{is_among, records, filled}
use Rattle.list_findings.specs.Merge.{first_bad_record, merged, first_fault, Merging, merge_refused, too_many, merge_of}
use Rattle.list_findings.specs.Numbered.{numbered_merge}
use Rattle.judge_input.specs.Scratch.{cleared}
use Rattle.judge_input.specs.Input.{of_file, admitted}
use Rattle.judge_input.specs.Numbered.{numbered_input}
use Rattle.judge_findings.specs.Listed.{findings_of}
use Rattle.judge_findings.specs.Room.{has_list_room, answer_in, list_in}
use Rattle.judge_findings.specs.Numbered.{numbered_check}
use Rattle.judge_type.specs.Drafted.{draft_of}
use Rattle.judge_check.specs.Check.{refuse, after_reading, after_input, check_of}
use Rattle.judge_check.proofs.Values.{none_long}

-- the number is one of these
abbrev pub OneOf : List ℕ → ℕ → Type 0
OneOf ns n = is_among ns n ≡ true

either : {A : Type 0} (f : A → Bool) (t : Bool) {x y : A} → f x ≡ true → f y ≡ true → f (pick t x y) ≡ true
either f true p q = p
either f false p q = q

-- and so of more
widens : (ns ms : List ℕ) (n : ℕ) → every (is_among ms) ns ≡ true → OneOf ns n → OneOf ms n
unfolding every
widens [] ms n h e = never (sym e)
widens (k ∷ ns) ms n h e = go (eqb n k) refl e (widens ns ms n (and_right (is_among ms k) (every (is_among ms) ns) h))
  where
    go : (t : Bool) → eqb n k ≡ t → t or is_among ns n ≡ true → (OneOf ns n → OneOf ms n) → OneOf ms n
    go true q f g = rw (eqb-true n k q) (and_left (is_among ms k) (every (is_among ms) ns) h)
    go false q f g = g f

-- ---- a piece
unfoldable scanned : Scanned → Bool
scanned (Piece kind after) = true
scanned (Refused n) = is_among (6 ∷ 7 ∷ 8 ∷ []) (number_of n)

is_piece : (kind : Kind) (after : ℕ) → scanned (Piece kind after) ≡ true
unfolding scanned
is_piece kind after = refl

is_6 : scanned (Refused Unsupported) ≡ true
unfolding scanned
is_6 = refl

is_7 : scanned (Refused Malformed) ≡ true
unfolding scanned
is_7 = refl

is_8 : scanned (Refused PastLimit) ≡ true
unfolding scanned
is_8 = refl

by_found : (kind : Kind) (x : Option ℕ) → scanned (found kind x) ≡ true
by_found kind (Some after) = is_piece kind after
by_found kind None = is_7

of_limited : (t : Bool) (x : Option ℕ) → scanned (instructed (limited t x)) ≡ true
of_limited true (Some after) = is_piece Instruction after
of_limited false (Some after) = is_8
of_limited t None = is_7

of_answer : (t : Result Tag Reason) (r l : Bool) → scanned (tagged (pick (is_err t or r) (Err Malformed) (pick l (Err PastLimit) t))) ≡ true
of_answer (Ok (Opens after)) true l = is_7
of_answer (Ok (Opens after)) false true = is_8
of_answer (Ok (Opens after)) false false = is_piece Start after
of_answer (Ok (Stands after)) true l = is_7
of_answer (Ok (Stands after)) false true = is_8
of_answer (Ok (Stands after)) false false = is_piece Empty after
of_answer (Err n) r l = is_7

module _ (s : List ℕ) (i : ℕ) where
  of_instruction : (n : ℕ) → scanned (instructed (instruction_to s i n)) ≡ true
  unfolding instruction_to
  of_instruction n = go (stands (text "<?") s i and is_target s (i + 2) n)
    where
      go : (t : Bool) → scanned (instructed (pick t (limited (leb (n - (i + 2)) name_limit) (data_end s n)) (Err Malformed))) ≡ true
      go true = of_limited (leb (n - (i + 2)) name_limit) (data_end s n)
      go false = is_7

  of_tag : (n : ℕ) → scanned (tagged (tag_to s i n)) ≡ true
  unfolding tag_to tag_answer
  of_tag n = go (eqb (get_or s i 0) (code "<") and ltb (i + 1) n)
    where
      go : (t : Bool) → scanned (tagged (pick t (pick (is_err (ending (attributes s n)) or repeated s (items (attributes s n))) (Err Malformed) (pick (past_limit s (n - (i + 1)) (items (attributes s n))) (Err PastLimit) (ending (attributes s n)))) (Err Malformed))) ≡ true
      go true = of_answer (ending (attributes s n)) (repeated s (items (attributes s n))) (past_limit s (n - (i + 1)) (items (attributes s n)))
      go false = is_7

  abbrev at_markup : ℕ → Bool
  at_markup j = eqb j (length s) or eqb (get_or s j 0) (code "<")

  of_text : (part : DocumentPart) → scanned (text_piece_at s i part) ≡ true
  unfolding text_piece_at
  of_text Before = either scanned (at_markup (space_end s i)) (is_piece Text (space_end s i)) is_7
  of_text Inside = by_found Text (text_end s i)
  of_text After = either scanned (at_markup (space_end s i)) (is_piece Text (space_end s i)) is_7

  of_bang : scanned (bang_at s i) ≡ true
  unfolding bang_at
  of_bang =
      either scanned (stands (text "<!--") s i) (by_found Comment (comment_end s i))
      (either scanned (stands (text "<!DOCTYPE") s i or stands (text "<![CDATA[") s i) is_6 is_7)

  of_question : scanned (question_at s i) ≡ true
  unfolding question_at
  of_question =
      either scanned (eqb i 0 and is_declaration s) (by_found Declaration (declaration_end s)) (of_instruction (name_end s (i + 2)))

  of_end : (part : DocumentPart) → scanned (end_at s i part) ≡ true
  unfolding end_at
  of_end Before = is_7
  of_end Inside = by_found End (end_tag_end s i)
  of_end After = is_7

  of_start : (part : DocumentPart) → scanned (start_at s i part) ≡ true
  unfolding start_at
  of_start Before = of_tag (element_end s (i + 1))
  of_start Inside = of_tag (element_end s (i + 1))
  of_start After = is_7

  of_markup : (part : DocumentPart) → scanned (markup_at s i part) ≡ true
  unfolding markup_at
  of_markup part =
      either scanned (stands (text "<!") s i) of_bang
      (either scanned (stands (text "<?") s i) of_question (either scanned (stands (text "</") s i) (of_end part) (of_start part)))

  of_piece : (part : DocumentPart) → scanned (piece_at s i part) ≡ true
  unfolding piece_at
  of_piece part = either scanned (eqb (get_or s i 0) (code "<")) (of_markup part) (of_text part)

pub piece_numbered : (s : List ℕ) (at : ℕ) (part : DocumentPart) → OneOf (0 ∷ 6 ∷ 7 ∷ 8 ∷ []) (numbered_piece at (piece_at s at part)).number
unfolding every scanned
piece_numbered s at part = go (piece_at s at part) (of_piece s at part)
  where
    go : (x : Scanned) → scanned x ≡ true → OneOf (0 ∷ 6 ∷ 7 ∷ 8 ∷ []) (numbered_piece at x).number
    go (Piece kind after) h = refl
    go (Refused n) h = widens (6 ∷ 7 ∷ 8 ∷ []) (0 ∷ 6 ∷ 7 ∷ 8 ∷ []) (number_of n) refl h

-- ---- a tables file
pub file_numbered : (s : List ℕ) → OneOf (0 ∷ 4 ∷ []) (numbered_file (accepted s)).number
file_numbered s = go (accepted s)
  where
    go : (x : Result Accepted BadLine) → OneOf (0 ∷ 4 ∷ []) (numbered_file x).number
    go (Ok t) = refl
    go (Err e) = refl

-- ---- a reading
unfoldable is_read : Read → Bool
is_read (refused n place) = is_among (1 ∷ 5 ∷ 6 ∷ 7 ∷ 8 ∷ []) (number_of n)
is_read (elements n rows) = true

unfoldable turned : Turn Reading Read → Bool
turned (on r) = true
turned (out x) = is_read x

is_on : (r : Reading) → turned (on r) ≡ true
unfolding turned
is_on r = refl

is_out : (x : Read) → is_read x ≡ true → turned (out x) ≡ true
unfolding turned
is_out x h = h

is_read_lem : (n : ℕ) (rows : List ℕ) → is_read (elements n rows) ≡ true
unfolding is_read
is_read_lem n rows = refl

not_read : (n : Reason) (place : ℕ) → OneOf (1 ∷ 5 ∷ 6 ∷ 7 ∷ 8 ∷ []) (number_of n) → is_read (refused n place) ≡ true
unfolding is_read
not_read n place h = h

-- what is had by each answer of a turn, and by e, is had by the answer
ended : (f : Reading → Turn Reading Read) (e : Read) → is_read e ≡ true → ((r : Reading) → turned (f r) ≡ true) → (n : ℕ) (r : Reading) → is_read (turns f e n r) ≡ true
unfolding turns turned
ended f e p q zero r = p
ended f e p q (suc n) r = go (f r) (q r) (ended f e p q n)
  where
    go : (x : Turn Reading Read) → turned x ≡ true → ((t : Reading) → is_read (turns f e n t) ≡ true) → is_read (elim x [ on t ↦ turns f e n t | out y ↦ y ]) ≡ true
    go (on t) h k = k t
    go (out y) h k = h

module _ (s : List ℕ) where
  by_adding : (r : Reading) (after depth top : ℕ) → turned (adding r after depth top) ≡ true
  unfolding adding
  by_adding r after depth top = either turned (has_element_room r) (is_on (added r after depth top)) (is_out (refused PastLimit r.at) (not_read PastLimit r.at refl))

  by_closing : (r : Reading) (after : ℕ) → turned (closing s r after) ≡ true
  unfolding closing
  by_closing r after =
      either turned (is_named s r)
      (either turned (content_fits r) (is_on (closed r after)) (is_out (refused PastLimit r.at) (not_read PastLimit r.at refl)))
      (is_out (refused Malformed r.at) (not_read Malformed r.at refl))

  by_piece_lem : (r : Reading) (x : Scanned) → scanned x ≡ true → turned (by_piece s r x) ≡ true
  unfolding by_piece every scanned
  by_piece_lem r (Refused n) h = is_out (refused n r.at) (not_read n r.at (widens (6 ∷ 7 ∷ 8 ∷ []) (1 ∷ 5 ∷ 6 ∷ 7 ∷ 8 ∷ []) (number_of n) refl h))
  by_piece_lem r (Piece Start after) h = by_adding r after (r.depth + 1) r.count
  by_piece_lem r (Piece Empty after) h = by_adding r after r.depth r.top
  by_piece_lem r (Piece End after) h = by_closing r after
  by_piece_lem r (Piece Text after) h = is_on (passed r after)
  by_piece_lem r (Piece Comment after) h = is_on (passed r after)
  by_piece_lem r (Piece Instruction after) h = is_on (passed r after)
  by_piece_lem r (Piece Declaration after) h = is_on (passed r after)

  by_end : (r : Reading) → is_read (at_end s r) ≡ true
  by_end r = either is_read (eqb r.depth 0 and ltb 0 r.count) (is_read_lem r.count r.rows) (not_read Malformed (length s) refl)

  by_turn : (r : Reading) → turned (turn s r) ≡ true
  unfolding turn
  by_turn r =
      either turned (ltb r.at (length s))
      (by_piece_lem r (piece_at s r.at (document_part r.count r.depth)) (of_piece s r.at (document_part r.count r.depth)))
      (is_out (at_end s r) (by_end r))

  of_reading : is_read (elements_of s) ≡ true
  unfolding elements_of read_from run
  of_reading =
      either is_read (ltb document_limit (length s)) (not_read LongDocument (length s) refl)
      (either is_read (ltb (first_bad s) (length s)) (not_read BadCharacter (first_bad s) refl)
      (ended (turn s) (refused Malformed (length s)) (not_read Malformed (length s) refl) by_turn (suc (left s fresh)) fresh))

pub reading_numbered : (s : List ℕ) (room : ℕ) → OneOf (0 ∷ 1 ∷ 5 ∷ 6 ∷ 7 ∷ 8 ∷ 9 ∷ []) (numbered_reading (answer_of (elements_of s) room)).number
unfolding every is_read
reading_numbered s room = go (elements_of s) (of_reading s)
  where
    go : (x : Read) → is_read x ≡ true → OneOf (0 ∷ 1 ∷ 5 ∷ 6 ∷ 7 ∷ 8 ∷ 9 ∷ []) (numbered_reading (answer_of x room)).number
    go (refused n place) h = widens (1 ∷ 5 ∷ 6 ∷ 7 ∷ 8 ∷ []) (0 ∷ 1 ∷ 5 ∷ 6 ∷ 7 ∷ 8 ∷ 9 ∷ []) (number_of n) refl h
    go (elements n rows) h = at (leb (4 * n) room)
      where
        at : (t : Bool) → OneOf (0 ∷ 1 ∷ 5 ∷ 6 ∷ 7 ∷ 8 ∷ 9 ∷ []) (numbered_reading (pick t (Ok n) (refuses ShortElements n))).number
        at true = refl
        at false = refl

-- ---- a check
abbrev pub of_check : List ℕ
of_check = 0 ∷ 1 ∷ 2 ∷ 3 ∷ 4 ∷ 5 ∷ 6 ∷ 7 ∷ 8 ∷ 9 ∷ 11 ∷ []

after_reading_lem : (s : List ℕ) (t : Tables) (scratch table list : List ℕ) (x : Read) → is_read x ≡ true → OneOf of_check (numbered_check (after_reading s t scratch table list x).answer).number
unfolding answer_in list_in every is_read
after_reading_lem s t scratch table list (refused n place) h = widens (1 ∷ 5 ∷ 6 ∷ 7 ∷ 8 ∷ []) of_check (number_of n) refl h
after_reading_lem s t scratch table list (elements n rows) h = rw (none_long s rows) (at (leb (4 * n) (length table)) (has_list_room (findings_of (draft_of s rows) t) list))
  where
    at : (a b : Bool) → OneOf of_check (numbered_check (pick a
        (record { answer = pick b (Ok (length (findings_of (draft_of s rows) t))) (refuses ShortList (length (findings_of (draft_of s rows) t))); scratch = cleared scratch; table = rows ++ drop (4 * n) table; list = pick b (filled (findings_of (draft_of s rows) t) list) list })
        (refuse scratch table list ShortElements n)).answer).number
    at true true = refl
    at true false = refl
    at false b = refl

pub input_numbered : (s file : List ℕ) (scratch : ℕ) → OneOf (0 ∷ 1 ∷ 2 ∷ 3 ∷ 4 ∷ []) (numbered_input (admitted s file scratch)).number
unfolding admitted
input_numbered s file scratch = at (ltb document_limit (length s)) (ltb tables_limit (length file)) (ltb scratch scratch_limit) (accepted file)
  where
    at : (a b c : Bool) (x : Result Accepted BadLine) → OneOf (0 ∷ 1 ∷ 2 ∷ 3 ∷ 4 ∷ []) (numbered_input (pick a (refuses LongDocument (length s)) (pick b (refuses LongTables (length file)) (pick c (refuses ShortScratch scratch_limit) (of_file x))))).number
    at true b c x = refl
    at false true c x = refl
    at false false true x = refl
    at false false false (Ok t) = refl
    at false false false (Err e) = refl

pub check_numbered : (s file scratch table list : List ℕ) → OneOf of_check (numbered_check (check_of s file scratch table list).answer).number
unfolding check_of every
check_numbered s file scratch table list = go (admitted s file (length scratch)) (input_numbered s file (length scratch))
  where
    go : (x : Result Sections Refusal) → OneOf (0 ∷ 1 ∷ 2 ∷ 3 ∷ 4 ∷ []) (numbered_input x).number → OneOf of_check (numbered_check (after_input s file scratch table list x).answer).number
    go (Err p) h = widens (0 ∷ 1 ∷ 2 ∷ 3 ∷ 4 ∷ []) of_check (number_of p.reason) refl h
    go (Ok sections) h = after_reading_lem s (tables_of file) scratch table list (elements_of s) (of_reading s)

-- ---- a merge
abbrev pub of_merge : List ℕ
of_merge = 0 ∷ 11 ∷ 12 ∷ 13 ∷ []

unless : (number : Reason) (x : Option ℕ) (third : List ℕ) (y : Merging) → OneOf of_merge (number_of number) → OneOf of_merge (numbered_merge y.answer).number → OneOf of_merge (numbered_merge (merge_refused number x third y).answer).number
unless number (Some place) third y p q = p
unless number None third y p q = q

pub merge_numbered : (a b third : List ℕ) → OneOf of_merge (numbered_merge (merge_of a b third).answer).number
unfolding merge_of
merge_numbered a b third =
    unless BadList (first_bad_record a) third _ refl
    (unless BadList (first_bad_record b) third _ refl
    (unless NoMerge (first_fault (records a) (records b)) third _ refl
    (unless ShortList (too_many (merged (records a) (records b)) third) third _ refl refl)))
