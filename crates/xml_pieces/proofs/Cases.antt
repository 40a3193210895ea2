-- A piece, by the tests and calls in which the code looks.
-- Assumes nothing.
use Rattle.std.specs.Prelude.{Option, None, Some, ℕ, Result, Ok, Err}
use Rattle.refusals.specs.declared.Reason.TheVariants.{Unsupported, Malformed}
use Rattle.refusals.specs.declared.Reason.{Reason}
use mathlib.Core.Path.{◌≡◌}
use mathlib.Core.Bool.{Bool, true, false}
use mathlib.Core.List.{List}
use Prim.Native.Nat.{ℕ}
use borrow.Author.Tests.{eq-eqb, ne_eqb}
use lib.Dec.{eqb}
use lib.ListN.{length, get_or}
use Rattle.text_scan.specs.Bytes.{text}
use Rattle.text_scan.specs.Lists.{stands}
use Rattle.xml_references.specs.Runs.{text_end}
use Rattle.xml_names.specs.Names.{space_end}
use Rattle.xml_markup.specs.Comments.{comment_end}
use Rattle.xml_markup.specs.Instructions.{instruction_end}
use Rattle.xml_declaration.specs.Declaration.{is_declaration, declaration_end}
use Rattle.xml_attributes.specs.declared.Tag.{Tag}
use Rattle.xml_attributes.specs.declared.Tag.TheVariants.{Start as Opens, Empty as Stands}
use Rattle.xml_tags.specs.Tags.{tag_at}
use Rattle.xml_tags.specs.EndTags.{end_tag_end}
use Rattle.xml_pieces.specs.declared.Kind.{Kind}
use Rattle.xml_pieces.specs.declared.Kind.TheVariants.{Text, Comment, Instruction, Declaration, Start, Empty, End}
use Rattle.xml_pieces.specs.declared.DocumentPart.{DocumentPart}
use Rattle.xml_pieces.specs.declared.DocumentPart.TheVariants.{Before, Inside, After}
use Rattle.xml_pieces.specs.declared.Scanned.{Scanned}
use Rattle.xml_pieces.specs.declared.Scanned.TheVariants.{Piece, Refused}
use Rattle.xml_pieces.specs.Pieces.{found, only_space, text_piece_at, bang_at, instructed, question_at, end_at, tagged, start_at, markup_at, piece_at}

-- ---- answers taken over
module _ (kind : Kind) (x : Option ℕ) where
  pub is_found : (j : ℕ) → x ≡ Some j → Piece kind j ≡ found kind x
  is_found j e = rw e

  pub not_found : x ≡ None → Refused Malformed ≡ found kind x
  not_found e = rw e

module _ (x : Result ℕ Reason) where
  pub is_over : (j : ℕ) → x ≡ Ok j → Piece Instruction j ≡ instructed x
  is_over j e = rw e

  pub is_refusing : (n : Reason) → x ≡ Err n → Refused n ≡ instructed x
  is_refusing n e = rw e

module _ (x : Result Tag Reason) where
  pub is_start : (tag : Tag) → x ≡ Ok tag → (j : ℕ) → tag ≡ Opens j → Piece Start j ≡ tagged x
  is_start tag e j f = rw (e, f)

  pub is_empty : (tag : Tag) → x ≡ Ok tag → (j : ℕ) → tag ≡ Stands j → Piece Empty j ≡ tagged x
  is_empty tag e j f = rw (e, f)

  pub is_malformed : (n : Reason) → x ≡ Err n → Refused n ≡ tagged x
  is_malformed n e = rw e

-- ---- text
module _ (s : List ℕ) (j : ℕ) where
  pub space_to_end : j ≡ length s → Piece Text j ≡ only_space s j
  space_to_end e = rw (eq-eqb j (length s) e)

  module _ (b : ℕ) (e : b ≡ get_or s j 0) where
    pub space_to_markup : (j ≡ length s → ⊥) → b ≡ 60 → Piece Text j ≡ only_space s j
    space_to_markup n f = rw (ne_eqb j (length s) n, ← e, eq-eqb b 60 f)

    pub space_to_text : (j ≡ length s → ⊥) → (b ≡ 60 → ⊥) → Refused Malformed ≡ only_space s j
    space_to_text n f = rw (ne_eqb j (length s) n, ← e, ne_eqb b 60 f)

module _ (s : List ℕ) (i : ℕ) (part : DocumentPart) (r : Scanned) where
  pub text_before : (j : ℕ) → part ≡ Before → j ≡ space_end s i → r ≡ only_space s j → r ≡ text_piece_at s i part
  unfolding text_piece_at
  text_before j p e f = rw (p, ← e) f

  pub text_inside : (x : Option ℕ) → part ≡ Inside → x ≡ text_end s i → r ≡ found Text x → r ≡ text_piece_at s i part
  unfolding text_piece_at
  text_inside x p e f = rw (p, ← e) f

  pub text_after : (j : ℕ) → part ≡ After → j ≡ space_end s i → r ≡ only_space s j → r ≡ text_piece_at s i part
  unfolding text_piece_at
  text_after j p e f = rw (p, ← e) f

  -- ---- tags
  pub end_inside_root : (x : Option ℕ) → part ≡ Inside → x ≡ end_tag_end s i → r ≡ found End x → r ≡ end_at s i part
  unfolding end_at
  end_inside_root x p e f = rw (p, ← e) f

  pub start_before : (x : Result Tag Reason) → part ≡ Before → x ≡ tag_at s i → r ≡ tagged x → r ≡ start_at s i part
  unfolding start_at
  start_before x p e f = rw (p, ← e) f

  pub start_inside : (x : Result Tag Reason) → part ≡ Inside → x ≡ tag_at s i → r ≡ tagged x → r ≡ start_at s i part
  unfolding start_at
  start_inside x p e f = rw (p, ← e) f

module _ (s : List ℕ) (i : ℕ) (part : DocumentPart) where
  pub end_before : part ≡ Before → Refused Malformed ≡ end_at s i part
  unfolding end_at
  end_before p = rw p

  pub end_after : part ≡ After → Refused Malformed ≡ end_at s i part
  unfolding end_at
  end_after p = rw p

  pub start_after : part ≡ After → Refused Malformed ≡ start_at s i part
  unfolding start_at
  start_after p = rw p

-- ---- "<!" and "<?"
module _ (s : List ℕ) (i : ℕ) (t : Bool) (e : t ≡ stands (text "<!--") s i) where
  pub a_comment : (x : Option ℕ) (r : Scanned) → t ≡ true → x ≡ comment_end s i → r ≡ found Comment x → r ≡ bang_at s i
  unfolding bang_at
  a_comment x r f g h = rw (← e, f, ← g) h

  module _ (f : t ≡ false) (u : Bool) (q : u ≡ stands (text "<!DOCTYPE") s i) where
    pub a_doctype : u ≡ true → Refused Unsupported ≡ bang_at s i
    unfolding bang_at
    a_doctype g = rw (← e, f, ← q, g)

    module _ (v : Bool) (z : v ≡ stands (text "<![CDATA[") s i) where
      pub a_cdata : u ≡ false → v ≡ true → Refused Unsupported ≡ bang_at s i
      unfolding bang_at
      a_cdata g h = rw (← e, f, ← q, g, ← z, h)

      pub no_bang : u ≡ false → v ≡ false → Refused Malformed ≡ bang_at s i
      unfolding bang_at
      no_bang g h = rw (← e, f, ← q, g, ← z, h)

module _ (s : List ℕ) (i : ℕ) (r : Scanned) where
  pub a_later_instruction : (x : Result ℕ Reason) → (i ≡ 0 → ⊥) → x ≡ instruction_end s i → r ≡ instructed x → r ≡ question_at s i
  unfolding question_at
  a_later_instruction x n e f = rw (ne_eqb i 0 n, ← e) f

  module _ (z : i ≡ 0) (t : Bool) (d : t ≡ is_declaration s) where
    pub a_declaration : (x : Option ℕ) → t ≡ true → x ≡ declaration_end s → r ≡ found Declaration x → r ≡ question_at s i
    unfolding question_at
    a_declaration x f e g = rw (eq-eqb i 0 z, ← d, f, ← e) g

    pub a_first_instruction : (x : Result ℕ Reason) → t ≡ false → x ≡ instruction_end s i → r ≡ instructed x → r ≡ question_at s i
    unfolding question_at
    a_first_instruction x f e g = rw (eq-eqb i 0 z, ← d, f, ← e) g

-- ---- the whole
module _ (s : List ℕ) (i : ℕ) (part : DocumentPart) (r : Scanned) (t : Bool) (e : t ≡ stands (text "<!") s i) where
  pub by_bang : t ≡ true → r ≡ bang_at s i → r ≡ markup_at s i part
  unfolding markup_at
  by_bang f g = rw (← e, f) g

  module _ (f : t ≡ false) (u : Bool) (q : u ≡ stands (text "<?") s i) where
    pub by_question : u ≡ true → r ≡ question_at s i → r ≡ markup_at s i part
    unfolding markup_at
    by_question g h = rw (← e, f, ← q, g) h

    module _ (g : u ≡ false) (v : Bool) (z : v ≡ stands (text "</") s i) where
      pub by_end : v ≡ true → r ≡ end_at s i part → r ≡ markup_at s i part
      unfolding markup_at
      by_end h k = rw (← e, f, ← q, g, ← z, h) k

      pub by_start : v ≡ false → r ≡ start_at s i part → r ≡ markup_at s i part
      unfolding markup_at
      by_start h k = rw (← e, f, ← q, g, ← z, h) k

module _ (s : List ℕ) (i : ℕ) (part : DocumentPart) (r : Scanned) (b : ℕ) (e : b ≡ get_or s i 0) where
  pub by_markup : b ≡ 60 → r ≡ markup_at s i part → r ≡ piece_at s i part
  unfolding piece_at
  by_markup f g = rw (← e, eq-eqb b 60 f) g

  pub by_text : (b ≡ 60 → ⊥) → r ≡ text_piece_at s i part → r ≡ piece_at s i part
  unfolding piece_at
  by_text f g = rw (← e, ne_eqb b 60 f) g
