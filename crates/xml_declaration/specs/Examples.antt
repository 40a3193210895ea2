-- Worked examples of the definitions, each computed.
-- Assumes nothing.
use Rattle.std.specs.Prelude.{◌≡◌, refl, true, false, None, Some}
use Rattle.text_scan.specs.Bytes.{text}
use Rattle.text_scan.specs.Lists.{begins, run_end}
use Rattle.xml_names.specs.Values.{opened, equals_at}
use Rattle.xml_declaration.specs.Declaration.{is_declaration, valued, setting_end, standalone_end, closing_end, versioned, declaration_end}

-- ---- the XML declaration
declaration_plain : declaration_end (text "<?xml version=\"1.0\"?><a/>") ≡ Some 21
unfolding begins run_end opened equals_at valued setting_end standalone_end closing_end versioned declaration_end
declaration_plain = refl

declaration_full : declaration_end (text "<?xml\tversion = '1.0'\nencoding='uTf-8' standalone=\"no\" ?><a/>") ≡ Some 57
unfolding begins run_end opened equals_at valued setting_end standalone_end closing_end versioned declaration_end
declaration_full = refl

declaration_11 : declaration_end (text "<?xml version=\"1.1\"?><a/>") ≡ None
unfolding begins run_end opened equals_at valued setting_end standalone_end closing_end versioned declaration_end
declaration_11 = refl

declaration_latin : declaration_end (text "<?xml version=\"1.0\" encoding=\"latin-1\"?>") ≡ None
unfolding begins run_end opened equals_at valued setting_end standalone_end closing_end versioned declaration_end
declaration_latin = refl

declaration_order : declaration_end (text "<?xml version='1.0' standalone='no' encoding='UTF-8'?>") ≡ None
unfolding begins run_end opened equals_at valued setting_end standalone_end closing_end versioned declaration_end
declaration_order = refl

declaration_no_space : declaration_end (text "<?xml version='1.0'encoding='UTF-8'?>") ≡ None
unfolding begins run_end opened equals_at valued setting_end standalone_end closing_end versioned declaration_end
declaration_no_space = refl

declaration_quotes : declaration_end (text "<?xml version='1.0\"?>") ≡ None
unfolding begins run_end opened equals_at valued setting_end standalone_end closing_end versioned declaration_end
declaration_quotes = refl

declaration_standalone : declaration_end (text "<?xml version='1.0' standalone='YES'?>") ≡ None
unfolding begins run_end opened equals_at valued setting_end standalone_end closing_end versioned declaration_end
declaration_standalone = refl

-- what the document begins with
begins_declaration : is_declaration (text "<?xml ") ≡ true
unfolding begins is_declaration
begins_declaration = refl

begins_instruction : is_declaration (text "<?xml-stylesheet x?>") ≡ false
unfolding begins is_declaration
begins_instruction = refl
