-- Which attributes an element's role lists (document 01, "Known elements").
-- Assumes nothing.
use Rattle.std.specs.Prelude.{ℕ, Bool, false, List, [], ◌∷◌, eqb}
use Rattle.text_scan.specs.Bytes.{text}
use Rattle.text_scan.specs.Choice.{pick, ◌or◌}
use Rattle.judge_paths.specs.Roles.{Root, Id, Code, Title, EffectiveTime, SetId, VersionNumber, OrganisationId, Telecom, OperationCode}

-- elements of these roles list these attributes
pub record Lists : Type 0 where
  pub roles : List ℕ
  pub names : List (List ℕ)

abbrev pub lists : List ℕ → List (List ℕ) → Lists
lists roles names = record { roles = roles; names = names }

abbrev pub attribute_table : List Lists
attribute_table =
    lists (Root ∷ []) (text "xmlns" ∷ text "xmlns:xsi" ∷ text "xsi:schemaLocation" ∷ [])
    ∷ lists (Id ∷ OrganisationId ∷ []) (text "root" ∷ text "extension" ∷ [])
    ∷ lists (SetId ∷ []) (text "root" ∷ [])
    ∷ lists (Code ∷ OperationCode ∷ []) (text "code" ∷ text "codeSystem" ∷ text "displayName" ∷ [])
    ∷ lists (EffectiveTime ∷ VersionNumber ∷ Telecom ∷ []) (text "value" ∷ [])
    ∷ lists (Title ∷ []) (text "mediaType" ∷ [])
    ∷ []

abbrev pub is_role : ℕ → List ℕ → Bool
is_role r [] = false
is_role r (q ∷ qs) = eqb r q or is_role r qs

-- by the first row of the role; a role without a row lists none
unfoldable pub listed_names : ℕ → List Lists → List (List ℕ)
listed_names r [] = []
listed_names r (x ∷ xs) = pick (is_role r x.roles) x.names (listed_names r xs)
