-- What is selected, and what SELECT finds (ETSI TS 102 221, 8.4 and 11.1.1).
use Rattle.std.specs.Prelude.{ℕ, ◌≤◌, ◌==◌, ◌&&◌, if◌then◌else◌, List, [], ◌∷◌, ◌++◌, filter, find, IsTrue, Option, Some, None, option_map, option_and_then, unwrap_or, IfSome, IsSomeAnd}
use Rattle.std.specs.Int.{from_be_bytes, w16}
use Rattle.uicc_types.specs.declared.identifiers.FileId.{FileId}
use Rattle.apdu_form.specs.Model.{Apdu}
use Rattle.file_model.specs.declared.descriptors.Descriptor.{Descriptor}
use Rattle.file_model.specs.declared.descriptors.Wanted.TheVariants.{Number, Child, ChildDf}
use Rattle.file_model.specs.declared.selections.Selection.{Selection}
use Rattle.file_model.specs.Files.{is_df, is_ef, lies_in, file_found}

-- the current EF, if there is one
abbrev pub current_ef : List Descriptor → Selection → Option Descriptor
current_ef files selection = option_and_then (λ number. file_found files (Number number)) selection.ef

-- a DF of the card is selected, and no EF or one in it; the record pointer is none, or the number of a record of that EF
pub record IsSelection (files : List Descriptor) (selection : Selection) : Type 0 where
  pub df : IsSomeAnd (file_found files (Number selection.df)) (λ file. IsTrue (is_df file))
  pub ef : IfSome selection.ef (λ number. IsSomeAnd (file_found files (Number number)) (λ file. IsTrue (is_ef file) × IsTrue (lies_in selection.df file)))
  pub pointer : IfSome selection.pointer (λ number. IsSomeAnd (current_ef files selection) (λ file. (1 ≤ number) × (number ≤ file.count)))

-- A file was selected. A DF leaves no current EF, an EF makes the DF that it lies in the current one, and there is no record
-- pointer.
unfoldable pub selection_of : Descriptor → Selection
selection_of file =
    if is_df file
    then record { df = file.number; ef = None; pointer = None }
    else record { df = file.parent; ef = Some file.number; pointer = None }

-- ---- by identifier

-- the DF that this one lies in; the MF lies in itself
abbrev pub parent_of : List Descriptor → ℕ → ℕ
parent_of files df = unwrap_or (option_map (λ file. file.parent) (file_found files (Number df))) 0

-- Where a file is looked for by its identifier, in this order: the MF, the current DF, the files in it, the DF that it lies
-- in, and the DFs that lie beside it.
abbrev pub files_in_reach : List Descriptor → ℕ → List Descriptor
files_in_reach files df =
    filter (λ file. file.number == 0) files
    ++ filter (λ file. file.number == df) files
    ++ filter (lies_in df) files
    ++ filter (λ file. file.number == parent_of files df) files
    ++ filter (λ file. lies_in (parent_of files df) file && is_df file) files

-- the first of them that has this identifier
unfoldable pub chosen_by_identifier : List Descriptor → ℕ → FileId → Option Descriptor
chosen_by_identifier files df id = find (λ file. file.id.0 == id.0) (files_in_reach files df)

-- ---- by path

-- two bytes of data each name a file
abbrev pub ids_of : List ℕ → List FileId
ids_of (high ∷ low ∷ bytes) = record { 0 = from_be_bytes w16 (high ∷ low ∷ []) } ∷ ids_of bytes
ids_of _ = []

-- from a DF on, each identifier names a file in the one before; all but the last have to name DFs
unfoldable pub chosen_by_path : List Descriptor → ℕ → List FileId → Option Descriptor
chosen_by_path files df [] = file_found files (Number df)
chosen_by_path files df (id ∷ []) = file_found files (Child df id)
chosen_by_path files df (id ∷ next ∷ path) = option_and_then (λ child. chosen_by_path files child.number (next ∷ path)) (file_found files (ChildDf df id))

-- ---- SELECT

-- the DF that the current one lies in; the MF has none
abbrev pub chosen_above : List Descriptor → ℕ → Option Descriptor
chosen_above files df = if df == 0 then None else file_found files (Number (parent_of files df))

-- the file that the first identifier of the data names
abbrev pub chosen_first : List Descriptor → ℕ → List FileId → Option Descriptor
chosen_first files df [] = None
chosen_first files df (id ∷ ids) = chosen_by_identifier files df id

-- By P1: a file identifier, the DF above, a path from the MF or from the current DF. No application is there to be selected
-- by its AID (P1 04).
unfoldable pub chosen : List Descriptor → Selection → Apdu → Option Descriptor
chosen files selection apdu =
    if apdu.p1 == 0x00 then chosen_first files selection.df (ids_of apdu.body)
    else if apdu.p1 == 0x03 then chosen_above files selection.df
    else if apdu.p1 == 0x08 then chosen_by_path files 0 (ids_of apdu.body)
    else if apdu.p1 == 0x09 then chosen_by_path files selection.df (ids_of apdu.body)
    else None
