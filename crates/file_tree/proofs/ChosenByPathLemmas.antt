-- A path, two bytes at a time, and the DF above.
use Rattle.std.proofs.Common.{get_or, ◌≡◌, ℕ, ◌-◌, ◌%◌, ◌<◌, List, [], ◌∷◌, length, take, drop, Option, Some, None, refl, sym, ap, ◌∙◌, arith, ◌≢◌, ◌==◌, find, option_and_then, option_map, unwrap_or, eqb-true, take_all, length-drop}
use Rattle.std.specs.Int.{from_be_bytes, w16}
use Rattle.std.proofs.lemmas.List.Elements.{All-contains}
use Rattle.list_laws.proofs.FindLemmas.{find_Some}
use Rattle.uicc_types.specs.declared.identifiers.FileId.{FileId}
use Rattle.file_model.specs.declared.descriptors.Descriptor.{Descriptor}
use Rattle.file_model.specs.declared.descriptors.Wanted.TheVariants.{Number, Child, ChildDf}
use Rattle.file_model.specs.Files.{file_found}
use Rattle.file_model.specs.Selections.{parent_of, ids_of, chosen_by_path}
use Rattle.file_tree.specs.Tables.{HaveParentsFirst}

abbrev pub id_at : List ℕ → FileId
id_at path = record { 0 = from_be_bytes w16 (get_or path 0 0 ∷ get_or path 1 0 ∷ []) }

pub path_end : (files : List Descriptor) (df : ℕ) (path : List ℕ) → length path < 2 → chosen_by_path files df (ids_of path) ≡ file_found files (Number df)
unfolding chosen_by_path
path_end files df [] short = refl
path_end files df (x ∷ []) short = refl
path_end files df (x ∷ y ∷ path) short = absurd (omega (arith, short))

pub path_last : (files : List Descriptor) (df : ℕ) (path : List ℕ) → length path ≡ 2 → chosen_by_path files df (ids_of path) ≡ file_found files (Child df (id_at path))
unfolding chosen_by_path
path_last files df [] two = absurd (omega (arith, two))
path_last files df (x ∷ []) two = absurd (omega (arith, two))
path_last files df (x ∷ y ∷ []) two = refl
path_last files df (x ∷ y ∷ z ∷ path) two = absurd (omega (arith, two))

pub path_more : (files : List Descriptor) (df : ℕ) (path : List ℕ) → 2 < length path → length path % 2 ≡ 0
    → chosen_by_path files df (ids_of path) ≡ option_and_then (λ child. chosen_by_path files child.number (ids_of (drop 2 path))) (file_found files (ChildDf df (id_at path)))
unfolding chosen_by_path
path_more files df [] long even = absurd (omega (arith, long))
path_more files df (x ∷ []) long even = absurd (omega (arith, long))
path_more files df (x ∷ y ∷ []) long even = absurd (omega (arith, long))
path_more files df (x ∷ y ∷ z ∷ []) long even = absurd (omega (arith, even))
path_more files df (x ∷ y ∷ z ∷ w ∷ path) long even = refl

-- the same, with what was found for the first identifier
pub path_from : (files : List Descriptor) (df : ℕ) (path : List ℕ) (id : ℕ) (found : Option Descriptor) → 2 < length path → length path % 2 ≡ 0 → id ≡ (id_at path).0
    → found ≡ file_found files (ChildDf df (record { 0 = id })) → chosen_by_path files df (ids_of path) ≡ option_and_then (λ child. chosen_by_path files child.number (ids_of (drop 2 path))) found
path_from files df path id found long even named is =
    path_more files df path long even
    ∙ ap (option_and_then (λ (child : Descriptor). chosen_by_path files child.number (ids_of (drop 2 path)))) (ap (λ (n : ℕ). file_found files (ChildDf df (record { 0 = n }))) (sym named) ∙ sym is)

-- what is left behind the first identifier
pub left_behind : (path : List ℕ) → take (length path - 2) (drop 2 path) ≡ drop 2 path
left_behind path = take_all (length path - 2) (drop 2 path) (omega (arith, length-drop 2 path))

-- the DF above has a smaller number
pub parent_less : (files : List Descriptor) (df : ℕ) → HaveParentsFirst files → df ≢ 0 → parent_of files df < df
unfolding file_found
parent_less files df first not_mf = of_found (find (λ (f : Descriptor). f.number == df) files) refl
  where
    of_found : (o : Option Descriptor) → find (λ (f : Descriptor). f.number == df) files ≡ o → unwrap_or (option_map (λ (f : Descriptor). f.parent) o) 0 < df
    of_found None is = omega (arith, not_mf)
    of_found (Some file) is =
        let found = find_Some (λ (f : Descriptor). f.number == df) files file is in
        let numbered : file.number ≡ df = eqb-true file.number df found.1 in
        omega (arith, All-contains (λ (f : Descriptor). f.number ≢ 0 → f.parent < f.number) files file first found.0 (λ none. not_mf (omega (arith, none, numbered))), numbered)
