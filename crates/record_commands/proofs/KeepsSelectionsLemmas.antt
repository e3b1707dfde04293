-- A life cycle status that was told of a file leaves each selection lawful.
use Rattle.std.proofs.Common.{◌≡◌, ℕ, Bool, true, false, cond, List, Option, Some, None, refl, sym, ap, ◌∙◌, subst, ◌==◌, ◌≤◌, IsTrue, IfSome, IsSomeAnd, if◌then◌else◌, option_map}
use Rattle.list_laws.proofs.FindLemmas.{find-map, find_alike}
use Rattle.file_model.specs.declared.descriptors.Descriptor.{Descriptor}
use Rattle.file_model.specs.declared.descriptors.Wanted.TheVariants.{Number}
use Rattle.file_model.specs.Files.{is_df, is_ef, lies_in, is_wanted, file_found}
use Rattle.file_model.specs.Selections.{current_ef}
use Rattle.card_commits.specs.Entries.{with_life_told}
use Rattle.record_commands.specs.Tables.{KeepsSelections}

module _ (number life : ℕ) where
  abbrev retold : Descriptor → Descriptor
  retold file = if file.number == number then record file { life = life } else file

  retold_number : (b : Bool) (file : Descriptor) → (cond b (record file { life = life }) file).number ≡ file.number
  retold_number true file = refl
  retold_number false file = refl

  found_retold : (files : List Descriptor) (at : ℕ) → file_found (with_life_told number life files) (Number at) ≡ option_map retold (file_found files (Number at))
  unfolding file_found
  found_retold files at =
      find-map (is_wanted (Number at)) retold files
      ∙ ap (option_map retold) (find_alike (λ (file : Descriptor). is_wanted (Number at) (retold file)) (is_wanted (Number at)) files
      (λ file. ap (λ (n : ℕ). n == at) (retold_number (file.number == number) file)))

  -- what doesn't hang on the life cycle
  module _ (P : Descriptor → Type 0) (alike : (file : Descriptor) → P file → P (record file { life = life })) where
    kept_by : (b : Bool) (file : Descriptor) → P file → P (cond b (record file { life = life }) file)
    kept_by true file holds = alike file holds
    kept_by false file holds = holds

    kept_in : (found : Option Descriptor) → IsSomeAnd found P → IsSomeAnd (option_map retold found) P
    kept_in None holds = holds
    kept_in (Some file) holds = kept_by (file.number == number) file holds

    kept_at : (files : List Descriptor) (at : ℕ) → IsSomeAnd (file_found files (Number at)) P → IsSomeAnd (file_found (with_life_told number life files) (Number at)) P
    kept_at files at holds = subst (λ (o : Option Descriptor). IsSomeAnd o P) (sym (found_retold files at)) (kept_in (file_found files (Number at)) holds)

  module _ (files : List Descriptor) where
    kept_ef : (df : ℕ) (ef : Option ℕ) → IfSome ef (λ at. IsSomeAnd (file_found files (Number at)) (λ file. IsTrue (is_ef file) × IsTrue (lies_in df file)))
        → IfSome ef (λ at. IsSomeAnd (file_found (with_life_told number life files) (Number at)) (λ file. IsTrue (is_ef file) × IsTrue (lies_in df file)))
    kept_ef df None holds = holds
    kept_ef df (Some at) holds = kept_at (λ file. IsTrue (is_ef file) × IsTrue (lies_in df file)) (λ file is. is) files at holds

    kept_current : (df : ℕ) (ef pointer : Option ℕ) (n : ℕ) → IsSomeAnd (current_ef files (record { df = df; ef = ef; pointer = pointer })) (λ file. (1 ≤ n) × (n ≤ file.count))
        → IsSomeAnd (current_ef (with_life_told number life files) (record { df = df; ef = ef; pointer = pointer })) (λ file. (1 ≤ n) × (n ≤ file.count))
    kept_current df None pointer n holds = holds
    kept_current df (Some at) pointer n holds = kept_at (λ file. (1 ≤ n) × (n ≤ file.count)) (λ file is. is) files at holds

    kept_pointer : (df : ℕ) (ef pointer : Option ℕ) (all : Option ℕ) → IfSome pointer (λ n. IsSomeAnd (current_ef files (record { df = df; ef = ef; pointer = all })) (λ file. (1 ≤ n) × (n ≤ file.count)))
        → IfSome pointer (λ n. IsSomeAnd (current_ef (with_life_told number life files) (record { df = df; ef = ef; pointer = all })) (λ file. (1 ≤ n) × (n ≤ file.count)))
    kept_pointer df ef None all holds = holds
    kept_pointer df ef (Some n) all holds = kept_current df ef all n holds

    life_keeps : KeepsSelections files (with_life_told number life files)
    life_keeps selection lawful = record {
      df = kept_at (λ file. IsTrue (is_df file)) (λ file is. is) files selection.df lawful.df;
      ef = kept_ef selection.df selection.ef lawful.ef;
      pointer = kept_pointer selection.df selection.ef selection.pointer selection.pointer lawful.pointer;
    }

    pub told_keeps : (told : List Descriptor) → told ≡ with_life_told number life files → KeepsSelections files told
    told_keeps told is = subst (KeepsSelections files) (sym is) life_keeps
