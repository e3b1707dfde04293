-- Each file may be selected, and short file identifiers are small.
use Rattle.std.proofs.Common.{get_or, ◌≡◌, ℕ, Bool, true, false, ◌<◌, Option, Some, refl, sym, ap, ◌∙◌, subst, ⊎_elim, ◌≤◌, arith, ◌==◌, ◌&&◌, not, Contains, AllPairs, IsTrue, option_map, IsSomeAnd, eq-eqb, ne_eqb}
use Rattle.std.proofs.lemmas.List.Elements.{All-map, All-contains_itself}
use Rattle.list_laws.proofs.FindLemmas.{numbered_found, find-map}
use Rattle.card_state.specs.Kinds.{df_kind, is_ef_kind}
use Rattle.card_state.specs.Persistent.{File, Persistent}
use Rattle.card_state.specs.Soundness.{IsDf, IsEf, IsInTree, IsSoundFile, IsSound}
use Rattle.file_model.specs.declared.descriptors.Descriptor.{Descriptor}
use Rattle.file_model.specs.declared.descriptors.Wanted.TheVariants.{Number}
use Rattle.file_model.specs.Files.{descriptor_in, descriptors_in, is_df, is_ef, lies_in, file_found}
use Rattle.file_model.specs.Selections.{IsSelection, selection_of}
use Rattle.file_model.proofs.SelectionOfLemmas.{selection_of_df, selection_of_ef}
use Rattle.file_tree.specs.Tables.{MayBeSelected, HaveShortIds}

abbrev IsOfDf : Option Descriptor → Type 0
IsOfDf found = IsSomeAnd found (λ df. IsTrue (is_df df))

found_in : (state : Persistent) → IsSound state → (file : File) → Contains state.files file → file_found (descriptors_in state) (Number file.number) ≡ Some (descriptor_in file)
unfolding descriptors_in descriptor_in file_found
found_in state sound file there =
    let ascend : AllPairs (λ a b. a.number < b.number) state.files = λ i j d less low. (sound.distinct_files i j d less low).number in
    find-map (λ (d : Descriptor). d.number == file.number) descriptor_in state.files ∙ ap (option_map descriptor_in) (numbered_found (λ (f : File). f.number) state.files file ascend there)

above_found : (state : Persistent) → IsSound state → (file : File) → IsInTree state.files file → IsOfDf (file_found (descriptors_in state) (Number file.parent))
unfolding descriptor_in
above_found state sound file tree =
    subst IsOfDf (sym (ap (λ (n : ℕ). file_found (descriptors_in state) (Number n)) (sym tree.of_it) ∙ found_in state sound tree.parent tree.there)) (eq-eqb tree.parent.kind df_kind tree.df)

df_lawful : (state : Persistent) → IsSound state → (file : File) → Contains state.files file → IsDf file → IsSelection (descriptors_in state) (selection_of (descriptor_in file))
unfolding descriptor_in
df_lawful state sound file there df =
    subst (IsSelection (descriptors_in state)) (sym (selection_of_df (descriptor_in file) (eq-eqb file.kind df_kind df)))
    (record { df = subst IsOfDf (sym (found_in state sound file there)) (eq-eqb file.kind df_kind df); ef = cc; pointer = cc })

ef_lawful : (state : Persistent) → IsSound state → (file : File) → Contains state.files file → IsEf file → IsInTree state.files file → IsSelection (descriptors_in state) (selection_of (descriptor_in file))
unfolding descriptor_in
ef_lawful state sound file there ef tree =
    let no_df : (file.kind == df_kind) ≡ false = ne_eqb file.kind df_kind (λ df. let both : true ≡ false = sym ef ∙ ap is_ef_kind df in cc) in
    let lies : (file.parent == file.parent && not (file.number == 0)) ≡ true =
    ap (λ (b : Bool). b && not (file.number == 0)) (eq-eqb file.parent file.parent refl) ∙ ap not (ne_eqb file.number 0 (λ none. omega (arith, tree.above, none))) in
    subst (IsSelection (descriptors_in state)) (sym (selection_of_ef (descriptor_in file) no_df))
    (record {
      df = above_found state sound file tree;
      ef = subst (λ (o : Option Descriptor). IsSomeAnd o (λ f. IsTrue (is_ef f) × IsTrue (lies_in file.parent f))) (sym (found_in state sound file there)) (ef, lies);
      pointer = cc;
    })

one_lawful : (state : Persistent) → IsSound state → (file : File) → Contains state.files file → IsSoundFile state.is_wide state.files file → IsSelection (descriptors_in state) (selection_of (descriptor_in file))
one_lawful state sound file there s =
    ⊎_elim {C = IsSelection (descriptors_in state) (selection_of (descriptor_in file))}
    (λ df. df_lawful state sound file there df)
    (λ ef. ⊎_elim {C = IsSelection (descriptors_in state) (selection_of (descriptor_in file))} (λ is_mf. df_lawful state sound file there (ap (λ (f : File). f.kind) is_mf)) (λ tree. ef_lawful state sound file there ef tree) s.tree) s.kind

pub all_lawful : (state : Persistent) → IsSound state → MayBeSelected (descriptors_in state)
unfolding descriptors_in
all_lawful state sound =
    All-map (λ (f : Descriptor). IsSelection (descriptors_in state) (selection_of f)) descriptor_in state.files (λ k d low.
    one_lawful state sound (get_or state.files k d) (All-contains_itself state.files k d low) (sound.files k d low))

pub all_fit : (state : Persistent) → IsSound state → HaveShortIds (descriptors_in state)
unfolding descriptors_in descriptor_in
all_fit state sound =
    All-map (λ (f : Descriptor). f.short ≤ 30) descriptor_in state.files (λ k d low.
    let s = sound.files k d low in
    ⊎_elim {C = (get_or state.files k d).short ≤ 30} (λ df. omega (arith, (s.df df).short)) (λ ef. (s.ef ef).short) s.kind)
