-- What is selected at the start is there, in any sound state.
use Rattle.std.proofs.Common.{◌≡◌, ◌<◌, Some, refl, sym, ◌∙◌, ap, subst, find, AllPairs, IsTrue, IsSomeAnd, option_map, ◌==◌}
use Rattle.list_laws.proofs.FindLemmas.{find-map, numbered_found}
use Rattle.card_state.specs.Persistent.{Persistent}
use Rattle.card_state.specs.Soundness.{mf, IsSound}
use Rattle.file_model.specs.Files.{is_df, is_wanted, descriptor_in, descriptors_in, file_found}
use Rattle.file_model.specs.Selections.{IsSelection}
use Rattle.file_model.specs.declared.descriptors.Wanted.TheVariants.{Number}
use Rattle.file_model.specs.declared.selections.TheConstants.Selection.{AT_START}

-- the MF is the file with the number 0
mf_is_found : (state : Persistent) → IsSound state → file_found (descriptors_in state) (Number 0) ≡ Some (descriptor_in mf)
unfolding descriptor_in descriptors_in file_found
mf_is_found state sound =
    let ascend : AllPairs (λ a b. a.number < b.number) state.files = λ i j d less low. (sound.distinct_files i j d less low).number in
    let found : find (λ file. file.number == 0) state.files ≡ Some mf = numbered_found (λ file. file.number) state.files mf ascend sound.mf_there in
    find-map (is_wanted (Number 0)) descriptor_in state.files ∙ ap (option_map descriptor_in) found

pub start_is_selected : (state : Persistent) → IsSound state → IsSelection (descriptors_in state) AT_START
unfolding descriptor_in
start_is_selected state sound = record {
  df = subst (λ found. IsSomeAnd found (λ file. IsTrue (is_df file))) (sym (mf_is_found state sound)) refl;
  ef = _;
  pointer = _;
}
