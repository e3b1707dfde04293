-- After each command what is selected is there, in any sound state.
use Rattle.std.proofs.Common.{◌≡◌, ℕ, Bool, cond, List, [], ◌∷◌, length, Option, Some, Result, Ok, Err, sym, ap, subst, ⊎_elim, ◌==◌, not, Contains, IfSome, IsSomeAnd, IsTrue, MatchResult, option_map}
use Rattle.std.proofs.lemmas.Bool.{cases_Bool}
use Rattle.std.proofs.lemmas.Option.{option_and_then_some}
use Rattle.std.proofs.lemmas.List.Elements.{All-set}
use Rattle.list_laws.proofs.CondLemmas.{mapped_Some}
use Rattle.list_laws.proofs.FindLemmas.{numbered_found}
use Rattle.uicc_types.specs.declared.answers.StatusWord.{StatusWord}
use Rattle.card_state.specs.Changing.{with_file_at}
use Rattle.card_state.specs.Kinds.{transparent_kind}
use Rattle.card_state.specs.Persistent.{File, Persistent}
use Rattle.card_state.specs.Soundness.{IsSound}
use Rattle.card_state.specs.StateLaws.{file_with_number}
use Rattle.file_model.specs.declared.descriptors.Descriptor.{Descriptor}
use Rattle.file_model.specs.declared.descriptors.Wanted.TheVariants.{Number}
use Rattle.file_model.specs.declared.selections.Selection.{Selection}
use Rattle.file_model.specs.Files.{descriptor_in, descriptors_in, is_df, file_found}
use Rattle.apdu_form.specs.Fields.{has_no_parameters, has_data}
use Rattle.file_model.specs.Outcomes.{is_deactivated, last_of}
use Rattle.file_model.specs.Selections.{IsSelection, selection_of}
use Rattle.file_model.specs.declared.asked.NewFile.{NewFile}
use Rattle.file_model.specs.Creating.{is_there, file_made, place_for, made_in, creating, created}
use Rattle.file_model.specs.Deleting.{is_in_use, deleting, deleted}
use Rattle.file_model.specs.LawfulTrees.{AreSelected, KeepsSelected}
use Rattle.file_model.specs.TreeOutcomes.{TreeOutcome, settled_tree, df_on, child_named}
use Rattle.file_model.specs.Resizing.{size_asked, may_have, has_no_room, file_resized, resizing, resized}
use Rattle.file_model.specs.Rooms.{room_at, free_number}
use Rattle.file_model.specs.Templates.{asked_in}
use Rattle.file_model.proofs.FileMadeLemmas.{IsNewNumber, new_number}
use Rattle.file_model.proofs.IsLawfulTreeCommandLemmas.{unless_so, given_so, Keeps, each_channel, created_keeps, made_selected, number_made, df_there, all_left, child_numbered, resized_keeps}
use Rattle.file_model.proofs.ChildNamedLemmas.{child_there}

abbrev IsThere : Persistent → TreeOutcome → Type 0
IsThere state outcome = AreSelected (descriptors_in (last_of state outcome.passed)) outcome.channels

abbrev Any : StatusWord → Type 0
Any status = Unit {0}

settled_there : (state : Persistent) (channels : List (Option Selection)) (r : Result TreeOutcome StatusWord) → AreSelected (descriptors_in state) channels → MatchResult r (IsThere state) Any → IsThere state (settled_tree channels r)
settled_there state channels (Ok outcome) selected is = is
settled_there state channels (Err status) selected is = selected

made_there : (state : Persistent) (channels : List (Option Selection)) (channel df number place : ℕ) (asked : NewFile)
    → AreSelected (descriptors_in state) channels → IsSomeAnd (file_found (descriptors_in state) (Number df)) (λ it. IsTrue (is_df it)) → IsNewNumber state df number → IsThere state (creating state channels channel (file_made number df place asked))
unfolding creating
made_there state channels channel df number place asked selected has new =
    let file : File = file_made number df place asked in
    let named : file.number ≡ number = number_made number df place asked in
    let next : Persistent = with_file_at state file.number (Some file) in
    let same : with_file_at state number (Some file) ≡ next = ap (λ (n : ℕ). with_file_at state n (Some file)) (sym named) in
    let keeps : Keeps state next = subst (Keeps state) same (created_keeps state df number file new named) in
    let chosen : IsSelection (descriptors_in next) (selection_of (descriptor_in file)) =
    subst (λ (s : Persistent). IsSelection (descriptors_in s) (selection_of (descriptor_in file))) same (made_selected state df number place asked new has) in
    All-set (λ (c : Option Selection). IfSome c (IsSelection (descriptors_in next))) channels channel (Some (selection_of (descriptor_in file))) chosen (each_channel state next channels keeps selected)

pub created_there : KeepsSelected created
unfolding created
created_there state seen channels channel apdu sound selected is_open =
    let P : TreeOutcome → Type 0 = IsThere state in
    let df : ℕ = df_on channels channel in
    settled_there state channels (created state seen channels channel apdu) selected (
    unless_so P Any (not (has_no_parameters apdu)) _ _ tt (λ _.
    unless_so P Any (not (has_data apdu)) _ _ tt (λ _.
    unless_so P Any (not seen.adm1) _ _ tt (λ _.
    given_so P Any (asked_in apdu.body) _ _ tt (λ asked read.
    unless_so P Any (is_there (descriptors_in state) df asked) _ _ tt (λ _.
    given_so P Any (made_in state df asked) _ _ tt (λ file made.
    option_and_then_some (λ place. option_map (λ number. file_made number df place asked) (free_number state df)) (place_for state asked) file made
    (λ place found with_number.
    let numbered = mapped_Some (λ number. file_made number df place asked) (free_number state df) file with_number in
    subst (λ (f : File). IsThere state (creating state channels channel f)) numbered.2
    (made_there state channels channel df numbered.0 place asked selected (df_there state channels channel sound selected) (new_number state df numbered.0 numbered.1))))))))))

pub deleted_there : KeepsSelected deleted
unfolding deleted deleting
deleted_there state seen channels channel apdu sound selected is_open =
    let P : TreeOutcome → Type 0 = IsThere state in
    let df : ℕ = df_on channels channel in
    settled_there state channels (deleted state seen channels channel apdu) selected (
    unless_so P Any (not (has_no_parameters apdu)) _ _ tt (λ _.
    unless_so P Any (not (length apdu.body == 2)) _ _ tt (λ _.
    given_so P Any (child_named (descriptors_in state) df apdu.body) _ _ tt (λ told named.
    unless_so P Any (not seen.adm1) _ _ tt (λ _.
    unless_so P Any (is_in_use (descriptors_in state) channels told) _ _ tt (λ unused.
    all_left state channels told (child_numbered state df apdu.body told sound named) unused selected))))))

-- a file that is there, of this size already or of another
file_there : (state : Persistent) (channels : List (Option Selection)) (size : ℕ) (file : File) → IsSound state → AreSelected (descriptors_in state) channels → Contains state.files file → IsThere state (resizing state channels size (descriptor_in file))
unfolding resizing descriptor_in
file_there state channels size file sound selected there =
    let new : File = file_resized (room_at state size) size file in
    let this : file_with_number state file.number ≡ Some file = numbered_found (λ (f : File). f.number) state.files file (λ i j d less low. (sound.distinct_files i j d less low).number) there in
    let done : AreSelected (descriptors_in (with_file_at state file.number (Some new))) channels =
    each_channel state (with_file_at state file.number (Some new)) channels (resized_keeps state (room_at state size) size file this) selected in
    let next : Persistent = with_file_at state file.number (option_map (file_resized (room_at state size) size) (file_with_number state file.number)) in
    ⊎_elim {C = AreSelected (descriptors_in (last_of state (cond (file.size == size) [] (next ∷ [])))) channels}
    (λ same. subst (λ (b : Bool). AreSelected (descriptors_in (last_of state (cond b [] (next ∷ [])))) channels) (sym same) selected)
    (λ other. subst (λ (b : Bool). AreSelected (descriptors_in (last_of state (cond b [] (next ∷ [])))) channels) (sym other)
    (subst (λ (o : Option File). AreSelected (descriptors_in (with_file_at state file.number (option_map (file_resized (room_at state size) size) o))) channels) (sym this) done))
    (cases_Bool (file.size == size))

pub resized_there : KeepsSelected resized
unfolding resized
resized_there state seen channels channel apdu sound selected is_open =
    let P : TreeOutcome → Type 0 = IsThere state in
    let df : ℕ = df_on channels channel in
    let size : ℕ = size_asked apdu in
    settled_there state channels (resized state seen channels channel apdu) selected (
    unless_so P Any (not (has_no_parameters apdu)) _ _ tt (λ _.
    unless_so P Any (not (length apdu.body == 4)) _ _ tt (λ _.
    given_so P Any (child_named (descriptors_in state) df apdu.body) _ _ tt (λ told named.
    unless_so P Any (not (told.kind == transparent_kind)) _ _ tt (λ _.
    unless_so P Any (is_deactivated told) _ _ tt (λ _.
    unless_so P Any (not seen.adm1) _ _ tt (λ _.
    unless_so P Any (not (may_have size)) _ _ tt (λ _.
    unless_so P Any (has_no_room state size told) _ _ tt (λ _.
    let child = child_there state df apdu.body told named in
    subst (λ (d : Descriptor). IsThere state (resizing state channels size d)) child.2 (file_there state channels size child.0 sound selected child.1.there))))))))))
