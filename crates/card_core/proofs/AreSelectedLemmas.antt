-- What is selected is there.
use Rattle.std.proofs.Common.{◌≡◌, ◌==◌, ℕ, zero, suc, Bool, true, false, List, [], ◌∷◌, Option, Some, None, sym, ◌∙◌, ap, subst, arith, All, IfSome, IsSomeAnd, slice_set, slice_index_or, if◌then◌else◌}
use Rattle.std.proofs.lemmas.List.Elements.{All-set, All-head, All-tail}
use Rattle.card_state.specs.States.{state_of}
use Rattle.card_state.specs.Soundness.{IsSound}
use Rattle.card_state.specs.SoundnessLaws.{StandingIsSound}
use Rattle.file_model.specs.declared.descriptors.Descriptor.{Descriptor}
use Rattle.file_model.specs.declared.selections.Selection.{Selection}
use Rattle.file_model.specs.declared.selections.TheConstants.Selection.{AT_START}
use Rattle.file_model.specs.Files.{descriptors_of, descriptors_in}
use Rattle.file_model.specs.Laws.{TablesTellFiles}
use Rattle.file_model.specs.Selections.{IsSelection}
use Rattle.file_model.specs.Channels.{selected_on, first_selection, basic_channel_alone}
use Rattle.file_model.proofs.AtStartLemmas.{start_is_selected}
use Rattle.file_model.specs.LawfulTrees.{AreSelected}
use Rattle.layout_laws.specs.Known.{StandingIsOfTable}
use Rattle.card_core.specs.Laws.{TheMfIsThere, TablesHaveRows}

pub mf_there : StandingIsSound → StandingIsOfTable → TablesTellFiles → TheMfIsThere
mf_there is_sound of_table tell store_mark told table agrees =
    let sound : IsSound agrees.state = (is_sound store_mark agrees.content agrees.state agrees.stands.long agrees.stands.decoded).1 in
    let same : agrees.state ≡ state_of table agrees.content = (of_table store_mark agrees.content table agrees.state agrees.stands).0 in
    let files : descriptors_in agrees.state ≡ descriptors_of table = ap descriptors_in same ∙ tell table agrees.content (subst IsSound same sound) in
    subst (λ (list : List Descriptor). IsSelection list AT_START) files (start_is_selected agrees.state sound)

pub have_rows : StandingIsSound → StandingIsOfTable → TablesHaveRows
unfolding state_of
have_rows is_sound of_table store_mark told table agrees =
    let sound : IsSound agrees.state = (is_sound store_mark agrees.content agrees.state agrees.stands.long agrees.stands.decoded).1 in
    let same : agrees.state ≡ state_of table agrees.content = (of_table store_mark agrees.content table agrees.state agrees.stands).0 in
    let its : IsSound (state_of table agrees.content) = subst IsSound same sound in (
      record {
        shelves = λ i j d less low. (its.distinct_rows i j d less low).shelf;
        sequences = λ i j d less low. (its.distinct_rows i j d less low).sequence;
        texts = λ k d low. (its.rows k d low).text;
        few_texts = its.texts;
      },
      λ k d low. (its.rows k d low).sequence,
    )

pub basic_selected : (files : List Descriptor) → IsSelection files AT_START → AreSelected files basic_channel_alone
basic_selected files start zero d low = start
basic_selected files start (suc zero) d low = tt
basic_selected files start (suc (suc zero)) d low = tt
basic_selected files start (suc (suc (suc zero))) d low = tt
basic_selected files start (suc (suc (suc (suc k)))) d low = absurd (omega (arith, low))

pub set_selected : (files : List Descriptor) (channels : List (Option Selection)) (channel : ℕ) (selection : Selection) → IsSelection files selection → AreSelected files channels → AreSelected files (slice_set channels channel (Some selection))
set_selected files channels channel selection is all = All-set (λ (each : Option Selection). IfSome each (IsSelection files)) channels channel (Some selection) is all

-- ---- a channel that is opened

all_at : {X : Type 0} (P : X → Type 0) (xs : List X) (k : ℕ) (d : X) → All P xs → P d → P (slice_index_or xs k d)
all_at P [] k d all default = default
all_at P (x ∷ xs) zero d all default = All-head P x xs all
all_at P (x ∷ xs) (suc k) d all default = all_at P xs k d (All-tail P x xs all) default

first_when : (basic : Bool) (files : List Descriptor) (selection : Selection) → IsSelection files AT_START → IsSelection files selection → IsSelection files (if basic then AT_START else record { df = selection.df; ef = None; pointer = None })
first_when true files selection start is = start
first_when false files selection start is = record { df = is.df; ef = tt; pointer = tt }

opened_from : (files : List Descriptor) (channels opened : List (Option Selection)) (from number : ℕ) (found : Option Selection) → IsSelection files AT_START → AreSelected files channels → IfSome found (IsSelection files)
    → IsSomeAnd found (λ selection. opened ≡ slice_set channels number (Some (first_selection from selection))) → AreSelected files opened
opened_from files channels opened from number None start all is opens = absurd opens
opened_from files channels opened from number (Some selection) start all is opens =
    subst (λ (now : List (Option Selection)). AreSelected files now) (sym opens) (set_selected files channels number (first_selection from selection) (first_when (from == 0) files selection start is) all)

pub opened_selected : (files : List Descriptor) (channels opened : List (Option Selection)) (from number : ℕ) → IsSelection files AT_START → AreSelected files channels
    → IsSomeAnd (selected_on channels from) (λ selection. opened ≡ slice_set channels number (Some (first_selection from selection))) → AreSelected files opened
opened_selected files channels opened from number start all opens =
    opened_from files channels opened from number (selected_on channels from) start all (all_at (λ (each : Option Selection). IfSome each (IsSelection files)) channels from None all tt) opens
