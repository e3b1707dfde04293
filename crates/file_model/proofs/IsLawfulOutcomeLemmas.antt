-- What a command comes to that changes one file, or none.
use Rattle.std.proofs.Common.{get_or, ◌≡◌, ℕ, ◌≤◌, List, [], ◌∷◌, length, refl, sym, ◌∙◌, ap, subst, ⊎_elim, arith, ◌⊎◌, ◌==◌, if◌then◌else◌, Contains}
use Rattle.std.proofs.lemmas.Bool.{cases_eq, eq-eqb, ne_eqb, cond-true, cond-false}
use Rattle.std.proofs.lemmas.List.Elements.{All-nil, All-cons, All-map, All-contains_itself}
use Rattle.uicc_types.specs.declared.answers.StatusWord.{StatusWord}
use Rattle.uicc_types.specs.declared.answers.TheConstants.StatusWord.{DONE, END_OF_FILE, FILE_DEACTIVATED}
use Rattle.card_state.specs.Changes.{Change}
use Rattle.card_state.specs.Kinds.{activated, deactivated}
use Rattle.card_state.specs.Persistent.{File, Persistent}
use Rattle.card_state.specs.Changing.{with_file_changed}
use Rattle.card_state.specs.Soundness.{IsEf, AreContents}
use Rattle.file_model.specs.declared.selections.Selection.{Selection}
use Rattle.file_model.specs.Files.{record_width, record_count, descriptors_in}
use Rattle.file_model.specs.Selections.{IsSelection}
use Rattle.file_model.specs.Outcomes.{FileOutcome}
use Rattle.file_model.specs.Laws.{HasSameAttributes, IsSoundCard, IsLawfulOutcome}
use Rattle.file_model.proofs.HasSameAttributesLemmas.{same_file, changed_sound}
use Rattle.file_model.proofs.HasSameShapeLemmas.{HasSameShape}
use Rattle.file_model.proofs.IsSelectionLemmas.{selection_kept, tree_kept}

-- the statuses of a command that is not refused
abbrev pub good : List StatusWord
good = DONE ∷ END_OF_FILE ∷ FILE_DEACTIVATED ∷ []

-- an outcome without a commit
pub unchanged_so : (state : Persistent) (outcome : FileOutcome) → outcome.passed ≡ [] → IsSelection (descriptors_in state) outcome.selection → length outcome.body ≤ 256 → Contains good outcome.status → IsLawfulOutcome state outcome
unchanged_so state outcome none lawful short known =
    let none_of : IsLawfulOutcome state (record outcome { passed = [] }) = record { commits = omega arith; steps = tt; sound = All-nil IsSoundCard; selection = lawful; others = λ other is. is; short = short; status = known } in
    subst (λ (passed : List Persistent). IsLawfulOutcome state (record outcome { passed = passed })) (sym none) none_of

module _ (state : Persistent) (card : IsSoundCard state) (change : File → File) (keeps : (file : File) → HasSameAttributes file (change file)) (whole : File)
    (there : Contains state.files whole) (ef : IsEf whole) (contents : AreContents whole.kind whole.size (change whole).contents) (shape : HasSameShape whole.contents (change whole).contents)
    (life : ((change whole).life ≡ deactivated) ⊎ ((change whole).life ≡ activated)) where
  abbrev next : Persistent
  next = with_file_changed change whole.number state

  abbrev changed : File → File
  changed file = if file.number == whole.number then change file else file

  same_widths : (file : File) → Contains state.files file → record_width (changed file).contents ≡ record_width file.contents
  same_widths file is_there =
      ⊎_elim {C = record_width (changed file).contents ≡ record_width file.contents}
      (λ same.
      ap (λ (f : File). record_width f.contents) (cond-true (file.number == whole.number) (change file) file (eq-eqb file.number whole.number same))
      ∙ subst (λ (f : File). record_width (change f).contents ≡ record_width f.contents) (sym (same_file state card.sound change keeps whole there ef contents life file is_there same)) shape.width)
      (λ other. ap (λ (f : File). record_width f.contents) (cond-false (file.number == whole.number) (change file) file (ne_eqb file.number whole.number other)))
      (cases_eq file.number whole.number)

  pub next_card : IsSoundCard next
  unfolding with_file_changed
  next_card = record {
    sound = changed_sound state card.sound change keeps whole there ef contents life;
    short =
        All-map (λ (file : File). record_width file.contents ≤ 255) changed state.files
        (λ k d low. let file : File = get_or state.files k d in omega (arith, same_widths file (All-contains_itself state.files k d low), card.short k d low));
  }

  same_counts : (file : File) → Contains state.files file → file.number ≡ whole.number → record_count (change file).contents ≡ record_count file.contents
  same_counts file is_there same =
      subst (λ (f : File). record_count (change f).contents ≡ record_count f.contents) (sym (same_file state card.sound change keeps whole there ef contents life file is_there same)) shape.count

  -- an outcome with this commit
  pub committed_so : (body : List ℕ) (selection : Selection) (made : Change) → IsSelection (descriptors_in state) selection → length body ≤ 256
      → IsLawfulOutcome state (record { body = body; status = DONE; selection = selection; passed = next ∷ []; changes = made ∷ [] })
  committed_so body selection made lawful short = record {
    commits = omega arith;
    steps = (record { number = whole.number; change = change; attributes = keeps; changed = refl }, tt);
    sound = All-cons IsSoundCard next [] next_card (All-nil IsSoundCard);
    selection = selection_kept (descriptors_in state) (descriptors_in next) selection (tree_kept state change whole.number keeps same_counts) lawful;
    others = λ other is. selection_kept (descriptors_in state) (descriptors_in next) other (tree_kept state change whole.number keeps same_counts) is;
    short = short;
    status = (0, omega arith, refl);
  }
