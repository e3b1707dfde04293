-- DEACTIVATE FILE and ACTIVATE FILE come to lawful outcomes.
use Rattle.std.proofs.Common.{◌≡◌, ℕ, Bool, true, false, [], ◌∷◌, None, refl, subst, inl, inr, arith, ◌⊎◌, ◌==◌, if◌then◌else◌, Contains, MatchResult}
use Rattle.std.proofs.lemmas.List.Elements.{All-contains}
use Rattle.uicc_types.specs.declared.answers.TheConstants.StatusWord.{DONE}
use Rattle.apdu_form.specs.Model.{Apdu}
use Rattle.card_state.specs.Changes.{Change, PutLife}
use Rattle.card_state.specs.Kinds.{activated, deactivated}
use Rattle.card_state.specs.Persistent.{File, Persistent}
use Rattle.card_state.specs.Changing.{with_life}
use Rattle.card_state.specs.Soundness.{IsSoundFile}
use Rattle.access_rules.specs.declared.rules.Op.{Op}
use Rattle.access_rules.specs.declared.rules.Op.TheVariants.{Deactivate, Activate}
use Rattle.file_model.specs.declared.descriptors.Descriptor.{Descriptor}
use Rattle.file_model.specs.declared.selections.Selection.{Selection}
use Rattle.file_model.specs.Files.{descriptor_in, descriptors_in}
use Rattle.file_model.specs.Selections.{IsSelection}
use Rattle.file_model.specs.LifeCycles.{bringing, life_file, life_in, life_changed, file_deactivated, file_activated}
use Rattle.file_model.specs.Laws.{IsSoundCard, IsLawfulOutcome, IsFileRefusal, IsLawfulCommand}
use Rattle.file_model.proofs.ChainsLemmas.{unless_so, and_given_so}
use Rattle.file_model.proofs.HasSameShapeLemmas.{same_shape}
use Rattle.file_model.proofs.IsSelectionLemmas.{IsAddressed, addressed_so}
use Rattle.file_model.proofs.IsLawfulOutcomeLemmas.{unchanged_so, committed_so}

already_or_now : (state : Persistent) (b : Bool) (selection : Selection) (next : Persistent) (made : Change) → IsSelection (descriptors_in state) selection
    → IsLawfulOutcome state (record { body = []; status = DONE; selection = selection; passed = next ∷ []; changes = made ∷ [] })
    → IsLawfulOutcome state (record { body = []; status = DONE; selection = selection; passed = if b then [] else next ∷ []; changes = if b then [] else made ∷ [] })
already_or_now state true selection next made lawful now = unchanged_so state (record { body = []; status = DONE; selection = selection; passed = []; changes = [] }) refl lawful (omega arith) (0, omega arith, refl)
already_or_now state false selection next made lawful now = now

bringing_so : (state : Persistent) (card : IsSoundCard state) (selection : Selection) (life : ℕ) (whole : File) → Contains state.files whole → IsSelection (descriptors_in state) selection
    → IsAddressed state selection None (descriptor_in whole) → (life ≡ deactivated) ⊎ (life ≡ activated) → IsLawfulOutcome state (bringing state selection life (descriptor_in whole))
unfolding bringing descriptor_in
bringing_so state card selection life whole there lawful is known =
    let one : IsSoundFile state.is_wide state.files whole = All-contains (IsSoundFile state.is_wide state.files) state.files whole card.sound.files there in
    already_or_now state (whole.life == life) selection (with_life whole.number life state) (PutLife whole.number life) lawful
    (committed_so state card (λ file. record file { life = life }) (λ file. record { number = refl; parent = refl; kind = refl; id = refl; short = refl; rule = refl; place = refl; size = refl }) whole there is.ef
    one.contents (same_shape whole.contents) known [] selection (PutLife whole.number life) lawful (omega arith))

life_file_so : (state : Persistent) (selection : Selection) (apdu : Apdu) → IsSoundCard state → IsSelection (descriptors_in state) selection
    → MatchResult (life_file (descriptors_in state) selection apdu) (IsAddressed state selection None) IsFileRefusal
unfolding life_file
life_file_so state selection apdu card lawful =
    unless_so (IsAddressed state selection None) IsFileRefusal _ _ _ (inl (0, omega arith, refl)) (λ _.
    unless_so (IsAddressed state selection None) IsFileRefusal _ _ _ (inl (1, omega arith, refl)) (λ _. addressed_so state selection None card.sound lawful))

life_changed_so : (op : Op) (life : ℕ) → (life ≡ deactivated) ⊎ (life ≡ activated) → IsLawfulCommand (life_changed op life)
unfolding life_changed life_in
life_changed_so op life known bytes apdu state seen selection is card lawful =
    and_given_so (IsAddressed state selection None) (IsLawfulOutcome state) IsFileRefusal (life_file (descriptors_in state) selection apdu) _ (life_file_so state selection apdu card lawful) (λ file found.
    unless_so (IsLawfulOutcome state) IsFileRefusal _ _ _ (inl (6, omega arith, refl)) (λ _.
    subst (λ (f : Descriptor). IsAddressed state selection None f → IsLawfulOutcome state (bringing state selection life f)) found.of.is
    (λ on_whole. bringing_so state card selection life found.of.whole found.of.there lawful on_whole known) found))

pub file_deactivated_so : IsLawfulCommand file_deactivated
file_deactivated_so = life_changed_so Deactivate deactivated (inl refl)

pub file_activated_so : IsLawfulCommand file_activated
file_activated_so = life_changed_so Activate activated (inr refl)
