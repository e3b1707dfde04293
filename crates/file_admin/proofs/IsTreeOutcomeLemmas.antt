-- What a command has done, from what is known of its status, of what is selected and of the state.
use Rattle.std.proofs.Common.{◌≡◌, ℕ, true, List, [], Option, Some, None, refl, sym, subst, is_some, slice_index_or, IfSome, Result, Ok}
use Rattle.uicc_types.specs.declared.answers.StatusWord.{StatusWord}
use Rattle.apdu_form.specs.Model.{Apdu}
use Rattle.card_state.specs.declared.entries.Loaded.{Loaded}
use Rattle.card_state.specs.Persistent.{Persistent}
use Rattle.card_state.specs.Memory.{Memory, held, IsMounted}
use Rattle.card_state.specs.Standing.{Agrees}
use Rattle.access_rules.specs.declared.rules.Verified.{Verified}
use Rattle.file_model.specs.declared.descriptors.Descriptor.{Descriptor}
use Rattle.file_model.specs.declared.selections.Selection.{Selection}
use Rattle.file_model.specs.Files.{descriptors_of}
use Rattle.file_model.specs.Laws.{TablesTellFiles}
use Rattle.file_model.specs.Outcomes.{last_of}
use Rattle.file_model.specs.LawfulTrees.{AreSelected, KeepsSelected}
use Rattle.file_model.specs.TreeOutcomes.{TreeOutcome, settled_tree}
use Rattle.layout_laws.specs.Known.{StandingIsCard, StandingIsOfTable}
use Rattle.layout_laws.specs.Stores.{AgreeingStands}
use Rattle.file_admin.specs.Outcomes.{passed_by, IsTreeOutcome, AnswersTree, IsDone}
use Rattle.file_admin.proofs.StandsLemmas.{listed, sound_state, stands_here}

pub performs : (status : StatusWord) (body : List ℕ) (before after : Memory) (old new : List (Option Selection)) (meaning : Persistent → Result TreeOutcome StatusWord) → StandingIsOfTable → AgreeingStands → IsMounted before → body ≡ []
    → IsDone (Ok status) before after old new meaning → IfSome (held before) (λ state. IsTreeOutcome state (meaning state) old (record { body = body; status = status }) new before after)
performs status body before after old new meaning of_table known mounted empty is = of (held before) refl is.leaves where
  of : (o : Option Persistent) → held before ≡ o → IfSome o (λ state. held after ≡ Some (last_of state (passed_by old (meaning state))))
      → IfSome o (λ state. IsTreeOutcome state (meaning state) old (record { body = body; status = status }) new before after)
  of None here leaves = tt
  of (Some state) here leaves =
      let stands = stands_here of_table known before.mark before.told before.table mounted.agrees state here in
      let it = is.answers before.mark mounted.agrees.content state stands in
      record { body = empty; status = it.status_is; channels = it.channels; state_is = leaves; commits = is.commits before.mark mounted.agrees.content state stands }

-- and what is selected is there
pub selected_there : StandingIsCard → StandingIsOfTable → TablesTellFiles → (command : Persistent → Verified → List (Option Selection) → ℕ → Apdu → Result TreeOutcome StatusWord) → KeepsSelected command
    → (mark : ℕ) (told : Option (List ℕ)) (table : Loaded) (agrees : Agrees mark told table) (seen : Verified) (old : List (Option Selection)) (channel : ℕ) (apdu : Apdu) → AreSelected (descriptors_of table) old
    → is_some (slice_index_or old channel None) ≡ true → (table' : Loaded) (new : List (Option Selection)) (status : StatusWord) → AnswersTree table table' status old new (λ state. command state seen old channel apdu)
    → AreSelected (descriptors_of table') new
selected_there card of_table tells command keeps mark told table agrees seen old channel apdu selected opened table' new status answers =
    let it = answers mark agrees.content agrees.state agrees.stands in
    let there = keeps agrees.state seen old channel apdu (sound_state card of_table mark agrees.content table agrees.state agrees.stands)
    (subst (λ (files : List Descriptor). AreSelected files old) (sym (listed card of_table mark agrees.content table agrees.state agrees.stands tells)) selected) opened in
    subst (λ (channels : List (Option Selection)). AreSelected (descriptors_of table') channels) (sym it.channels)
    (subst (λ (files : List Descriptor). AreSelected files (settled_tree old (command agrees.state seen old channel apdu)).channels) (listed card of_table mark it.content table' _ it.stands tells) there)
