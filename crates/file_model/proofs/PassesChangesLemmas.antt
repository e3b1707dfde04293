-- The states that a command passes are those after its changes.
use Rattle.std.proofs.Common.{◌≡◌, ◌==◌, ℕ, Bool, true, false, if◌then◌else◌, List, [], ◌∷◌, map, Option, Some, None, Result, Ok, Err, IfOk, refl, sym, ◌-◌, not, bytes_eq}
use Rattle.uicc_types.specs.declared.answers.StatusWord.{StatusWord}
use Rattle.uicc_types.specs.declared.answers.TheConstants.StatusWord.{PIN_DISABLED}
use Rattle.apdu_form.specs.Fields.{has_no_data}
use Rattle.apdu_form.specs.Model.{Apdu}
use Rattle.card_state.specs.Changes.{PinFields, Change, changed, states_after, PutRecord, PutNewest, PutLife}
use Rattle.card_state.specs.Changing.{with_newest_record, with_record, with_life}
use Rattle.card_state.specs.Kinds.{cyclic_kind}
use Rattle.card_state.specs.Persistent.{Pin, Persistent}
use Rattle.access_rules.specs.declared.rules.Op.{Op}
use Rattle.access_rules.specs.declared.rules.Verified.{Verified}
use Rattle.file_model.specs.declared.commands.ContentsCommand.{ContentsCommand}
use Rattle.file_model.specs.declared.commands.ContentsCommand.TheVariants.{ReadBinary, UpdateBinary, ReadRecord, UpdateRecord, SearchRecord, Increase, Deactivate, Activate}
use Rattle.file_model.specs.declared.commands.FileCommand.TheVariants.{Select, Status, Contents}
use Rattle.file_model.specs.declared.commands.PinCommand.TheVariants.{Verify, Change as ChangePin, Disable, Enable, Unblock}
use Rattle.file_model.specs.declared.selections.Selection.{Selection}
use Rattle.file_model.specs.declared.tree_commands.TreeCommand.TheVariants.{Create, Delete, Resize}
use Rattle.file_model.specs.Binaries.{binary_read, read_from, reading, binary_updated, update_in, updating}
use Rattle.file_model.specs.Chains.{refused_if, given, and_given}
use Rattle.file_model.specs.Changing.{FilesPassChanges, PinsPassChanges, TreesPassChanges}
use Rattle.file_model.specs.Commands.{contents_outcome, file_outcome}
use Rattle.file_model.specs.Creating.{created, creating}
use Rattle.file_model.specs.Deleting.{deleted, deleting}
use Rattle.file_model.specs.LifeCycles.{bringing, life_in, life_changed}
use Rattle.file_model.specs.Outcomes.{FileOutcome, PinOutcome}
use Rattle.file_model.specs.Pins.{presented, pin_presented, unblock_presented, told, marked, value_presented, new_value, pins_put, pin_addressed, pin_verified, pin_changed, pin_disabled, pin_enabled, pin_unblocked}
use Rattle.file_model.specs.Records.{record_read, record_read_from, record_reading, record_updated, record_update_in, record_updating, searched, search_in, searching, increased, increase_in, increasing}
use Rattle.file_model.specs.Resizing.{size_asked, resized, resizing}
use Rattle.file_model.specs.Selecting.{file_selected, selecting, status_told, telling}
use Rattle.file_model.specs.TreeCommands.{tree_outcome}
use Rattle.file_model.specs.TreeOutcomes.{TreeOutcome}

-- ---- past the tests of a chain

unless_ok : {X : Type 0} (P : X → Type 0) (bad : Bool) (status : StatusWord) (next : Result X StatusWord) → IfOk next P → IfOk (refused_if bad status next) P
unfolding refused_if
unless_ok P true status next known = tt
unless_ok P false status next known = known

given_ok : {X Y : Type 0} (P : Y → Type 0) (o : Option X) (status : StatusWord) (next : X → Result Y StatusWord) → ((x : X) → IfOk (next x) P) → IfOk (given o status next) P
unfolding given
given_ok P None status next known = tt
given_ok P (Some x) status next known = known x

and_ok : {X Y : Type 0} (P : Y → Type 0) (r : Result X StatusWord) (next : X → Result Y StatusWord) → ((x : X) → IfOk (next x) P) → IfOk (and_given r next) P
unfolding and_given
and_ok P (Err status) next known = tt
and_ok P (Ok x) next known = known x

either_ok : {X : Type 0} (P : X → Type 0) (b : Bool) (x y : Result X StatusWord) → IfOk x P → IfOk y P → IfOk (if b then x else y) P
either_ok P true x y first second = first
either_ok P false x y first second = second

-- ---- commands on files

abbrev Passes : Persistent → FileOutcome → Type 0
Passes state outcome = outcome.passed ≡ states_after state outcome.changes

record_passes : (state : Persistent) (b : Bool) (number index : ℕ) (bytes : List ℕ) → (if b then with_newest_record number bytes state else with_record number index bytes state) ∷ [] ≡ states_after state ((if b then PutNewest number bytes else PutRecord number index bytes) ∷ [])
unfolding states_after changed
record_passes state true number index bytes = refl
record_passes state false number index bytes = refl

life_passes : (state : Persistent) (b : Bool) (number life : ℕ) → (if b then [] else with_life number life state ∷ []) ≡ states_after state (if b then [] else PutLife number life ∷ [])
unfolding states_after changed
life_passes state true number life = refl
life_passes state false number life = refl

life_ok : (op : Op) (life : ℕ) (state : Persistent) (seen : Verified) (selection : Selection) (apdu : Apdu) → IfOk (life_changed op life state seen selection apdu) (Passes state)
unfolding life_changed life_in bringing
life_ok op life state seen selection apdu = and_ok (Passes state) _ _ (λ file. unless_ok (Passes state) _ _ _ (life_passes state (file.life == life) file.number life))

contents_ok : (command : ContentsCommand) (state : Persistent) (seen : Verified) (selection : Selection) (apdu : Apdu) → IfOk (contents_outcome command state seen selection apdu) (Passes state)
unfolding contents_outcome binary_read read_from reading binary_updated update_in updating record_read record_read_from record_reading record_updated record_update_in record_updating searched search_in searching increased increase_in increasing states_after changed
contents_ok ReadBinary state seen selection apdu = and_ok (Passes state) _ _ (λ file. unless_ok (Passes state) _ _ _ (unless_ok (Passes state) _ _ _ refl))
contents_ok UpdateBinary state seen selection apdu = and_ok (Passes state) _ _ (λ file. unless_ok (Passes state) _ _ _ (unless_ok (Passes state) _ _ _ refl))
contents_ok ReadRecord state seen selection apdu = and_ok (Passes state) _ _ (λ file. unless_ok (Passes state) _ _ _ (and_ok (Passes state) _ _ (λ number. refl)))
contents_ok UpdateRecord state seen selection apdu = and_ok (Passes state) _ _ (λ file. unless_ok (Passes state) _ _ _ (and_ok (Passes state) _ _ (λ number. record_passes state (file.kind == cyclic_kind) file.number (number - 1) apdu.body)))
contents_ok SearchRecord state seen selection apdu = and_ok (Passes state) _ _ (λ file. unless_ok (Passes state) _ _ _ (and_ok (Passes state) _ _ (λ number. refl)))
contents_ok Increase state seen selection apdu = and_ok (Passes state) _ _ (λ file. unless_ok (Passes state) _ _ _ (and_ok (Passes state) _ _ (λ sum. refl)))
contents_ok Deactivate state seen selection apdu = life_ok _ _ state seen selection apdu
contents_ok Activate state seen selection apdu = life_ok _ _ state seen selection apdu

pub files_pass : FilesPassChanges
unfolding file_outcome file_selected selecting status_told telling states_after
files_pass Select state seen selection apdu = unless_ok (Passes state) _ _ _ (unless_ok (Passes state) _ _ _ (given_ok (Passes state) _ _ _ (λ file. refl)))
files_pass Status state seen selection apdu = unless_ok (Passes state) _ _ _ (unless_ok (Passes state) _ _ _ (given_ok (Passes state) _ _ _ (λ df. refl)))
files_pass (Contents command) state seen selection apdu = contents_ok command state seen selection apdu

-- ---- PIN commands

abbrev PinPasses : Persistent → PinFields → PinFields → ℕ → PinOutcome → Type 0
PinPasses state first second key outcome = map (λ pins. record state { pins = pins }) outcome.passed ≡ states_after state (pins_put first second key outcome.passed)

presented_passes : (state : Persistent) (first second : PinFields) (key : ℕ) (verified new : Verified) (is_right : Bool) (taken restored : Pin) (tries : ℕ) → PinPasses state first second key (presented state.pins verified is_right taken tries restored new)
unfolding presented states_after changed
presented_passes state first second key verified new true taken restored tries = refl
presented_passes state first second key verified new false taken restored tries = refl

module _ (state : Persistent) (first second : PinFields) (key : ℕ) where
  abbrev P : PinOutcome → Type 0
  P = PinPasses state first second key

  addressed_ok : (apdu : Apdu) (is_length is_key : Bool) (next : Pin → Result PinOutcome StatusWord) → ((pin : Pin) → IfOk (next pin) P) → IfOk (pin_addressed state.pins apdu is_length is_key next) P
  addressed_ok apdu is_length is_key next known = unless_ok P _ _ _ (unless_ok P _ _ _ (unless_ok P _ _ _ (given_ok P _ _ _ known)))

  verify_ok : (verified : Verified) (apdu : Apdu) → IfOk (pin_verified state.pins verified apdu) P
  unfolding pin_verified pin_presented states_after
  verify_ok verified apdu = addressed_ok apdu _ _ _ (λ pin. unless_ok P _ _ _ (
      either_ok P (has_no_data apdu) (Ok (told verified pin.tries)) (refused_if (not pin.is_enabled) PIN_DISABLED (Ok (pin_presented state.pins verified pin (value_presented apdu) pin (marked verified pin.key true)))) refl
      (unless_ok P _ _ _ (presented_passes state first second key verified (marked verified pin.key true) (bytes_eq (value_presented apdu) pin.value) (record pin { tries = pin.tries - 1 }) (record pin { tries = 3 }) (pin.tries - 1)))))

  change_ok : (verified : Verified) (apdu : Apdu) → IfOk (pin_changed state.pins verified apdu) P
  unfolding pin_changed pin_presented
  change_ok verified apdu = addressed_ok apdu _ _ _ (λ pin. unless_ok P _ _ _ (unless_ok P _ _ _ (presented_passes state first second key verified _ _ _ _ _)))

  disable_ok : (verified : Verified) (apdu : Apdu) → IfOk (pin_disabled state.pins verified apdu) P
  unfolding pin_disabled pin_presented
  disable_ok verified apdu = addressed_ok apdu _ _ _ (λ pin. unless_ok P _ _ _ (unless_ok P _ _ _ (presented_passes state first second key verified _ _ _ _ _)))

  enable_ok : (verified : Verified) (apdu : Apdu) → IfOk (pin_enabled state.pins verified apdu) P
  unfolding pin_enabled pin_presented
  enable_ok verified apdu = addressed_ok apdu _ _ _ (λ pin. unless_ok P _ _ _ (unless_ok P _ _ _ (presented_passes state first second key verified _ _ _ _ _)))

  unblock_ok : (verified : Verified) (apdu : Apdu) → IfOk (pin_unblocked state.pins verified apdu) P
  unfolding pin_unblocked unblock_presented states_after
  unblock_ok verified apdu = addressed_ok apdu _ _ _ (λ pin. unless_ok P _ _ _ (
      either_ok P (has_no_data apdu) (Ok (told verified pin.unblock_tries)) (Ok (unblock_presented state.pins verified pin (value_presented apdu) (record pin { value = new_value apdu; is_enabled = true }) (marked verified pin.key true))) refl
      (presented_passes state first second key verified (marked verified pin.key true) (bytes_eq (value_presented apdu) pin.unblock) (record pin { unblock_tries = pin.unblock_tries - 1 })
      (record pin { value = new_value apdu; is_enabled = true; tries = 3; unblock_tries = 10 }) (pin.unblock_tries - 1))))

pub pins_pass : PinsPassChanges
pins_pass Verify state verified apdu = verify_ok state _ _ apdu.p2 verified apdu
pins_pass ChangePin state verified apdu = change_ok state _ _ apdu.p2 verified apdu
pins_pass Disable state verified apdu = disable_ok state _ _ apdu.p2 verified apdu
pins_pass Enable state verified apdu = enable_ok state _ _ apdu.p2 verified apdu
pins_pass Unblock state verified apdu = unblock_ok state _ _ apdu.p2 verified apdu

-- ---- commands that make, delete and resize files

abbrev TreePasses : Persistent → TreeOutcome → Type 0
TreePasses state outcome = outcome.passed ≡ states_after state outcome.changes

one_or_none : (state next : Persistent) (change : Change) (b : Bool) → changed state change ≡ next → (if b then [] else next ∷ []) ≡ states_after state (if b then [] else change ∷ [])
unfolding states_after
one_or_none state next change true is = refl
one_or_none state next change false is = λ i. sym is i ∷ []

pub trees_pass : TreesPassChanges
unfolding tree_outcome created creating deleted deleting resized resizing states_after changed
trees_pass Create state seen channels channel apdu =
    let P : TreeOutcome → Type 0 = TreePasses state in
    unless_ok P _ _ _ (unless_ok P _ _ _ (unless_ok P _ _ _ (given_ok P _ _ _ (λ asked. unless_ok P _ _ _ (given_ok P _ _ _ (λ file. refl))))))
trees_pass Delete state seen channels channel apdu =
    let P : TreeOutcome → Type 0 = TreePasses state in
    unless_ok P _ _ _ (unless_ok P _ _ _ (given_ok P _ _ _ (λ file. unless_ok P _ _ _ (unless_ok P _ _ _ refl))))
trees_pass Resize state seen channels channel apdu =
    let P : TreeOutcome → Type 0 = TreePasses state in
    unless_ok P _ _ _ (unless_ok P _ _ _ (given_ok P _ _ _ (λ file. unless_ok P _ _ _ (unless_ok P _ _ _ (unless_ok P _ _ _ (unless_ok P _ _ _ (unless_ok P _ _ _ (one_or_none state _ _ (file.size == size_asked apdu) refl))))))))
