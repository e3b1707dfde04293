-- A card and a handset, worked out from the bytes: the handset is shown a text that an applet sends at its terminal profile. The
-- run is one of the card, and the handset keeps to its rules in it.
use Rattle.std.proofs.Common.{◌≡◌, ◌+◌, ℕ, List, [], ◌∷◌, map, Option, Some, true, refl, sym, ◌∙◌, ap, inl, inr, arith, ◌%◌, reverse}
use Rattle.std.proofs.lemmas.Bool.{false≢true}
use Rattle.std.specs.List.{range_with_len}
use Rattle.uicc_types.specs.declared.answers.StatusWord.{StatusWord}
use Rattle.uicc_types.specs.declared.answers.TheConstants.StatusWord.{CONDITIONS_NOT_SATISFIED}
use Rattle.uicc_types.specs.declared.runs.Step.{Step}
use Rattle.uicc_types.specs.declared.runs.TraceItem.{TraceItem}
use Rattle.uicc_types.specs.declared.runs.Step.TheVariants as step
use Rattle.uicc_types.specs.declared.runs.TraceItem.TheVariants as item
use Rattle.apdu_form.specs.Model.{command_in, fields_in}
use Rattle.script_form.specs.declared.handset.HandsetLine.TheVariants as line
use Rattle.script_form.specs.declared.handset.Note.TheVariants as note
use Rattle.card_state.specs.Persistent.{Registration}
use Rattle.card_state.specs.Soundness.{mf}
use Rattle.file_model.specs.Chains.{refused_if, given, and_given}
use Rattle.file_model.specs.Files.{descriptor_in, descriptors_in, file_found}
use Rattle.file_model.specs.Selecting.{selecting, file_selected}
use Rattle.file_model.specs.Selections.{selection_of, chosen_by_identifier, chosen}
use Rattle.file_model.specs.Commands.{file_outcome}
use Rattle.comprehension_tlv.specs.Reading as Reading
use Rattle.comprehension_tlv.specs.Writing.{tagged}
use Rattle.toolkit_commands.specs.Reading.{proactive_of, list_of, command_among, details_found}
use Rattle.toolkit_commands.specs.Responses.{response_of}
use Rattle.terminal_profile.specs.Profiles.{allowed, allowed_event, consulted}
use Rattle.applet_trait.specs.Minds.{AppletState, fresh}
use Rattle.applet_trait.specs.Tables.{address_digits, row_from}
use Rattle.applet_trait.specs.Turns.{act}
use Rattle.toolkit_model.specs.Commands.{profiled, fetched, answered, responded, woken_boxes}
use Rattle.toolkit_model.specs.Driving.{told_one, given_one, caught_up, wanted, with_next_command as filled_up, driven}
use Rattle.toolkit_model.specs.Order.{trigger_order}
use Rattle.toolkit_model.specs.Orderly.{asks}
use Rattle.toolkit_model.specs.Running.{run_on, run_of_row}
use Rattle.card_model.specs.Answers.{answer, carried_out, tried, answer_of}
use Rattle.card_model.specs.Instructions.{instruction_tried}
use Rattle.card_model.specs.Runs.{IsRun}
use Rattle.card_model.specs.States.{CardState, Machine, powered, woken}
use Rattle.card_model.specs.Toolkit.{profile_taken, command_fetched, response_taken, toolkit_outcome}
use Rattle.handset_model.specs.History.{Happened, Said, Sent, Answered, Noted, known}
use Rattle.handset_model.specs.Legal.{TraceEntry, IsLegal, entries_of, items_seen}
use Rattle.handset_model.specs.Rules.{settled}
use Rattle.handset_model.specs.Sending.{apdu_of}
use Rattle.handset_model.specs.declared.commands.Command.TheVariants as sent
use Rattle.handset_model.specs.declared.commands.Reply.TheVariants as reply
use Rattle.phone_runs.specs.HandsetServing.{IsServing, AreServed}

-- ---- the card and the handset

-- an applet that shows a text at a terminal profile
abbrev row : Registration
row = record { shelf = 0; kind = 1; priority = 1; sequence = 0; codes = 0x40 ∷ []; text = []; kept = [] }

abbrev boxes : List (Option AppletState)
boxes = map (λ shelf. Some (fresh (shelf % 7 + 1) [])) (range_with_len 0 32)

abbrev card : CardState
card = woken (record { is_wide = true; files = mf ∷ []; pins = []; rows = row ∷ []; next_sequence = 9 }) boxes

abbrev gives : List ℕ → ℕ → Happened
gives body status = Answered (record { body = body; status = record { 0 = status } })

-- DISPLAY TEXT of the text 'Hi'
abbrev display : List ℕ
display = 0xD0 ∷ 0x0E ∷ 0x81 ∷ 0x03 ∷ 0x01 ∷ 0x21 ∷ 0x80 ∷ 0x82 ∷ 0x02 ∷ 0x81 ∷ 0x02 ∷ 0x8D ∷ 0x03 ∷ 0x04 ∷ 0x48 ∷ 0x69 ∷ []

-- newest first: the user reads the text, and the command is answered
abbrev history : List Happened
history =
    gives [] 0x9000
    ∷ Sent (sent.Respond (record { number = 1; kind = 0x21; qualifier = 0x80 }) (reply.Result 0x00))
    ∷ Said line.UserOk
    ∷ Noted (note.Text (0x48 ∷ 0x69 ∷ []))
    ∷ gives display 0x9000
    ∷ Sent (sent.Fetch 16)
    ∷ gives [] 0x9110
    ∷ Sent sent.SendProfile
    ∷ gives [] 0x9000
    ∷ Sent sent.SelectMf
    ∷ []

abbrev trace : List TraceEntry
trace = reverse (entries_of history)

legal : IsLegal (line.UserOk ∷ []) trace
unfolding apdu_of known settled tagged proactive_of list_of command_among details_found Reading.tag_at Reading.length_at Reading.value_at Reading.object_at Reading.outline_within Reading.outline_at Reading.template_of
legal = record {
  history = history;
  is_of = record { orderly = (refl, (refl, (refl, (refl, (refl, (refl, (refl, (refl, (refl, (refl, tt)))))))))); lines_are = refl; trace_is = refl };
  rests = refl;
}

-- ---- the run

abbrev after_select : CardState
after_select = (answer card (apdu_of sent.SelectMf)).state

abbrev after_profile : CardState
after_profile = (answer after_select (apdu_of sent.SendProfile)).state

abbrev after_fetch : CardState
after_fetch = (answer after_profile (apdu_of (sent.Fetch 16))).state

abbrev respond : List ℕ
respond = apdu_of (sent.Respond (record { number = 1; kind = 0x21; qualifier = 0x80 }) (reply.Result 0x00))

abbrev after_response : CardState
after_response = (answer after_fetch respond).state

abbrev steps : List Step
steps = step.Apdu (apdu_of sent.SelectMf) ∷ step.Apdu (apdu_of sent.SendProfile) ∷ step.Apdu (apdu_of (sent.Fetch 16)) ∷ step.Apdu respond ∷ []

-- what is seen of a command that the card answers so, and of the steps after it
exchange : (old : CardState) (apdu body : List ℕ) (status : StatusWord) (more : List Step) (back : List TraceItem) (new : Machine) → (answer old apdu).body ≡ body → (answer old apdu).status ≡ status
    → IsRun (powered (answer old apdu).state) more back new → IsRun (powered old) (step.Apdu apdu ∷ more) (item.Command apdu ∷ item.Answer body status ∷ back) new
exchange old apdu body status more back new body_is status_is rest = inl (record {
  front = item.Command apdu ∷ item.Answer body status ∷ [];
  middle = powered (answer old apdu).state;
  back = back;
  first = inl (record { seen = ap (λ b. item.Command apdu ∷ item.Answer b status ∷ []) (sym body_is) ∙ ap (λ s. item.Command apdu ∷ item.Answer (answer old apdu).body s ∷ []) (sym status_is); moved = refl });
  rest = rest;
  seen = refl;
})

run : IsRun (powered card) steps (items_seen trace) (powered after_response)
unfolding refused_if given and_given command_in fields_in instruction_tried carried_out file_outcome toolkit_outcome tried answer_of woken woken_boxes descriptor_in descriptors_in file_found selection_of chosen_by_identifier chosen selecting file_selected profile_taken command_fetched response_taken profiled fetched answered responded told_one given_one caught_up wanted filled_up driven trigger_order asks run_on run_of_row act address_digits row_from allowed allowed_event consulted tagged response_of apdu_of Reading.tag_at Reading.length_at Reading.value_at Reading.object_at Reading.outline_within Reading.outline_at Reading.template_of
run =
    exchange card (apdu_of sent.SelectMf) [] (record { 0 = 0x9000 }) _ _ _ refl refl (
    exchange after_select (apdu_of sent.SendProfile) [] (record { 0 = 0x9110 }) _ _ _ refl refl (
    exchange after_profile (apdu_of (sent.Fetch 16)) display (record { 0 = 0x9000 }) _ _ _ refl refl (
    exchange after_fetch respond [] (record { 0 = 0x9000 }) _ _ _ refl refl (record { seen = refl; stays = refl }))))

-- ---- what is served

-- a FETCH that was not announced is refused, and a response too where nothing was fetched: so the law needs the handset's rules
unannounced : map (λ (apdu : List ℕ). (answer card apdu).status) (apdu_of (sent.Fetch 16) ∷ respond ∷ []) ≡ CONDITIONS_NOT_SATISFIED ∷ CONDITIONS_NOT_SATISFIED ∷ []
unfolding refused_if given and_given command_in fields_in instruction_tried carried_out file_outcome toolkit_outcome tried answer_of woken woken_boxes descriptor_in descriptors_in file_found selection_of chosen_by_identifier chosen selecting file_selected profile_taken command_fetched response_taken profiled fetched answered responded told_one given_one caught_up wanted filled_up driven trigger_order asks run_on run_of_row act address_digits row_from allowed allowed_event consulted tagged response_of apdu_of Reading.tag_at Reading.length_at Reading.value_at Reading.object_at Reading.outline_within Reading.outline_at Reading.template_of
unannounced = refl

refused : IsServing CONDITIONS_NOT_SATISFIED → ⊥
refused (inl is) = absurd (omega (arith, ap (λ (status : StatusWord). status.0) is))
refused (inr (inl is)) = absurd (omega (arith, is))
refused (inr (inr is)) = absurd (omega (arith, ap (λ (status : StatusWord). status.0) is))

-- so are the four commands of this run, two of which the law speaks of
served : AreServed (items_seen trace)
unfolding apdu_of
served = ((λ is. absurd (false≢true is)), ((λ is. absurd (false≢true is)), ((λ is. inl refl), ((λ is. inl refl), tt))))

-- and these are not: a FETCH that is refused, and one after which nothing comes
not_served : (AreServed (item.Command (apdu_of (sent.Fetch 16)) ∷ item.Answer [] CONDITIONS_NOT_SATISFIED ∷ []) → ⊥) × (AreServed (item.Command (apdu_of (sent.Fetch 16)) ∷ []) → ⊥)
unfolding apdu_of
not_served = ((λ is. refused (is.0 refl)), (λ is. is.0 refl))
