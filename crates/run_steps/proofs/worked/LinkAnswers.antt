-- Commands to a small card, worked out from their bytes: what the terminal has over the link, and what the card answers by itself.
use Rattle.std.proofs.Common.{◌≡◌, ℕ, true, List, [], ◌∷◌, ◌++◌, replicate, Option, Some, None, refl, inl, option_map}
use Rattle.std.specs.Int.{to_be_bytes, w16}
use Rattle.uicc_types.specs.declared.answers.Answer.{Answer}
use Rattle.uicc_types.specs.declared.runs.TraceItem.{TraceItem}
use Rattle.uicc_types.specs.declared.runs.Step.TheVariants as step
use Rattle.uicc_types.specs.declared.runs.TraceItem.TheVariants as item
use Rattle.apdu_form.specs.Model.{command_in, fields_in}
use Rattle.t0_link.specs.Tpdus.{transfer_in}
use Rattle.t0_link.specs.Linking.{Linked, Course, Answers, Passes, link_answer}
use Rattle.t0_link.specs.Carrying.{carried, command_answer}
use Rattle.card_state.specs.Persistent.{Bytes, Records, File, Pin}
use Rattle.card_state.specs.Soundness.{mf}
use Rattle.access_rules.specs.Objects.{object}
use Rattle.file_model.specs.Access.{keys_seen, arr_found, ruling_record, may}
use Rattle.file_model.specs.Binaries.{reading, binary_read, binary_file, read_from}
use Rattle.file_model.specs.Chains.{refused_if, given, and_given}
use Rattle.file_model.specs.Fcp.{fcp}
use Rattle.file_model.specs.Files.{descriptor_in, descriptors_in, file_found}
use Rattle.file_model.specs.Holdings.{held_by}
use Rattle.file_model.specs.Outcomes.{addressed}
use Rattle.file_model.specs.Records.{record_named, record_reading, record_read, numbers_matched, searching, searched, number_to_read, record_file, record_read_from, search_in, number_to_search}
use Rattle.file_model.specs.Selecting.{selecting, file_selected, telling, status_told}
use Rattle.file_model.specs.Selections.{selection_of, chosen_by_identifier, chosen}
use Rattle.file_model.specs.Channels.{channel_tried}
use Rattle.file_model.specs.Commands.{contents_outcome, file_outcome}
use Rattle.toolkit_model.specs.Commands.{polled, woken_boxes}
use Rattle.toolkit_model.specs.Driving.{told_one, given_one, caught_up, wanted, with_next_command, driven}
use Rattle.toolkit_model.specs.Order.{trigger_order}
use Rattle.toolkit_model.specs.Orderly.{asks}
use Rattle.card_model.specs.Answers.{carried_out, tried, answer_of, answer}
use Rattle.card_model.specs.Instructions.{instruction_tried}
use Rattle.card_model.specs.Runs.{StepGives}
use Rattle.card_model.specs.States.{CardState, powered, woken}
use Rattle.card_model.specs.Toolkit.{command_fetched, toolkit_outcome}
use Rattle.run_steps.specs.Linked.{shown}
use Rattle.run_steps.specs.Tpdus.{item_of, shown_for, shown_over}

-- ---- the card

abbrev number_file : File
number_file = record { number = 1; parent = 0; kind = 0x41; id = 0x2FE2; short = 2; life = 5; rule = None; place = 3968; size = 3; contents = Bytes (0x98 ∷ 0x10 ∷ 0x32 ∷ []) }

abbrev list_file : File
list_file = record { number = 2; parent = 0; kind = 0x42; id = 0x6F3A; short = 3; life = 5; rule = None; place = 3971; size = 4; contents = Records ((0x41 ∷ 0x42 ∷ []) ∷ (0x43 ∷ 0x44 ∷ []) ∷ []) }

abbrev user_pin : Pin
user_pin = record { key = 0x01; is_enabled = true; tries = 3; unblock_tries = 10; value = replicate 8 0x31; unblock = replicate 8 0x32 }

abbrev card : CardState
card = woken (record { is_wide = true; files = mf ∷ number_file ∷ list_file ∷ []; pins = user_pin ∷ []; rows = []; next_sequence = 0 }) []

-- ---- answers

abbrev spelled : Answer → List ℕ
spelled answer = answer.body ++ to_be_bytes w16 answer.status.0

abbrev in_the_end : Course → Linked
in_the_end (Answers linked) = linked
in_the_end (Passes apdu linked) = linked (shown (answer card apdu))

-- what the terminal has over a link that keeps nothing
abbrev over_link : List ℕ → Option (List ℕ)
over_link bytes = option_map (λ command. spelled (in_the_end (command_answer None command)).answer) (command_in bytes)

-- what the card answers by itself
abbrev alone : List ℕ → List ℕ
alone bytes = spelled (shown (answer card bytes))

-- the link carries these bytes, and both are so
pub record HasBoth (bytes wanted : List ℕ) : Type 0 where
  pub is_carried : carried bytes ≡ true
  pub linked : over_link bytes ≡ Some wanted
  pub by_itself : alone bytes ≡ wanted

-- SELECT with the FCP, of which five bytes are asked for
select : HasBoth (0x00 ∷ 0xA4 ∷ 0x00 ∷ 0x04 ∷ 0x02 ∷ 0x2F ∷ 0xE2 ∷ 0x05 ∷ []) (0x62 ∷ 0x12 ∷ 0x82 ∷ 0x02 ∷ 0x41 ∷ 0x90 ∷ 0x00 ∷ [])
unfolding command_in fields_in transfer_in link_answer command_answer refused_if given and_given instruction_tried carried_out file_outcome tried answer_of woken woken_boxes descriptor_in descriptors_in file_found file_selected selecting chosen chosen_by_identifier selection_of fcp object
select = record { is_carried = refl; linked = refl; by_itself = refl }

-- the same without Le
select_all : HasBoth (0x00 ∷ 0xA4 ∷ 0x00 ∷ 0x04 ∷ 0x02 ∷ 0x2F ∷ 0xE2 ∷ []) (0x62 ∷ 0x12 ∷ 0x82 ∷ 0x02 ∷ 0x41 ∷ 0x21 ∷ 0x83 ∷ 0x02 ∷ 0x2F ∷ 0xE2 ∷ 0x8A ∷ 0x01 ∷ 0x05 ∷ 0x80 ∷ 0x02 ∷ 0x00 ∷ 0x03 ∷ 0x88 ∷ 0x01 ∷ 0x10 ∷ 0x90 ∷ 0x00 ∷ [])
unfolding command_in fields_in transfer_in link_answer command_answer refused_if given and_given instruction_tried carried_out file_outcome tried answer_of woken woken_boxes descriptor_in descriptors_in file_found file_selected selecting chosen chosen_by_identifier selection_of fcp object
select_all = record { is_carried = refl; linked = refl; by_itself = refl }

-- SELECT without the FCP, with Le
select_no_data : HasBoth (0x00 ∷ 0xA4 ∷ 0x00 ∷ 0x0C ∷ 0x02 ∷ 0x2F ∷ 0xE2 ∷ 0x00 ∷ []) (0x90 ∷ 0x00 ∷ [])
unfolding command_in fields_in transfer_in link_answer command_answer refused_if given and_given instruction_tried carried_out file_outcome tried answer_of woken woken_boxes descriptor_in descriptors_in file_found file_selected selecting chosen chosen_by_identifier selection_of fcp object
select_no_data = record { is_carried = refl; linked = refl; by_itself = refl }

-- STATUS without Le is passed with 00
status : HasBoth (0x80 ∷ 0xF2 ∷ 0x00 ∷ 0x00 ∷ []) (0x62 ∷ 0x13 ∷ 0x82 ∷ 0x02 ∷ 0x78 ∷ 0x21 ∷ 0x83 ∷ 0x02 ∷ 0x3F ∷ 0x00 ∷ 0x8A ∷ 0x01 ∷ 0x05 ∷ 0xC6 ∷ 0x06 ∷ 0x90 ∷ 0x01 ∷ 0x80 ∷ 0x83 ∷ 0x01 ∷ 0x01 ∷ 0x90 ∷ 0x00 ∷ [])
unfolding command_in fields_in transfer_in link_answer command_answer refused_if given and_given instruction_tried carried_out file_outcome tried answer_of woken woken_boxes descriptor_in descriptors_in file_found status_told telling fcp object polled told_one given_one caught_up wanted with_next_command driven trigger_order asks
status = record { is_carried = refl; linked = refl; by_itself = refl }

-- STATUS with Le
status_cut : HasBoth (0x80 ∷ 0xF2 ∷ 0x00 ∷ 0x00 ∷ 0x02 ∷ []) (0x62 ∷ 0x13 ∷ 0x90 ∷ 0x00 ∷ [])
unfolding command_in fields_in transfer_in link_answer command_answer refused_if given and_given instruction_tried carried_out file_outcome tried answer_of woken woken_boxes descriptor_in descriptors_in file_found status_told telling fcp object polled told_one given_one caught_up wanted with_next_command driven trigger_order asks
status_cut = record { is_carried = refl; linked = refl; by_itself = refl }

-- STATUS without the FCP
status_no_data : HasBoth (0x80 ∷ 0xF2 ∷ 0x00 ∷ 0x0C ∷ []) (0x90 ∷ 0x00 ∷ [])
unfolding command_in fields_in transfer_in link_answer command_answer refused_if given and_given instruction_tried carried_out file_outcome tried answer_of woken woken_boxes descriptor_in descriptors_in file_found status_told telling fcp object polled told_one given_one caught_up wanted with_next_command driven trigger_order asks
status_no_data = record { is_carried = refl; linked = refl; by_itself = refl }

-- READ BINARY
read : HasBoth (0x00 ∷ 0xB0 ∷ 0x82 ∷ 0x00 ∷ 0x02 ∷ []) (0x98 ∷ 0x10 ∷ 0x90 ∷ 0x00 ∷ [])
unfolding command_in fields_in transfer_in link_answer command_answer refused_if given and_given instruction_tried carried_out file_outcome contents_outcome tried answer_of woken woken_boxes descriptor_in descriptors_in file_found keys_seen addressed arr_found ruling_record may held_by reading binary_file read_from binary_read
read = record { is_carried = refl; linked = refl; by_itself = refl }

-- READ BINARY past the end
read_past : HasBoth (0x00 ∷ 0xB0 ∷ 0x82 ∷ 0x01 ∷ 0x05 ∷ []) (0x10 ∷ 0x32 ∷ 0x62 ∷ 0x82 ∷ [])
unfolding command_in fields_in transfer_in link_answer command_answer refused_if given and_given instruction_tried carried_out file_outcome contents_outcome tried answer_of woken woken_boxes descriptor_in descriptors_in file_found keys_seen addressed arr_found ruling_record may held_by reading binary_file read_from binary_read
read_past = record { is_carried = refl; linked = refl; by_itself = refl }

-- READ RECORD for all there is
record_all : HasBoth (0x00 ∷ 0xB2 ∷ 0x02 ∷ 0x1C ∷ 0x00 ∷ []) (0x43 ∷ 0x44 ∷ 0x90 ∷ 0x00 ∷ [])
unfolding command_in fields_in transfer_in link_answer command_answer refused_if given and_given instruction_tried carried_out file_outcome contents_outcome tried answer_of woken woken_boxes descriptor_in descriptors_in file_found keys_seen addressed arr_found ruling_record may held_by record_named record_reading record_file number_to_read record_read_from record_read
record_all = record { is_carried = refl; linked = refl; by_itself = refl }

-- and for another length
record_other : HasBoth (0x00 ∷ 0xB2 ∷ 0x02 ∷ 0x1C ∷ 0x01 ∷ []) (0x6C ∷ 0x02 ∷ [])
unfolding command_in fields_in transfer_in link_answer command_answer refused_if given and_given instruction_tried carried_out file_outcome contents_outcome tried answer_of woken woken_boxes descriptor_in descriptors_in file_found keys_seen addressed arr_found ruling_record may held_by record_named record_reading record_file number_to_read record_read_from record_read
record_other = record { is_carried = refl; linked = refl; by_itself = refl }

-- SEARCH RECORD, with as many numbers of records as there are
searched_one : HasBoth (0x00 ∷ 0xA2 ∷ 0x01 ∷ 0x1C ∷ 0x01 ∷ 0x43 ∷ 0x00 ∷ []) (0x02 ∷ 0x90 ∷ 0x00 ∷ [])
unfolding command_in fields_in transfer_in link_answer command_answer refused_if given and_given instruction_tried carried_out file_outcome contents_outcome tried answer_of woken woken_boxes descriptor_in descriptors_in file_found keys_seen addressed arr_found ruling_record may held_by numbers_matched searching record_file search_in number_to_search searched
searched_one = record { is_carried = refl; linked = refl; by_itself = refl }

-- FETCH where there is nothing to fetch
fetch_none : HasBoth (0x80 ∷ 0x12 ∷ 0x00 ∷ 0x00 ∷ 0x10 ∷ []) (0x69 ∷ 0x85 ∷ [])
unfolding command_in fields_in transfer_in link_answer command_answer refused_if given and_given instruction_tried carried_out toolkit_outcome tried answer_of woken woken_boxes command_fetched
fetch_none = record { is_carried = refl; linked = refl; by_itself = refl }

-- MANAGE CHANNEL that opens one
opened : HasBoth (0x00 ∷ 0x70 ∷ 0x00 ∷ 0x00 ∷ 0x01 ∷ []) (0x01 ∷ 0x90 ∷ 0x00 ∷ [])
unfolding command_in fields_in transfer_in link_answer command_answer refused_if given and_given instruction_tried carried_out tried answer_of woken woken_boxes channel_tried
opened = record { is_carried = refl; linked = refl; by_itself = refl }

-- and one that closes one, with Le
closed : HasBoth (0x00 ∷ 0x70 ∷ 0x80 ∷ 0x01 ∷ 0x05 ∷ []) (0x69 ∷ 0x85 ∷ [])
unfolding command_in fields_in transfer_in link_answer command_answer refused_if given and_given instruction_tried carried_out tried answer_of woken woken_boxes channel_tried
closed = record { is_carried = refl; linked = refl; by_itself = refl }

-- an instruction that isn't known
unknown : HasBoth (0x00 ∷ 0xAA ∷ 0x00 ∷ 0x00 ∷ 0x05 ∷ []) (0x6D ∷ 0x00 ∷ [])
unfolding command_in fields_in transfer_in link_answer command_answer refused_if given and_given instruction_tried carried_out tried answer_of woken woken_boxes
unknown = record { is_carried = refl; linked = refl; by_itself = refl }

-- ---- a trace

abbrev line_in_the_end : TraceItem → Course → TraceItem
line_in_the_end reply (Answers linked) = item_of linked.answer
line_in_the_end reply (Passes apdu make) = shown_over make reply

-- what the trace shows of a command over a link that keeps nothing, where it shows this of what is passed by itself
abbrev line_over : List ℕ → TraceItem → Option TraceItem
line_over bytes reply = option_map (λ command. line_in_the_end reply (command_answer None command)) (command_in bytes)

abbrev select_header : List ℕ → List ℕ
select_header fields = 0x00 ∷ 0xA4 ∷ 0x00 ∷ 0x04 ∷ 0x02 ∷ 0x2F ∷ 0xE2 ∷ fields

-- an answer is cut to Le
answer_over : line_over (select_header (0x02 ∷ [])) (item.Answer (0x62 ∷ 0x12 ∷ 0x82 ∷ []) (record { 0 = 0x9110 })) ≡ Some (item.Answer (0x62 ∷ 0x12 ∷ []) (record { 0 = 0x9110 }))
unfolding command_in fields_in transfer_in link_answer command_answer
answer_over = refl

failure_over : line_over (select_header (0x02 ∷ [])) (item.Answer [] (record { 0 = 0x6581 })) ≡ Some (item.Answer [] (record { 0 = 0x6581 }))
unfolding command_in fields_in transfer_in link_answer command_answer
failure_over = refl

cut_over : line_over (select_header (0x02 ∷ [])) item.Cut ≡ Some item.Cut
unfolding command_in fields_in transfer_in link_answer command_answer
cut_over = refl

off_over : line_over (select_header (0x02 ∷ [])) item.Off ≡ Some item.Off
unfolding command_in fields_in transfer_in link_answer command_answer
off_over = refl

-- what is passed is a step of the card, and so is the command by itself; both leave the same card
abbrev Selects : List ℕ → List ℕ → Type 0
Selects bytes body = StepGives (powered card) (step.Apdu bytes) (shown_for bytes (item.Answer body (record { 0 = 0x9000 }))) (powered (answer card (select_header [])).state)

passed_step : Selects (select_header []) (0x62 ∷ 0x12 ∷ 0x82 ∷ 0x02 ∷ 0x41 ∷ 0x21 ∷ 0x83 ∷ 0x02 ∷ 0x2F ∷ 0xE2 ∷ 0x8A ∷ 0x01 ∷ 0x05 ∷ 0x80 ∷ 0x02 ∷ 0x00 ∷ 0x03 ∷ 0x88 ∷ 0x01 ∷ 0x10 ∷ [])
unfolding command_in fields_in refused_if given and_given instruction_tried carried_out file_outcome tried answer_of woken woken_boxes descriptor_in descriptors_in file_found file_selected selecting chosen chosen_by_identifier selection_of fcp object
passed_step = inl (record { seen = refl; moved = refl })

own_step : Selects (select_header (0x02 ∷ [])) (0x62 ∷ 0x12 ∷ [])
unfolding command_in fields_in refused_if given and_given instruction_tried carried_out file_outcome tried answer_of woken woken_boxes descriptor_in descriptors_in file_found file_selected selecting chosen chosen_by_identifier selection_of fcp object
own_step = inl (record { seen = refl; moved = refl })
