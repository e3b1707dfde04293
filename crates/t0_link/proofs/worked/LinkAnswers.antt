-- The link, computed: an exchange with a card, each length that can be answered, and a TPDU of each instruction.
use Rattle.std.proofs.Common.{◌≡◌, ℕ, List, [], ◌∷◌, replicate, Some, None, refl, Option, if◌then◌else◌, option_map}
use Rattle.uicc_types.specs.declared.answers.Answer.{Answer}
use Rattle.apdu_form.specs.Model.{Apdu, command_in, fields_in}
use Rattle.t0_link.specs.declared.tpdus.Transfer.TheVariants.{GetResponse, Outgoing, Incoming}
use Rattle.t0_link.specs.Tpdus.{transfer_in, apdu_of}
use Rattle.t0_link.specs.Linking.{Linked, Course, Answers, Passes, link_answer, given, kept_back}
use Rattle.t0_link.specs.Carrying.{carried, tpdu_of, command_answer}

abbrev answered : List ℕ → ℕ → Answer
answered body status = record { body = body; status = record { 0 = status } }

-- the link answers this, and keeps this
abbrev leaves : Answer → Option Answer → Linked
leaves answer kept = record { answer = answer; kept = kept }

-- what comes of it where the card, if it is asked, answers so
abbrev outcome : Course → Answer → Linked
outcome (Answers own) answer = own
outcome (Passes apdu linked) answer = linked answer

-- ---- an EF is selected, its parameters are fetched, and it is read

abbrev select : List ℕ
select = 0x00 ∷ 0xA4 ∷ 0x00 ∷ 0x04 ∷ 0x02 ∷ 0x2F ∷ 0xE2 ∷ []

abbrev parameters : Answer
parameters =
    answered (0x62 ∷ 0x12 ∷ 0x82 ∷ 0x02 ∷ 0x41 ∷ 0x21 ∷ 0x83 ∷ 0x02 ∷ 0x2F ∷ 0xE2 ∷ 0x8A ∷ 0x01 ∷ 0x05 ∷ 0x80 ∷ 0x02 ∷ 0x00 ∷ 0x0A ∷ 0x88 ∷ 0x01 ∷ 0x10 ∷ []) 0x9000

abbrev get_response : ℕ → List ℕ
get_response p3 = 0x00 ∷ 0xC0 ∷ 0x00 ∷ 0x00 ∷ p3 ∷ []

select_is_passed : link_answer None select ≡ Passes select kept_back
unfolding link_answer transfer_in
select_is_passed = refl

parameters_wait : kept_back parameters ≡ leaves (answered [] 0x6114) (Some parameters)
parameters_wait = refl

another_length : link_answer (Some parameters) (get_response 0x13) ≡ Answers (leaves (answered [] 0x6C14) (Some parameters))
unfolding link_answer transfer_in
another_length = refl

their_length : link_answer (Some parameters) (get_response 0x14) ≡ Answers (leaves parameters None)
unfolding link_answer transfer_in
their_length = refl

nothing_waits : link_answer None (get_response 0x14) ≡ Answers (leaves (answered [] 0x6985) None)
unfolding link_answer transfer_in
nothing_waits = refl

read_is_passed : link_answer None (0x00 ∷ 0xB0 ∷ 0x00 ∷ 0x00 ∷ 0x02 ∷ []) ≡ Passes (0x00 ∷ 0xB0 ∷ 0x00 ∷ 0x00 ∷ 0x02 ∷ []) given
unfolding link_answer transfer_in
read_is_passed = refl

read_is_given : given (answered (0x98 ∷ 0x10 ∷ []) 0x9000) ≡ leaves (answered (0x98 ∷ 0x10 ∷ []) 0x9000) None
read_is_given = refl

not_found : kept_back (answered [] 0x6A82) ≡ leaves (answered [] 0x6A82) None
not_found = refl

-- ---- bytes that are no TPDU, and what is kept stays

no_p3 : link_answer (Some parameters) (0x00 ∷ 0xB0 ∷ 0x00 ∷ 0x00 ∷ []) ≡ Answers (leaves (answered [] 0x6700) (Some parameters))
unfolding link_answer transfer_in
no_p3 = refl

no_bytes : link_answer None [] ≡ Answers (leaves (answered [] 0x6700) None)
unfolding link_answer transfer_in
no_bytes = refl

one_byte_short : transfer_in (0x00 ∷ 0xA4 ∷ 0x00 ∷ 0x04 ∷ 0x02 ∷ 0x2F ∷ []) ≡ None
unfolding transfer_in
one_byte_short = refl

one_byte_over : transfer_in (0x00 ∷ 0xA4 ∷ 0x00 ∷ 0x04 ∷ 0x02 ∷ 0x2F ∷ 0xE2 ∷ 0x00 ∷ []) ≡ None
unfolding transfer_in
one_byte_over = refl

data_to_read : transfer_in (0x00 ∷ 0xB0 ∷ 0x00 ∷ 0x00 ∷ 0x01 ∷ 0xFF ∷ []) ≡ None
unfolding transfer_in
data_to_read = refl

data_to_fetch : transfer_in (0x00 ∷ 0xC0 ∷ 0x00 ∷ 0x00 ∷ 0x01 ∷ 0xFF ∷ []) ≡ None
unfolding transfer_in
data_to_fetch = refl

-- ---- lengths, and statuses with data

abbrev full : Answer
full = answered (replicate 256 0xFF) 0x9000

full_waits : kept_back full ≡ leaves (answered [] 0x6100) (Some full)
full_waits = refl

full_is_longer : link_answer (Some full) (get_response 0xFF) ≡ Answers (leaves (answered [] 0x6C00) (Some full))
unfolding link_answer transfer_in
full_is_longer = refl

full_is_fetched : link_answer (Some full) (get_response 0x00) ≡ Answers (leaves full None)
unfolding link_answer transfer_in
full_is_fetched = refl

a_warning_is_kept : kept_back (answered (0x01 ∷ []) 0x6282) ≡ leaves (answered [] 0x6101) (Some (answered (0x01 ∷ []) 0x6282))
a_warning_is_kept = refl

another_class_fetches : link_answer (Some parameters) (0x81 ∷ 0xC0 ∷ 0x12 ∷ 0x34 ∷ 0x14 ∷ []) ≡ Answers (leaves parameters None)
unfolding link_answer transfer_in
another_class_fetches = refl

another_command_drops : outcome (link_answer (Some parameters) (0x00 ∷ 0x20 ∷ 0x00 ∷ 0x01 ∷ 0x00 ∷ [])) (answered [] 0x63C3) ≡ leaves (answered [] 0x63C3) None
unfolding link_answer transfer_in
another_command_drops = refl

-- ---- a TPDU of each instruction

select_goes : transfer_in (0x00 ∷ 0xA4 ∷ 0x00 ∷ 0x0C ∷ 0x02 ∷ 0x3F ∷ 0x00 ∷ []) ≡ Some Incoming
unfolding transfer_in
select_goes = refl

status_comes : transfer_in (0x80 ∷ 0xF2 ∷ 0x00 ∷ 0x00 ∷ 0x22 ∷ []) ≡ Some Outgoing
unfolding transfer_in
status_comes = refl

read_binary_comes : transfer_in (0x00 ∷ 0xB0 ∷ 0x00 ∷ 0x00 ∷ 0x0A ∷ []) ≡ Some Outgoing
unfolding transfer_in
read_binary_comes = refl

update_binary_goes : transfer_in (0x00 ∷ 0xD6 ∷ 0x00 ∷ 0x00 ∷ 0x02 ∷ 0xAA ∷ 0xBB ∷ []) ≡ Some Incoming
unfolding transfer_in
update_binary_goes = refl

read_record_comes : transfer_in (0x00 ∷ 0xB2 ∷ 0x01 ∷ 0x04 ∷ 0x1C ∷ []) ≡ Some Outgoing
unfolding transfer_in
read_record_comes = refl

update_record_goes : transfer_in (0x00 ∷ 0xDC ∷ 0x01 ∷ 0x04 ∷ 0x02 ∷ 0xAA ∷ 0xBB ∷ []) ≡ Some Incoming
unfolding transfer_in
update_record_goes = refl

search_record_goes : transfer_in (0x00 ∷ 0xA2 ∷ 0x01 ∷ 0x04 ∷ 0x01 ∷ 0xAA ∷ []) ≡ Some Incoming
unfolding transfer_in
search_record_goes = refl

increase_goes : transfer_in (0x80 ∷ 0x32 ∷ 0x00 ∷ 0x00 ∷ 0x03 ∷ 0x00 ∷ 0x00 ∷ 0x01 ∷ []) ≡ Some Incoming
unfolding transfer_in
increase_goes = refl

deactivate_goes : transfer_in (0x00 ∷ 0x04 ∷ 0x00 ∷ 0x00 ∷ 0x00 ∷ []) ≡ Some Incoming
unfolding transfer_in
deactivate_goes = refl

activate_goes : transfer_in (0x00 ∷ 0x44 ∷ 0x00 ∷ 0x00 ∷ 0x00 ∷ []) ≡ Some Incoming
unfolding transfer_in
activate_goes = refl

verify_goes : transfer_in (0x00 ∷ 0x20 ∷ 0x00 ∷ 0x01 ∷ 0x08 ∷ 0x31 ∷ 0x32 ∷ 0x33 ∷ 0x34 ∷ 0xFF ∷ 0xFF ∷ 0xFF ∷ 0xFF ∷ []) ≡ Some Incoming
unfolding transfer_in
verify_goes = refl

verify_without_data_goes : transfer_in (0x00 ∷ 0x20 ∷ 0x00 ∷ 0x01 ∷ 0x00 ∷ []) ≡ Some Incoming
unfolding transfer_in
verify_without_data_goes = refl

change_goes : transfer_in (0x00 ∷ 0x24 ∷ 0x00 ∷ 0x01 ∷ 0x10 ∷ 0x31 ∷ 0x32 ∷ 0x33 ∷ 0x34 ∷ 0xFF ∷ 0xFF ∷ 0xFF ∷ 0xFF ∷ 0x35 ∷ 0x36 ∷ 0x37 ∷ 0x38 ∷ 0xFF ∷ 0xFF ∷ 0xFF ∷ 0xFF ∷ []) ≡ Some Incoming
unfolding transfer_in
change_goes = refl

disable_goes : transfer_in (0x00 ∷ 0x26 ∷ 0x00 ∷ 0x01 ∷ 0x08 ∷ 0x31 ∷ 0x32 ∷ 0x33 ∷ 0x34 ∷ 0xFF ∷ 0xFF ∷ 0xFF ∷ 0xFF ∷ []) ≡ Some Incoming
unfolding transfer_in
disable_goes = refl

enable_goes : transfer_in (0x00 ∷ 0x28 ∷ 0x00 ∷ 0x01 ∷ 0x08 ∷ 0x31 ∷ 0x32 ∷ 0x33 ∷ 0x34 ∷ 0xFF ∷ 0xFF ∷ 0xFF ∷ 0xFF ∷ []) ≡ Some Incoming
unfolding transfer_in
enable_goes = refl

unblock_goes : transfer_in (0x00 ∷ 0x2C ∷ 0x00 ∷ 0x01 ∷ 0x10 ∷ 0x31 ∷ 0x32 ∷ 0x33 ∷ 0x34 ∷ 0xFF ∷ 0xFF ∷ 0xFF ∷ 0xFF ∷ 0x35 ∷ 0x36 ∷ 0x37 ∷ 0x38 ∷ 0xFF ∷ 0xFF ∷ 0xFF ∷ 0xFF ∷ []) ≡ Some Incoming
unfolding transfer_in
unblock_goes = refl

opening_a_channel_comes : transfer_in (0x00 ∷ 0x70 ∷ 0x00 ∷ 0x00 ∷ 0x01 ∷ []) ≡ Some Outgoing
unfolding transfer_in
opening_a_channel_comes = refl

closing_a_channel_goes : transfer_in (0x00 ∷ 0x70 ∷ 0x80 ∷ 0x01 ∷ 0x00 ∷ []) ≡ Some Incoming
unfolding transfer_in
closing_a_channel_goes = refl

profile_goes : transfer_in (0x80 ∷ 0x10 ∷ 0x00 ∷ 0x00 ∷ 0x02 ∷ 0xFF ∷ 0xFF ∷ []) ≡ Some Incoming
unfolding transfer_in
profile_goes = refl

fetch_comes : transfer_in (0x80 ∷ 0x12 ∷ 0x00 ∷ 0x00 ∷ 0x12 ∷ []) ≡ Some Outgoing
unfolding transfer_in
fetch_comes = refl

response_goes : transfer_in (0x80 ∷ 0x14 ∷ 0x00 ∷ 0x00 ∷ 0x0C ∷ 0x81 ∷ 0x03 ∷ 0x01 ∷ 0x25 ∷ 0x00 ∷ 0x82 ∷ 0x02 ∷ 0x82 ∷ 0x81 ∷ 0x83 ∷ 0x01 ∷ 0x00 ∷ []) ≡ Some Incoming
unfolding transfer_in
response_goes = refl

envelope_goes : transfer_in (0x80 ∷ 0xC2 ∷ 0x00 ∷ 0x00 ∷ 0x09 ∷ 0xD3 ∷ 0x07 ∷ 0x82 ∷ 0x02 ∷ 0x01 ∷ 0x81 ∷ 0x90 ∷ 0x01 ∷ 0x01 ∷ []) ≡ Some Incoming
unfolding transfer_in
envelope_goes = refl

install_goes : transfer_in (0xF0 ∷ 0xE6 ∷ 0x00 ∷ 0x00 ∷ 0x01 ∷ 0xAA ∷ []) ≡ Some Incoming
unfolding transfer_in
install_goes = refl

delete_goes : transfer_in (0xF0 ∷ 0xE4 ∷ 0x00 ∷ 0x00 ∷ 0x01 ∷ 0xAA ∷ []) ≡ Some Incoming
unfolding transfer_in
delete_goes = refl

get_response_asks : transfer_in (0x00 ∷ 0xC0 ∷ 0x00 ∷ 0x00 ∷ 0x14 ∷ []) ≡ Some GetResponse
unfolding transfer_in
get_response_asks = refl

-- the APDU of one whose data go to the card, with data and without

with_its_p3 : apdu_of (0x00 ∷ 0xD6 ∷ 0x00 ∷ 0x00 ∷ 0x02 ∷ 0xAA ∷ 0xBB ∷ []) ≡ 0x00 ∷ 0xD6 ∷ 0x00 ∷ 0x00 ∷ 0x02 ∷ 0xAA ∷ 0xBB ∷ []
with_its_p3 = refl

without_p3 : apdu_of (0x00 ∷ 0x44 ∷ 0x00 ∷ 0x00 ∷ 0x00 ∷ []) ≡ 0x00 ∷ 0x44 ∷ 0x00 ∷ 0x00 ∷ []
without_p3 = refl

-- ---- commands that are carried, and their TPDUs

-- the TPDU of a command that is carried
abbrev sent_as : List ℕ → Option (List ℕ)
sent_as bytes = if carried bytes then option_map tpdu_of (command_in bytes) else None

status_without_le : sent_as (0x80 ∷ 0xF2 ∷ 0x00 ∷ 0x0C ∷ []) ≡ Some (0x80 ∷ 0xF2 ∷ 0x00 ∷ 0x0C ∷ 0x00 ∷ [])
unfolding command_in fields_in
status_without_le = refl

status_with_le : sent_as (0x80 ∷ 0xF2 ∷ 0x00 ∷ 0x00 ∷ 0x22 ∷ []) ≡ Some (0x80 ∷ 0xF2 ∷ 0x00 ∷ 0x00 ∷ 0x22 ∷ [])
unfolding command_in fields_in
status_with_le = refl

read_all : sent_as (0x00 ∷ 0xB0 ∷ 0x00 ∷ 0x00 ∷ 0x00 ∷ []) ≡ Some (0x00 ∷ 0xB0 ∷ 0x00 ∷ 0x00 ∷ 0x00 ∷ [])
unfolding command_in fields_in
read_all = refl

select_with_le : sent_as (0x00 ∷ 0xA4 ∷ 0x00 ∷ 0x04 ∷ 0x02 ∷ 0x2F ∷ 0xE2 ∷ 0x00 ∷ []) ≡ Some (0x00 ∷ 0xA4 ∷ 0x00 ∷ 0x04 ∷ 0x02 ∷ 0x2F ∷ 0xE2 ∷ [])
unfolding command_in fields_in
select_with_le = refl

select_without_le : sent_as (0x00 ∷ 0xA4 ∷ 0x00 ∷ 0x0C ∷ 0x02 ∷ 0x3F ∷ 0x00 ∷ []) ≡ Some (0x00 ∷ 0xA4 ∷ 0x00 ∷ 0x0C ∷ 0x02 ∷ 0x3F ∷ 0x00 ∷ [])
unfolding command_in fields_in
select_without_le = refl

verify_without_data : sent_as (0x00 ∷ 0x20 ∷ 0x00 ∷ 0x01 ∷ []) ≡ Some (0x00 ∷ 0x20 ∷ 0x00 ∷ 0x01 ∷ 0x00 ∷ [])
unfolding command_in fields_in
verify_without_data = refl

close_with_le : sent_as (0x00 ∷ 0x70 ∷ 0x80 ∷ 0x01 ∷ 0x00 ∷ []) ≡ Some (0x00 ∷ 0x70 ∷ 0x80 ∷ 0x01 ∷ 0x00 ∷ [])
unfolding command_in fields_in
close_with_le = refl

read_without_le : sent_as (0x00 ∷ 0xB0 ∷ 0x00 ∷ 0x00 ∷ []) ≡ None
unfolding command_in fields_in
read_without_le = refl

read_with_data : sent_as (0x00 ∷ 0xB0 ∷ 0x00 ∷ 0x00 ∷ 0x01 ∷ 0xFF ∷ 0x00 ∷ []) ≡ None
unfolding command_in fields_in
read_with_data = refl

status_with_data : sent_as (0x80 ∷ 0xF2 ∷ 0x00 ∷ 0x00 ∷ 0x01 ∷ 0xFF ∷ []) ≡ None
unfolding command_in fields_in
status_with_data = refl

open_without_le : sent_as (0x00 ∷ 0x70 ∷ 0x00 ∷ 0x00 ∷ []) ≡ None
unfolding command_in fields_in
open_without_le = refl

get_response_as_a_command : sent_as (0x00 ∷ 0xC0 ∷ 0x00 ∷ 0x00 ∷ 0x14 ∷ []) ≡ None
unfolding command_in fields_in
get_response_as_a_command = refl

no_command_is_carried : sent_as (0x00 ∷ 0xA4 ∷ 0x00 ∷ []) ≡ None
unfolding command_in
no_command_is_carried = refl

-- ---- what a terminal has in the end

abbrev select_command : ℕ → Apdu
select_command expected = record { class = 0x00; ins = 0xA4; p1 = 0x00; p2 = 0x04; body = 0x2F ∷ 0xE2 ∷ []; expected = Some expected }

the_whole_is_received : outcome (command_answer None (select_command 256)) parameters ≡ leaves parameters None
unfolding command_answer link_answer transfer_in
the_whole_is_received = refl

the_front_is_received : outcome (command_answer (Some full) (select_command 2)) parameters ≡ leaves (answered (0x62 ∷ 0x12 ∷ []) 0x9000) None
unfolding command_answer link_answer transfer_in
the_front_is_received = refl

all_256_are_received : outcome (command_answer None (select_command 256)) full ≡ leaves full None
unfolding command_answer link_answer transfer_in
all_256_are_received = refl

a_refusal_is_received : outcome (command_answer None (select_command 256)) (answered [] 0x6A82) ≡ leaves (answered [] 0x6A82) None
unfolding command_answer link_answer transfer_in
a_refusal_is_received = refl

a_right_le_is_told : outcome (command_answer None (record { class = 0x00; ins = 0xB2; p1 = 0x01; p2 = 0x04; body = []; expected = Some 1 })) (answered [] 0x6C1C) ≡ leaves (answered [] 0x6C1C) None
unfolding command_answer link_answer transfer_in
a_right_le_is_told = refl
