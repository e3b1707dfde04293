-- The definitions, computed: a channel that is opened, written, read and closed, and each refusal.
use Rattle.std.proofs.Common.{◌≡◌, ℕ, true, false, List, [], ◌∷◌, replicate, Option, Some, None, refl}
use Rattle.comprehension_tlv.specs.Reading.{template_of, value_at, length_at, tag_at, object_at, outline_at, outline_within}
use Rattle.comprehension_tlv.specs.Writing.{tagged}
use Rattle.toolkit_commands.specs.Reading.{list_of, details_found}
use Rattle.toolkit_commands.specs.Steps.{template_in, needed}
use Rattle.bip_channels.specs.Reading.{opening_in, closing_in, receiving_in, sending_in, status_in, command_in, command_of, bip_of}
use Rattle.bip_channels.specs.Channels.{BipChannel, new_channel, none_open, carried_out, answered, echoed, cut}

-- ---- states

abbrev one : BipChannel → List (Option BipChannel)
one channel = Some channel ∷ replicate 6 None

abbrev channel : List ℕ → List ℕ → ℕ → ℕ → BipChannel
channel stored sent back taken = record { size = 16; stored = stored; sent = sent; back = back; taken = taken; dropped = false }

abbrev lost : BipChannel
lost = record (new_channel 16) { dropped = true }

abbrev abc : List ℕ
abc = 0x41 ∷ 0x42 ∷ 0x43 ∷ []

-- ---- from OPEN CHANNEL to CLOSE CHANNEL

opens : (answered (0xD0 ∷ 0x10 ∷ 0x81 ∷ 0x03 ∷ 0x01 ∷ 0x40 ∷ 0x01 ∷ 0x82 ∷ 0x02 ∷ 0x81 ∷ 0x82 ∷ 0xB5 ∷ 0x01 ∷ 0x03 ∷ 0xB9 ∷ 0x02 ∷ 0x00 ∷ 0x10 ∷ []) none_open).response ≡ (0x81 ∷ 0x03 ∷ 0x01 ∷ 0x40 ∷ 0x01 ∷ 0x82 ∷ 0x02 ∷ 0x82 ∷ 0x81 ∷ 0x83 ∷ 0x01 ∷ 0x00 ∷ 0xB8 ∷ 0x02 ∷ 0x81 ∷ 0x00 ∷ 0xB5 ∷ 0x01 ∷ 0x03 ∷ 0xB9 ∷ 0x02 ∷ 0x00 ∷ 0x10 ∷ [])
unfolding answered carried_out bip_of command_of command_in opening_in closing_in receiving_in sending_in status_in template_in needed details_found list_of template_of value_at length_at tag_at object_at outline_at outline_within tagged
opens = refl

opens_leaves : (answered (0xD0 ∷ 0x10 ∷ 0x81 ∷ 0x03 ∷ 0x01 ∷ 0x40 ∷ 0x01 ∷ 0x82 ∷ 0x02 ∷ 0x81 ∷ 0x82 ∷ 0xB5 ∷ 0x01 ∷ 0x03 ∷ 0xB9 ∷ 0x02 ∷ 0x00 ∷ 0x10 ∷ []) none_open).channels ≡ one (channel [] [] 0 0)
unfolding answered carried_out bip_of command_of command_in opening_in closing_in receiving_in sending_in status_in template_in needed details_found list_of template_of value_at length_at tag_at object_at outline_at outline_within tagged
opens_leaves = refl

sends : (answered (0xD0 ∷ 0x0E ∷ 0x81 ∷ 0x03 ∷ 0x02 ∷ 0x43 ∷ 0x01 ∷ 0x82 ∷ 0x02 ∷ 0x81 ∷ 0x21 ∷ 0xB6 ∷ 0x03 ∷ 0x41 ∷ 0x42 ∷ 0x43 ∷ []) (one (channel [] [] 0 0))).response ≡ (0x81 ∷ 0x03 ∷ 0x02 ∷ 0x43 ∷ 0x01 ∷ 0x82 ∷ 0x02 ∷ 0x82 ∷ 0x81 ∷ 0x83 ∷ 0x01 ∷ 0x00 ∷ 0xB7 ∷ 0x01 ∷ 0x10 ∷ [])
unfolding answered carried_out bip_of command_of command_in opening_in closing_in receiving_in sending_in status_in template_in needed details_found list_of template_of value_at length_at tag_at object_at outline_at outline_within tagged
sends = refl

sends_leaves : (answered (0xD0 ∷ 0x0E ∷ 0x81 ∷ 0x03 ∷ 0x02 ∷ 0x43 ∷ 0x01 ∷ 0x82 ∷ 0x02 ∷ 0x81 ∷ 0x21 ∷ 0xB6 ∷ 0x03 ∷ 0x41 ∷ 0x42 ∷ 0x43 ∷ []) (one (channel [] [] 0 0))).channels ≡ one (channel [] abc 0 0)
unfolding answered carried_out bip_of command_of command_in opening_in closing_in receiving_in sending_in status_in template_in needed details_found list_of template_of value_at length_at tag_at object_at outline_at outline_within tagged
sends_leaves = refl

comes_back : (echoed 1 2 (one (channel [] abc 0 0))).event ≡ Some (0xD6 ∷ 0x0E ∷ 0x99 ∷ 0x01 ∷ 0x09 ∷ 0x82 ∷ 0x02 ∷ 0x82 ∷ 0x81 ∷ 0xB8 ∷ 0x02 ∷ 0x81 ∷ 0x00 ∷ 0xB7 ∷ 0x01 ∷ 0x02 ∷ [])
unfolding echoed cut tagged
comes_back = refl

comes_back_leaves : (echoed 1 2 (one (channel [] abc 0 0))).channels ≡ one (channel [] abc 2 0)
unfolding echoed cut tagged
comes_back_leaves = refl

takes : (answered (0xD0 ∷ 0x0C ∷ 0x81 ∷ 0x03 ∷ 0x03 ∷ 0x42 ∷ 0x00 ∷ 0x82 ∷ 0x02 ∷ 0x81 ∷ 0x21 ∷ 0xB7 ∷ 0x01 ∷ 0x02 ∷ []) (one (channel [] abc 2 0))).response ≡ (0x81 ∷ 0x03 ∷ 0x03 ∷ 0x42 ∷ 0x00 ∷ 0x82 ∷ 0x02 ∷ 0x82 ∷ 0x81 ∷ 0x83 ∷ 0x01 ∷ 0x00 ∷ 0xB6 ∷ 0x02 ∷ 0x41 ∷ 0x42 ∷ 0xB7 ∷ 0x01 ∷ 0x00 ∷ [])
unfolding answered carried_out bip_of command_of command_in opening_in closing_in receiving_in sending_in status_in template_in needed details_found list_of template_of value_at length_at tag_at object_at outline_at outline_within tagged
takes = refl

takes_leaves : (answered (0xD0 ∷ 0x0C ∷ 0x81 ∷ 0x03 ∷ 0x03 ∷ 0x42 ∷ 0x00 ∷ 0x82 ∷ 0x02 ∷ 0x81 ∷ 0x21 ∷ 0xB7 ∷ 0x01 ∷ 0x02 ∷ []) (one (channel [] abc 2 0))).channels ≡ one (channel [] abc 2 2)
unfolding answered carried_out bip_of command_of command_in opening_in closing_in receiving_in sending_in status_in template_in needed details_found list_of template_of value_at length_at tag_at object_at outline_at outline_within tagged
takes_leaves = refl

-- nothing waits
takes_none : (answered (0xD0 ∷ 0x0C ∷ 0x81 ∷ 0x03 ∷ 0x03 ∷ 0x42 ∷ 0x00 ∷ 0x82 ∷ 0x02 ∷ 0x81 ∷ 0x21 ∷ 0xB7 ∷ 0x01 ∷ 0x02 ∷ []) (one (channel [] abc 2 2))).response ≡ (0x81 ∷ 0x03 ∷ 0x03 ∷ 0x42 ∷ 0x00 ∷ 0x82 ∷ 0x02 ∷ 0x82 ∷ 0x81 ∷ 0x83 ∷ 0x01 ∷ 0x02 ∷ 0xB6 ∷ 0x00 ∷ 0xB7 ∷ 0x01 ∷ 0x00 ∷ [])
unfolding answered carried_out bip_of command_of command_in opening_in closing_in receiving_in sending_in status_in template_in needed details_found list_of template_of value_at length_at tag_at object_at outline_at outline_within tagged
takes_none = refl

takes_none_leaves : (answered (0xD0 ∷ 0x0C ∷ 0x81 ∷ 0x03 ∷ 0x03 ∷ 0x42 ∷ 0x00 ∷ 0x82 ∷ 0x02 ∷ 0x81 ∷ 0x21 ∷ 0xB7 ∷ 0x01 ∷ 0x02 ∷ []) (one (channel [] abc 2 2))).channels ≡ one (channel [] abc 2 2)
unfolding answered carried_out bip_of command_of command_in opening_in closing_in receiving_in sending_in status_in template_in needed details_found list_of template_of value_at length_at tag_at object_at outline_at outline_within tagged
takes_none_leaves = refl

closes : (answered (0xD0 ∷ 0x09 ∷ 0x81 ∷ 0x03 ∷ 0x04 ∷ 0x41 ∷ 0x00 ∷ 0x82 ∷ 0x02 ∷ 0x81 ∷ 0x21 ∷ []) (one (channel [] abc 2 2))).response ≡ (0x81 ∷ 0x03 ∷ 0x04 ∷ 0x41 ∷ 0x00 ∷ 0x82 ∷ 0x02 ∷ 0x82 ∷ 0x81 ∷ 0x83 ∷ 0x01 ∷ 0x00 ∷ [])
unfolding answered carried_out bip_of command_of command_in opening_in closing_in receiving_in sending_in status_in template_in needed details_found list_of template_of value_at length_at tag_at object_at outline_at outline_within tagged
closes = refl

closes_leaves : (answered (0xD0 ∷ 0x09 ∷ 0x81 ∷ 0x03 ∷ 0x04 ∷ 0x41 ∷ 0x00 ∷ 0x82 ∷ 0x02 ∷ 0x81 ∷ 0x21 ∷ []) (one (channel [] abc 2 2))).channels ≡ none_open
unfolding answered carried_out bip_of command_of command_in opening_in closing_in receiving_in sending_in status_in template_in needed details_found list_of template_of value_at length_at tag_at object_at outline_at outline_within tagged
closes_leaves = refl

closes_again : (answered (0xD0 ∷ 0x09 ∷ 0x81 ∷ 0x03 ∷ 0x04 ∷ 0x41 ∷ 0x00 ∷ 0x82 ∷ 0x02 ∷ 0x81 ∷ 0x21 ∷ []) none_open).response ≡ (0x81 ∷ 0x03 ∷ 0x04 ∷ 0x41 ∷ 0x00 ∷ 0x82 ∷ 0x02 ∷ 0x82 ∷ 0x81 ∷ 0x83 ∷ 0x02 ∷ 0x3A ∷ 0x03 ∷ [])
unfolding answered carried_out bip_of command_of command_in opening_in closing_in receiving_in sending_in status_in template_in needed details_found list_of template_of value_at length_at tag_at object_at outline_at outline_within tagged
closes_again = refl

closes_again_leaves : (answered (0xD0 ∷ 0x09 ∷ 0x81 ∷ 0x03 ∷ 0x04 ∷ 0x41 ∷ 0x00 ∷ 0x82 ∷ 0x02 ∷ 0x81 ∷ 0x21 ∷ []) none_open).channels ≡ none_open
unfolding answered carried_out bip_of command_of command_in opening_in closing_in receiving_in sending_in status_in template_in needed details_found list_of template_of value_at length_at tag_at object_at outline_at outline_within tagged
closes_again_leaves = refl

-- ---- more of each command

-- the bytes are kept after those that were
stores : (answered (0xD0 ∷ 0x0E ∷ 0x81 ∷ 0x03 ∷ 0x02 ∷ 0x43 ∷ 0x00 ∷ 0x82 ∷ 0x02 ∷ 0x81 ∷ 0x21 ∷ 0xB6 ∷ 0x03 ∷ 0x41 ∷ 0x42 ∷ 0x43 ∷ []) (one (channel (0x40 ∷ []) [] 0 0))).response ≡ (0x81 ∷ 0x03 ∷ 0x02 ∷ 0x43 ∷ 0x00 ∷ 0x82 ∷ 0x02 ∷ 0x82 ∷ 0x81 ∷ 0x83 ∷ 0x01 ∷ 0x00 ∷ 0xB7 ∷ 0x01 ∷ 0x0C ∷ [])
unfolding answered carried_out bip_of command_of command_in opening_in closing_in receiving_in sending_in status_in template_in needed details_found list_of template_of value_at length_at tag_at object_at outline_at outline_within tagged
stores = refl

stores_leaves : (answered (0xD0 ∷ 0x0E ∷ 0x81 ∷ 0x03 ∷ 0x02 ∷ 0x43 ∷ 0x00 ∷ 0x82 ∷ 0x02 ∷ 0x81 ∷ 0x21 ∷ 0xB6 ∷ 0x03 ∷ 0x41 ∷ 0x42 ∷ 0x43 ∷ []) (one (channel (0x40 ∷ []) [] 0 0))).channels ≡ one (channel (0x40 ∷ 0x41 ∷ 0x42 ∷ 0x43 ∷ []) [] 0 0)
unfolding answered carried_out bip_of command_of command_in opening_in closing_in receiving_in sending_in status_in template_in needed details_found list_of template_of value_at length_at tag_at object_at outline_at outline_within tagged
stores_leaves = refl

sends_what_was_kept : (answered (0xD0 ∷ 0x0E ∷ 0x81 ∷ 0x03 ∷ 0x02 ∷ 0x43 ∷ 0x01 ∷ 0x82 ∷ 0x02 ∷ 0x81 ∷ 0x21 ∷ 0xB6 ∷ 0x03 ∷ 0x41 ∷ 0x42 ∷ 0x43 ∷ []) (one (channel (0x40 ∷ []) (0x3F ∷ []) 1 0))).response ≡ (0x81 ∷ 0x03 ∷ 0x02 ∷ 0x43 ∷ 0x01 ∷ 0x82 ∷ 0x02 ∷ 0x82 ∷ 0x81 ∷ 0x83 ∷ 0x01 ∷ 0x00 ∷ 0xB7 ∷ 0x01 ∷ 0x10 ∷ [])
unfolding answered carried_out bip_of command_of command_in opening_in closing_in receiving_in sending_in status_in template_in needed details_found list_of template_of value_at length_at tag_at object_at outline_at outline_within tagged
sends_what_was_kept = refl

sends_what_was_kept_leaves : (answered (0xD0 ∷ 0x0E ∷ 0x81 ∷ 0x03 ∷ 0x02 ∷ 0x43 ∷ 0x01 ∷ 0x82 ∷ 0x02 ∷ 0x81 ∷ 0x21 ∷ 0xB6 ∷ 0x03 ∷ 0x41 ∷ 0x42 ∷ 0x43 ∷ []) (one (channel (0x40 ∷ []) (0x3F ∷ []) 1 0))).channels ≡ one (channel [] (0x3F ∷ 0x40 ∷ 0x41 ∷ 0x42 ∷ 0x43 ∷ []) 1 0)
unfolding answered carried_out bip_of command_of command_in opening_in closing_in receiving_in sending_in status_in template_in needed details_found list_of template_of value_at length_at tag_at object_at outline_at outline_within tagged
sends_what_was_kept_leaves = refl

-- no byte is asked for
takes_nothing : (answered (0xD0 ∷ 0x0C ∷ 0x81 ∷ 0x03 ∷ 0x03 ∷ 0x42 ∷ 0x00 ∷ 0x82 ∷ 0x02 ∷ 0x81 ∷ 0x21 ∷ 0xB7 ∷ 0x01 ∷ 0x00 ∷ []) (one (channel [] abc 2 0))).response ≡ (0x81 ∷ 0x03 ∷ 0x03 ∷ 0x42 ∷ 0x00 ∷ 0x82 ∷ 0x02 ∷ 0x82 ∷ 0x81 ∷ 0x83 ∷ 0x01 ∷ 0x00 ∷ 0xB6 ∷ 0x00 ∷ 0xB7 ∷ 0x01 ∷ 0x02 ∷ [])
unfolding answered carried_out bip_of command_of command_in opening_in closing_in receiving_in sending_in status_in template_in needed details_found list_of template_of value_at length_at tag_at object_at outline_at outline_within tagged
takes_nothing = refl

takes_nothing_leaves : (answered (0xD0 ∷ 0x0C ∷ 0x81 ∷ 0x03 ∷ 0x03 ∷ 0x42 ∷ 0x00 ∷ 0x82 ∷ 0x02 ∷ 0x81 ∷ 0x21 ∷ 0xB7 ∷ 0x01 ∷ 0x00 ∷ []) (one (channel [] abc 2 0))).channels ≡ one (channel [] abc 2 0)
unfolding answered carried_out bip_of command_of command_in opening_in closing_in receiving_in sending_in status_in template_in needed details_found list_of template_of value_at length_at tag_at object_at outline_at outline_within tagged
takes_nothing_leaves = refl

next_channel : (answered (0xD0 ∷ 0x10 ∷ 0x81 ∷ 0x03 ∷ 0x01 ∷ 0x40 ∷ 0x01 ∷ 0x82 ∷ 0x02 ∷ 0x81 ∷ 0x82 ∷ 0xB5 ∷ 0x01 ∷ 0x03 ∷ 0xB9 ∷ 0x02 ∷ 0x05 ∷ 0xDC ∷ []) (one (channel [] [] 0 0))).response ≡ (0x81 ∷ 0x03 ∷ 0x01 ∷ 0x40 ∷ 0x01 ∷ 0x82 ∷ 0x02 ∷ 0x82 ∷ 0x81 ∷ 0x83 ∷ 0x01 ∷ 0x00 ∷ 0xB8 ∷ 0x02 ∷ 0x82 ∷ 0x00 ∷ 0xB5 ∷ 0x01 ∷ 0x03 ∷ 0xB9 ∷ 0x02 ∷ 0x05 ∷ 0xDC ∷ [])
unfolding answered carried_out bip_of command_of command_in opening_in closing_in receiving_in sending_in status_in template_in needed details_found list_of template_of value_at length_at tag_at object_at outline_at outline_within tagged
next_channel = refl

next_channel_leaves : (answered (0xD0 ∷ 0x10 ∷ 0x81 ∷ 0x03 ∷ 0x01 ∷ 0x40 ∷ 0x01 ∷ 0x82 ∷ 0x02 ∷ 0x81 ∷ 0x82 ∷ 0xB5 ∷ 0x01 ∷ 0x03 ∷ 0xB9 ∷ 0x02 ∷ 0x05 ∷ 0xDC ∷ []) (one (channel [] [] 0 0))).channels ≡ Some (channel [] [] 0 0) ∷ Some (new_channel 1500) ∷ replicate 5 None
unfolding answered carried_out bip_of command_of command_in opening_in closing_in receiving_in sending_in status_in template_in needed details_found list_of template_of value_at length_at tag_at object_at outline_at outline_within tagged
next_channel_leaves = refl

no_status : (answered (0xD0 ∷ 0x09 ∷ 0x81 ∷ 0x03 ∷ 0x01 ∷ 0x44 ∷ 0x00 ∷ 0x82 ∷ 0x02 ∷ 0x81 ∷ 0x82 ∷ []) none_open).response ≡ (0x81 ∷ 0x03 ∷ 0x01 ∷ 0x44 ∷ 0x00 ∷ 0x82 ∷ 0x02 ∷ 0x82 ∷ 0x81 ∷ 0x83 ∷ 0x01 ∷ 0x00 ∷ 0xB8 ∷ 0x02 ∷ 0x00 ∷ 0x00 ∷ [])
unfolding answered carried_out bip_of command_of command_in opening_in closing_in receiving_in sending_in status_in template_in needed details_found list_of template_of value_at length_at tag_at object_at outline_at outline_within tagged
no_status = refl

no_status_leaves : (answered (0xD0 ∷ 0x09 ∷ 0x81 ∷ 0x03 ∷ 0x01 ∷ 0x44 ∷ 0x00 ∷ 0x82 ∷ 0x02 ∷ 0x81 ∷ 0x82 ∷ []) none_open).channels ≡ none_open
unfolding answered carried_out bip_of command_of command_in opening_in closing_in receiving_in sending_in status_in template_in needed details_found list_of template_of value_at length_at tag_at object_at outline_at outline_within tagged
no_status_leaves = refl

two_statuses : (answered (0xD0 ∷ 0x09 ∷ 0x81 ∷ 0x03 ∷ 0x01 ∷ 0x44 ∷ 0x00 ∷ 0x82 ∷ 0x02 ∷ 0x81 ∷ 0x82 ∷ []) (None ∷ Some lost ∷ Some (new_channel 1) ∷ replicate 4 None)).response ≡ (0x81 ∷ 0x03 ∷ 0x01 ∷ 0x44 ∷ 0x00 ∷ 0x82 ∷ 0x02 ∷ 0x82 ∷ 0x81 ∷ 0x83 ∷ 0x01 ∷ 0x00 ∷ 0xB8 ∷ 0x02 ∷ 0x02 ∷ 0x05 ∷ 0xB8 ∷ 0x02 ∷ 0x83 ∷ 0x00 ∷ [])
unfolding answered carried_out bip_of command_of command_in opening_in closing_in receiving_in sending_in status_in template_in needed details_found list_of template_of value_at length_at tag_at object_at outline_at outline_within tagged
two_statuses = refl

-- there is nothing
nothing_comes_back : (echoed 1 2 (one (channel [] abc 3 0))).event ≡ None
unfolding echoed cut tagged
nothing_comes_back = refl

nothing_comes_back_leaves : (echoed 1 2 (one (channel [] abc 3 0))).channels ≡ one (channel [] abc 3 0)
unfolding echoed cut tagged
nothing_comes_back_leaves = refl

-- as much waits as the channel has room for
no_room : (echoed 1 4096 (one (record (channel [] abc 2 0) { size = 2 }))).event ≡ None
unfolding echoed cut tagged
no_room = refl

no_room_leaves : (echoed 1 4096 (one (record (channel [] abc 2 0) { size = 2 }))).channels ≡ one (record (channel [] abc 2 0) { size = 2 })
unfolding echoed cut tagged
no_room_leaves = refl

nobody_there : (echoed 2 1 (one (channel [] abc 0 0))).event ≡ None
unfolding echoed cut tagged
nobody_there = refl

nobody_there_leaves : (echoed 2 1 (one (channel [] abc 0 0))).channels ≡ one (channel [] abc 0 0)
unfolding echoed cut tagged
nobody_there_leaves = refl

no_such_channel : (echoed 8 1 (one (channel [] abc 0 0))).event ≡ None
unfolding echoed cut tagged
no_such_channel = refl

no_such_channel_leaves : (echoed 8 1 (one (channel [] abc 0 0))).channels ≡ one (channel [] abc 0 0)
unfolding echoed cut tagged
no_such_channel_leaves = refl

is_cut : (cut 1 (one (new_channel 16))).event ≡ Some (0xD6 ∷ 0x0B ∷ 0x99 ∷ 0x01 ∷ 0x0A ∷ 0x82 ∷ 0x02 ∷ 0x82 ∷ 0x81 ∷ 0xB8 ∷ 0x02 ∷ 0x01 ∷ 0x05 ∷ [])
unfolding echoed cut tagged
is_cut = refl

is_cut_leaves : (cut 1 (one (new_channel 16))).channels ≡ one lost
unfolding echoed cut tagged
is_cut_leaves = refl

is_cut_once : (cut 1 (one lost)).event ≡ None
unfolding echoed cut tagged
is_cut_once = refl

is_cut_once_leaves : (cut 1 (one lost)).channels ≡ one lost
unfolding echoed cut tagged
is_cut_once_leaves = refl

lost_for_good : (echoed 1 1 (one lost)).event ≡ None
unfolding echoed cut tagged
lost_for_good = refl

lost_for_good_leaves : (echoed 1 1 (one lost)).channels ≡ one lost
unfolding echoed cut tagged
lost_for_good_leaves = refl

-- ---- refusals

no_size : (answered (0xD0 ∷ 0x10 ∷ 0x81 ∷ 0x03 ∷ 0x01 ∷ 0x40 ∷ 0x01 ∷ 0x82 ∷ 0x02 ∷ 0x81 ∷ 0x82 ∷ 0xB5 ∷ 0x01 ∷ 0x03 ∷ 0xB9 ∷ 0x02 ∷ 0x00 ∷ 0x00 ∷ []) none_open).response ≡ (0x81 ∷ 0x03 ∷ 0x01 ∷ 0x40 ∷ 0x01 ∷ 0x82 ∷ 0x02 ∷ 0x82 ∷ 0x81 ∷ 0x83 ∷ 0x02 ∷ 0x3A ∷ 0x04 ∷ [])
unfolding answered carried_out bip_of command_of command_in opening_in closing_in receiving_in sending_in status_in template_in needed details_found list_of template_of value_at length_at tag_at object_at outline_at outline_within tagged
no_size = refl

no_size_leaves : (answered (0xD0 ∷ 0x10 ∷ 0x81 ∷ 0x03 ∷ 0x01 ∷ 0x40 ∷ 0x01 ∷ 0x82 ∷ 0x02 ∷ 0x81 ∷ 0x82 ∷ 0xB5 ∷ 0x01 ∷ 0x03 ∷ 0xB9 ∷ 0x02 ∷ 0x00 ∷ 0x00 ∷ []) none_open).channels ≡ none_open
unfolding answered carried_out bip_of command_of command_in opening_in closing_in receiving_in sending_in status_in template_in needed details_found list_of template_of value_at length_at tag_at object_at outline_at outline_within tagged
no_size_leaves = refl

too_large : (answered (0xD0 ∷ 0x10 ∷ 0x81 ∷ 0x03 ∷ 0x01 ∷ 0x40 ∷ 0x01 ∷ 0x82 ∷ 0x02 ∷ 0x81 ∷ 0x82 ∷ 0xB5 ∷ 0x01 ∷ 0x03 ∷ 0xB9 ∷ 0x02 ∷ 0x05 ∷ 0xDD ∷ []) none_open).response ≡ (0x81 ∷ 0x03 ∷ 0x01 ∷ 0x40 ∷ 0x01 ∷ 0x82 ∷ 0x02 ∷ 0x82 ∷ 0x81 ∷ 0x83 ∷ 0x02 ∷ 0x3A ∷ 0x04 ∷ [])
unfolding answered carried_out bip_of command_of command_in opening_in closing_in receiving_in sending_in status_in template_in needed details_found list_of template_of value_at length_at tag_at object_at outline_at outline_within tagged
too_large = refl

too_large_leaves : (answered (0xD0 ∷ 0x10 ∷ 0x81 ∷ 0x03 ∷ 0x01 ∷ 0x40 ∷ 0x01 ∷ 0x82 ∷ 0x02 ∷ 0x81 ∷ 0x82 ∷ 0xB5 ∷ 0x01 ∷ 0x03 ∷ 0xB9 ∷ 0x02 ∷ 0x05 ∷ 0xDD ∷ []) none_open).channels ≡ none_open
unfolding answered carried_out bip_of command_of command_in opening_in closing_in receiving_in sending_in status_in template_in needed details_found list_of template_of value_at length_at tag_at object_at outline_at outline_within tagged
too_large_leaves = refl

no_eighth : (answered (0xD0 ∷ 0x10 ∷ 0x81 ∷ 0x03 ∷ 0x01 ∷ 0x40 ∷ 0x01 ∷ 0x82 ∷ 0x02 ∷ 0x81 ∷ 0x82 ∷ 0xB5 ∷ 0x01 ∷ 0x03 ∷ 0xB9 ∷ 0x02 ∷ 0x00 ∷ 0x10 ∷ []) (replicate 7 (Some (new_channel 16)))).response ≡ (0x81 ∷ 0x03 ∷ 0x01 ∷ 0x40 ∷ 0x01 ∷ 0x82 ∷ 0x02 ∷ 0x82 ∷ 0x81 ∷ 0x83 ∷ 0x02 ∷ 0x3A ∷ 0x01 ∷ [])
unfolding answered carried_out bip_of command_of command_in opening_in closing_in receiving_in sending_in status_in template_in needed details_found list_of template_of value_at length_at tag_at object_at outline_at outline_within tagged
no_eighth = refl

-- the size is looked at first
no_eighth_size : (answered (0xD0 ∷ 0x10 ∷ 0x81 ∷ 0x03 ∷ 0x01 ∷ 0x40 ∷ 0x01 ∷ 0x82 ∷ 0x02 ∷ 0x81 ∷ 0x82 ∷ 0xB5 ∷ 0x01 ∷ 0x03 ∷ 0xB9 ∷ 0x02 ∷ 0x00 ∷ 0x00 ∷ []) (replicate 7 (Some (new_channel 16)))).response ≡ (0x81 ∷ 0x03 ∷ 0x01 ∷ 0x40 ∷ 0x01 ∷ 0x82 ∷ 0x02 ∷ 0x82 ∷ 0x81 ∷ 0x83 ∷ 0x02 ∷ 0x3A ∷ 0x04 ∷ [])
unfolding answered carried_out bip_of command_of command_in opening_in closing_in receiving_in sending_in status_in template_in needed details_found list_of template_of value_at length_at tag_at object_at outline_at outline_within tagged
no_eighth_size = refl

sends_to_none : (answered (0xD0 ∷ 0x0E ∷ 0x81 ∷ 0x03 ∷ 0x02 ∷ 0x43 ∷ 0x01 ∷ 0x82 ∷ 0x02 ∷ 0x81 ∷ 0x22 ∷ 0xB6 ∷ 0x03 ∷ 0x41 ∷ 0x42 ∷ 0x43 ∷ []) (one (channel [] [] 0 0))).response ≡ (0x81 ∷ 0x03 ∷ 0x02 ∷ 0x43 ∷ 0x01 ∷ 0x82 ∷ 0x02 ∷ 0x82 ∷ 0x81 ∷ 0x83 ∷ 0x02 ∷ 0x3A ∷ 0x03 ∷ [])
unfolding answered carried_out bip_of command_of command_in opening_in closing_in receiving_in sending_in status_in template_in needed details_found list_of template_of value_at length_at tag_at object_at outline_at outline_within tagged
sends_to_none = refl

takes_from_none : (answered (0xD0 ∷ 0x0C ∷ 0x81 ∷ 0x03 ∷ 0x03 ∷ 0x42 ∷ 0x00 ∷ 0x82 ∷ 0x02 ∷ 0x81 ∷ 0x27 ∷ 0xB7 ∷ 0x01 ∷ 0x02 ∷ []) (one (channel [] [] 0 0))).response ≡ (0x81 ∷ 0x03 ∷ 0x03 ∷ 0x42 ∷ 0x00 ∷ 0x82 ∷ 0x02 ∷ 0x82 ∷ 0x81 ∷ 0x83 ∷ 0x02 ∷ 0x3A ∷ 0x03 ∷ [])
unfolding answered carried_out bip_of command_of command_in opening_in closing_in receiving_in sending_in status_in template_in needed details_found list_of template_of value_at length_at tag_at object_at outline_at outline_within tagged
takes_from_none = refl

-- the link was dropped
sends_nowhere : (answered (0xD0 ∷ 0x0E ∷ 0x81 ∷ 0x03 ∷ 0x02 ∷ 0x43 ∷ 0x00 ∷ 0x82 ∷ 0x02 ∷ 0x81 ∷ 0x21 ∷ 0xB6 ∷ 0x03 ∷ 0x41 ∷ 0x42 ∷ 0x43 ∷ []) (one lost)).response ≡ (0x81 ∷ 0x03 ∷ 0x02 ∷ 0x43 ∷ 0x00 ∷ 0x82 ∷ 0x02 ∷ 0x82 ∷ 0x81 ∷ 0x83 ∷ 0x02 ∷ 0x3A ∷ 0x02 ∷ [])
unfolding answered carried_out bip_of command_of command_in opening_in closing_in receiving_in sending_in status_in template_in needed details_found list_of template_of value_at length_at tag_at object_at outline_at outline_within tagged
sends_nowhere = refl

sends_nowhere_leaves : (answered (0xD0 ∷ 0x0E ∷ 0x81 ∷ 0x03 ∷ 0x02 ∷ 0x43 ∷ 0x00 ∷ 0x82 ∷ 0x02 ∷ 0x81 ∷ 0x21 ∷ 0xB6 ∷ 0x03 ∷ 0x41 ∷ 0x42 ∷ 0x43 ∷ []) (one lost)).channels ≡ one lost
unfolding answered carried_out bip_of command_of command_in opening_in closing_in receiving_in sending_in status_in template_in needed details_found list_of template_of value_at length_at tag_at object_at outline_at outline_within tagged
sends_nowhere_leaves = refl

takes_from_nowhere : (answered (0xD0 ∷ 0x0C ∷ 0x81 ∷ 0x03 ∷ 0x03 ∷ 0x42 ∷ 0x00 ∷ 0x82 ∷ 0x02 ∷ 0x81 ∷ 0x21 ∷ 0xB7 ∷ 0x01 ∷ 0x02 ∷ []) (one lost)).response ≡ (0x81 ∷ 0x03 ∷ 0x03 ∷ 0x42 ∷ 0x00 ∷ 0x82 ∷ 0x02 ∷ 0x82 ∷ 0x81 ∷ 0x83 ∷ 0x02 ∷ 0x3A ∷ 0x02 ∷ [])
unfolding answered carried_out bip_of command_of command_in opening_in closing_in receiving_in sending_in status_in template_in needed details_found list_of template_of value_at length_at tag_at object_at outline_at outline_within tagged
takes_from_nowhere = refl

takes_from_nowhere_leaves : (answered (0xD0 ∷ 0x0C ∷ 0x81 ∷ 0x03 ∷ 0x03 ∷ 0x42 ∷ 0x00 ∷ 0x82 ∷ 0x02 ∷ 0x81 ∷ 0x21 ∷ 0xB7 ∷ 0x01 ∷ 0x02 ∷ []) (one lost)).channels ≡ one lost
unfolding answered carried_out bip_of command_of command_in opening_in closing_in receiving_in sending_in status_in template_in needed details_found list_of template_of value_at length_at tag_at object_at outline_at outline_within tagged
takes_from_nowhere_leaves = refl

closes_a_lost_one : (answered (0xD0 ∷ 0x09 ∷ 0x81 ∷ 0x03 ∷ 0x04 ∷ 0x41 ∷ 0x00 ∷ 0x82 ∷ 0x02 ∷ 0x81 ∷ 0x21 ∷ []) (one lost)).response ≡ (0x81 ∷ 0x03 ∷ 0x04 ∷ 0x41 ∷ 0x00 ∷ 0x82 ∷ 0x02 ∷ 0x82 ∷ 0x81 ∷ 0x83 ∷ 0x01 ∷ 0x00 ∷ [])
unfolding answered carried_out bip_of command_of command_in opening_in closing_in receiving_in sending_in status_in template_in needed details_found list_of template_of value_at length_at tag_at object_at outline_at outline_within tagged
closes_a_lost_one = refl

closes_a_lost_one_leaves : (answered (0xD0 ∷ 0x09 ∷ 0x81 ∷ 0x03 ∷ 0x04 ∷ 0x41 ∷ 0x00 ∷ 0x82 ∷ 0x02 ∷ 0x81 ∷ 0x21 ∷ []) (one lost)).channels ≡ none_open
unfolding answered carried_out bip_of command_of command_in opening_in closing_in receiving_in sending_in status_in template_in needed details_found list_of template_of value_at length_at tag_at object_at outline_at outline_within tagged
closes_a_lost_one_leaves = refl

too_many_kept : (answered (0xD0 ∷ 0x0E ∷ 0x81 ∷ 0x03 ∷ 0x02 ∷ 0x43 ∷ 0x00 ∷ 0x82 ∷ 0x02 ∷ 0x81 ∷ 0x21 ∷ 0xB6 ∷ 0x03 ∷ 0x41 ∷ 0x42 ∷ 0x43 ∷ []) (one (channel (replicate 14 0x30) [] 0 0))).response ≡ (0x81 ∷ 0x03 ∷ 0x02 ∷ 0x43 ∷ 0x00 ∷ 0x82 ∷ 0x02 ∷ 0x82 ∷ 0x81 ∷ 0x83 ∷ 0x02 ∷ 0x20 ∷ 0x00 ∷ [])
unfolding answered carried_out bip_of command_of command_in opening_in closing_in receiving_in sending_in status_in template_in needed details_found list_of template_of value_at length_at tag_at object_at outline_at outline_within tagged
too_many_kept = refl

too_many_kept_leaves : (answered (0xD0 ∷ 0x0E ∷ 0x81 ∷ 0x03 ∷ 0x02 ∷ 0x43 ∷ 0x00 ∷ 0x82 ∷ 0x02 ∷ 0x81 ∷ 0x21 ∷ 0xB6 ∷ 0x03 ∷ 0x41 ∷ 0x42 ∷ 0x43 ∷ []) (one (channel (replicate 14 0x30) [] 0 0))).channels ≡ one (channel (replicate 14 0x30) [] 0 0)
unfolding answered carried_out bip_of command_of command_in opening_in closing_in receiving_in sending_in status_in template_in needed details_found list_of template_of value_at length_at tag_at object_at outline_at outline_within tagged
too_many_kept_leaves = refl

just_enough_kept : (answered (0xD0 ∷ 0x0E ∷ 0x81 ∷ 0x03 ∷ 0x02 ∷ 0x43 ∷ 0x00 ∷ 0x82 ∷ 0x02 ∷ 0x81 ∷ 0x21 ∷ 0xB6 ∷ 0x03 ∷ 0x41 ∷ 0x42 ∷ 0x43 ∷ []) (one (channel (replicate 13 0x30) [] 0 0))).response ≡ (0x81 ∷ 0x03 ∷ 0x02 ∷ 0x43 ∷ 0x00 ∷ 0x82 ∷ 0x02 ∷ 0x82 ∷ 0x81 ∷ 0x83 ∷ 0x01 ∷ 0x00 ∷ 0xB7 ∷ 0x01 ∷ 0x00 ∷ [])
unfolding answered carried_out bip_of command_of command_in opening_in closing_in receiving_in sending_in status_in template_in needed details_found list_of template_of value_at length_at tag_at object_at outline_at outline_within tagged
just_enough_kept = refl

too_many_on_their_way : (answered (0xD0 ∷ 0x0E ∷ 0x81 ∷ 0x03 ∷ 0x02 ∷ 0x43 ∷ 0x01 ∷ 0x82 ∷ 0x02 ∷ 0x81 ∷ 0x21 ∷ 0xB6 ∷ 0x03 ∷ 0x41 ∷ 0x42 ∷ 0x43 ∷ []) (one (channel (0x30 ∷ []) (replicate 4093 0x31) 0 0))).response ≡ (0x81 ∷ 0x03 ∷ 0x02 ∷ 0x43 ∷ 0x01 ∷ 0x82 ∷ 0x02 ∷ 0x82 ∷ 0x81 ∷ 0x83 ∷ 0x02 ∷ 0x20 ∷ 0x00 ∷ [])
unfolding answered carried_out bip_of command_of command_in opening_in closing_in receiving_in sending_in status_in template_in needed details_found list_of template_of value_at length_at tag_at object_at outline_at outline_within tagged
too_many_on_their_way = refl

-- ---- commands that can't be read

no_list : (answered (0xD0 ∷ 0x05 ∷ 0x81 ∷ 0x03 ∷ 0x01 ∷ 0x40 ∷ 0x01 ∷ 0x82 ∷ 0x02 ∷ []) none_open).response ≡ (0x81 ∷ 0x03 ∷ 0x00 ∷ 0x00 ∷ 0x00 ∷ 0x82 ∷ 0x02 ∷ 0x82 ∷ 0x81 ∷ 0x83 ∷ 0x01 ∷ 0x32 ∷ [])
unfolding answered carried_out bip_of command_of command_in opening_in closing_in receiving_in sending_in status_in template_in needed details_found list_of template_of value_at length_at tag_at object_at outline_at outline_within tagged
no_list = refl

-- also of a type that isn't known
no_devices : (answered (0xD0 ∷ 0x05 ∷ 0x81 ∷ 0x03 ∷ 0x01 ∷ 0x99 ∷ 0x00 ∷ []) none_open).response ≡ (0x81 ∷ 0x03 ∷ 0x01 ∷ 0x99 ∷ 0x00 ∷ 0x82 ∷ 0x02 ∷ 0x82 ∷ 0x81 ∷ 0x83 ∷ 0x01 ∷ 0x36 ∷ [])
unfolding answered carried_out bip_of command_of command_in opening_in closing_in receiving_in sending_in status_in template_in needed details_found list_of template_of value_at length_at tag_at object_at outline_at outline_within tagged
no_devices = refl

-- also with another qualifier
no_buffer_size : (answered (0xD0 ∷ 0x0C ∷ 0x81 ∷ 0x03 ∷ 0x01 ∷ 0x40 ∷ 0x00 ∷ 0x82 ∷ 0x02 ∷ 0x81 ∷ 0x82 ∷ 0xB5 ∷ 0x01 ∷ 0x03 ∷ []) none_open).response ≡ (0x81 ∷ 0x03 ∷ 0x01 ∷ 0x40 ∷ 0x00 ∷ 0x82 ∷ 0x02 ∷ 0x82 ∷ 0x81 ∷ 0x83 ∷ 0x01 ∷ 0x36 ∷ [])
unfolding answered carried_out bip_of command_of command_in opening_in closing_in receiving_in sending_in status_in template_in needed details_found list_of template_of value_at length_at tag_at object_at outline_at outline_within tagged
no_buffer_size = refl

another_type : (answered (0xD0 ∷ 0x09 ∷ 0x81 ∷ 0x03 ∷ 0x01 ∷ 0x26 ∷ 0x00 ∷ 0x82 ∷ 0x02 ∷ 0x81 ∷ 0x82 ∷ []) none_open).response ≡ (0x81 ∷ 0x03 ∷ 0x01 ∷ 0x26 ∷ 0x00 ∷ 0x82 ∷ 0x02 ∷ 0x82 ∷ 0x81 ∷ 0x83 ∷ 0x01 ∷ 0x31 ∷ [])
unfolding answered carried_out bip_of command_of command_in opening_in closing_in receiving_in sending_in status_in template_in needed details_found list_of template_of value_at length_at tag_at object_at outline_at outline_within tagged
another_type = refl

another_qualifier : (answered (0xD0 ∷ 0x10 ∷ 0x81 ∷ 0x03 ∷ 0x01 ∷ 0x40 ∷ 0x00 ∷ 0x82 ∷ 0x02 ∷ 0x81 ∷ 0x82 ∷ 0xB5 ∷ 0x01 ∷ 0x03 ∷ 0xB9 ∷ 0x02 ∷ 0x00 ∷ 0x10 ∷ []) none_open).response ≡ (0x81 ∷ 0x03 ∷ 0x01 ∷ 0x40 ∷ 0x00 ∷ 0x82 ∷ 0x02 ∷ 0x82 ∷ 0x81 ∷ 0x83 ∷ 0x01 ∷ 0x32 ∷ [])
unfolding answered carried_out bip_of command_of command_in opening_in closing_in receiving_in sending_in status_in template_in needed details_found list_of template_of value_at length_at tag_at object_at outline_at outline_within tagged
another_qualifier = refl

another_bearer : (answered (0xD0 ∷ 0x10 ∷ 0x81 ∷ 0x03 ∷ 0x01 ∷ 0x40 ∷ 0x01 ∷ 0x82 ∷ 0x02 ∷ 0x81 ∷ 0x82 ∷ 0xB5 ∷ 0x01 ∷ 0x02 ∷ 0xB9 ∷ 0x02 ∷ 0x00 ∷ 0x10 ∷ []) none_open).response ≡ (0x81 ∷ 0x03 ∷ 0x01 ∷ 0x40 ∷ 0x01 ∷ 0x82 ∷ 0x02 ∷ 0x82 ∷ 0x81 ∷ 0x83 ∷ 0x01 ∷ 0x32 ∷ [])
unfolding answered carried_out bip_of command_of command_in opening_in closing_in receiving_in sending_in status_in template_in needed details_found list_of template_of value_at length_at tag_at object_at outline_at outline_within tagged
another_bearer = refl

channel_0 : (answered (0xD0 ∷ 0x09 ∷ 0x81 ∷ 0x03 ∷ 0x04 ∷ 0x41 ∷ 0x00 ∷ 0x82 ∷ 0x02 ∷ 0x81 ∷ 0x20 ∷ []) none_open).response ≡ (0x81 ∷ 0x03 ∷ 0x04 ∷ 0x41 ∷ 0x00 ∷ 0x82 ∷ 0x02 ∷ 0x82 ∷ 0x81 ∷ 0x83 ∷ 0x01 ∷ 0x32 ∷ [])
unfolding answered carried_out bip_of command_of command_in opening_in closing_in receiving_in sending_in status_in template_in needed details_found list_of template_of value_at length_at tag_at object_at outline_at outline_within tagged
channel_0 = refl

channel_8 : (answered (0xD0 ∷ 0x09 ∷ 0x81 ∷ 0x03 ∷ 0x04 ∷ 0x41 ∷ 0x00 ∷ 0x82 ∷ 0x02 ∷ 0x81 ∷ 0x28 ∷ []) none_open).response ≡ (0x81 ∷ 0x03 ∷ 0x04 ∷ 0x41 ∷ 0x00 ∷ 0x82 ∷ 0x02 ∷ 0x82 ∷ 0x81 ∷ 0x83 ∷ 0x01 ∷ 0x32 ∷ [])
unfolding answered carried_out bip_of command_of command_in opening_in closing_in receiving_in sending_in status_in template_in needed details_found list_of template_of value_at length_at tag_at object_at outline_at outline_within tagged
channel_8 = refl

short_details : (answered (0xD0 ∷ 0x08 ∷ 0x81 ∷ 0x02 ∷ 0x01 ∷ 0x40 ∷ 0x82 ∷ 0x02 ∷ 0x81 ∷ 0x82 ∷ []) none_open).response ≡ (0x81 ∷ 0x03 ∷ 0x00 ∷ 0x00 ∷ 0x00 ∷ 0x82 ∷ 0x02 ∷ 0x82 ∷ 0x81 ∷ 0x83 ∷ 0x01 ∷ 0x32 ∷ [])
unfolding answered carried_out bip_of command_of command_in opening_in closing_in receiving_in sending_in status_in template_in needed details_found list_of template_of value_at length_at tag_at object_at outline_at outline_within tagged
short_details = refl
