-- The tables, computed: commands and their bytes, and bytes with each of the faults.
use Rattle.std.proofs.Common.{◌≡◌, true, [], ◌∷◌, Ok, Err, refl}
use Rattle.comprehension_tlv.specs.Reading.{template_of, value_at, length_at, tag_at, object_at, outline_at, outline_within}
use Rattle.comprehension_tlv.specs.Writing.{tagged}
use Rattle.toolkit_commands.specs.declared.faults.ProactiveFault.TheVariants.{Tlv, Missing, UnknownType, BadData}
use Rattle.toolkit_commands.specs.declared.commands.Proactive.TheVariants.{Refresh, MoreTime, PollInterval, SetUpEventList, PlayTone, DisplayText, GetInkey, GetInput, SelectItem, SetUpMenu, LocalInformation, TimerManagement, IdleText}
use Rattle.toolkit_commands.specs.Table.{spelled}
use Rattle.toolkit_commands.specs.Reading.{command_among, list_of, proactive_of, details_found}

-- ---- commands and their bytes

spelled_refresh : spelled (Refresh 0x04) 7 ≡ 0xD0 ∷ 0x09 ∷ 0x81 ∷ 0x03 ∷ 0x07 ∷ 0x01 ∷ 0x04 ∷ 0x82 ∷ 0x02 ∷ 0x81 ∷ 0x82 ∷ []
unfolding tagged
spelled_refresh = refl

spelled_more_time : spelled MoreTime 7 ≡ 0xD0 ∷ 0x09 ∷ 0x81 ∷ 0x03 ∷ 0x07 ∷ 0x02 ∷ 0x00 ∷ 0x82 ∷ 0x02 ∷ 0x81 ∷ 0x82 ∷ []
unfolding tagged
spelled_more_time = refl

spelled_poll_interval : spelled (PollInterval 30) 7 ≡ 0xD0 ∷ 0x0D ∷ 0x81 ∷ 0x03 ∷ 0x07 ∷ 0x03 ∷ 0x00 ∷ 0x82 ∷ 0x02 ∷ 0x81 ∷ 0x82 ∷ 0x84 ∷ 0x02 ∷ 0x01 ∷ 0x1E ∷ []
unfolding tagged
spelled_poll_interval = refl

spelled_event_list : spelled (SetUpEventList (0x03 ∷ 0x05 ∷ [])) 7 ≡ 0xD0 ∷ 0x0D ∷ 0x81 ∷ 0x03 ∷ 0x07 ∷ 0x05 ∷ 0x00 ∷ 0x82 ∷ 0x02 ∷ 0x81 ∷ 0x82 ∷ 0x99 ∷ 0x02 ∷ 0x03 ∷ 0x05 ∷ []
unfolding tagged
spelled_event_list = refl

spelled_tone : spelled (PlayTone 0x10) 7 ≡ 0xD0 ∷ 0x0C ∷ 0x81 ∷ 0x03 ∷ 0x07 ∷ 0x20 ∷ 0x00 ∷ 0x82 ∷ 0x02 ∷ 0x81 ∷ 0x03 ∷ 0x8E ∷ 0x01 ∷ 0x10 ∷ []
unfolding tagged
spelled_tone = refl

spelled_text : spelled (DisplayText (0x48 ∷ 0x69 ∷ [])) 1 ≡ 0xD0 ∷ 0x0E ∷ 0x81 ∷ 0x03 ∷ 0x01 ∷ 0x21 ∷ 0x80 ∷ 0x82 ∷ 0x02 ∷ 0x81 ∷ 0x02 ∷ 0x8D ∷ 0x03 ∷ 0x04 ∷ 0x48 ∷ 0x69 ∷ []
unfolding tagged
spelled_text = refl

spelled_inkey : spelled (GetInkey (0x3F ∷ [])) 7 ≡ 0xD0 ∷ 0x0D ∷ 0x81 ∷ 0x03 ∷ 0x07 ∷ 0x22 ∷ 0x01 ∷ 0x82 ∷ 0x02 ∷ 0x81 ∷ 0x82 ∷ 0x8D ∷ 0x02 ∷ 0x04 ∷ 0x3F ∷ []
unfolding tagged
spelled_inkey = refl

spelled_input : spelled (GetInput (0x3F ∷ []) true 0 10) 7 ≡ 0xD0 ∷ 0x11 ∷ 0x81 ∷ 0x03 ∷ 0x07 ∷ 0x23 ∷ 0x00 ∷ 0x82 ∷ 0x02 ∷ 0x81 ∷ 0x82 ∷ 0x8D ∷ 0x02 ∷ 0x04 ∷ 0x3F ∷ 0x91 ∷ 0x02 ∷ 0x00 ∷ 0x0A ∷ []
unfolding tagged
spelled_input = refl

spelled_choice : spelled (SelectItem (0x50 ∷ []) (record { id = 2; text = 0x54 ∷ [] } ∷ [])) 7 ≡ 0xD0 ∷ 0x10 ∷ 0x81 ∷ 0x03 ∷ 0x07 ∷ 0x24 ∷ 0x00 ∷ 0x82 ∷ 0x02 ∷ 0x81 ∷ 0x82 ∷ 0x85 ∷ 0x01 ∷ 0x50 ∷ 0x8F ∷ 0x02 ∷ 0x02 ∷ 0x54 ∷ []
unfolding tagged
spelled_choice = refl

spelled_no_menu : spelled (SetUpMenu [] []) 7 ≡ 0xD0 ∷ 0x0D ∷ 0x81 ∷ 0x03 ∷ 0x07 ∷ 0x25 ∷ 0x00 ∷ 0x82 ∷ 0x02 ∷ 0x81 ∷ 0x82 ∷ 0x85 ∷ 0x00 ∷ 0x8F ∷ 0x00 ∷ []
unfolding tagged
spelled_no_menu = refl

spelled_information : spelled (LocalInformation 0x00) 7 ≡ 0xD0 ∷ 0x09 ∷ 0x81 ∷ 0x03 ∷ 0x07 ∷ 0x26 ∷ 0x00 ∷ 0x82 ∷ 0x02 ∷ 0x81 ∷ 0x82 ∷ []
unfolding tagged
spelled_information = refl

-- five minutes and twelve seconds: the digits of each part are swapped
spelled_timer : spelled (TimerManagement 0x00 1 record { hours = 0; minutes = 5; seconds = 12 }) 7 ≡ 0xD0 ∷ 0x11 ∷ 0x81 ∷ 0x03 ∷ 0x07 ∷ 0x27 ∷ 0x00 ∷ 0x82 ∷ 0x02 ∷ 0x81 ∷ 0x82 ∷ 0xA4 ∷ 0x01 ∷ 0x01 ∷ 0xA5 ∷ 0x03 ∷ 0x00 ∷ 0x50 ∷ 0x21 ∷ []
unfolding tagged
spelled_timer = refl

spelled_idle_text : spelled (IdleText (0x49 ∷ [])) 7 ≡ 0xD0 ∷ 0x0D ∷ 0x81 ∷ 0x03 ∷ 0x07 ∷ 0x28 ∷ 0x00 ∷ 0x82 ∷ 0x02 ∷ 0x81 ∷ 0x82 ∷ 0x8D ∷ 0x02 ∷ 0x04 ∷ 0x49 ∷ []
unfolding tagged
spelled_idle_text = refl

-- ---- bytes that are read: any flags, any order, other objects, and of two with one tag the first

reads_text : proactive_of (0xD0 ∷ 0x11 ∷ 0x0D ∷ 0x02 ∷ 0x04 ∷ 0x48 ∷ 0x02 ∷ 0x02 ∷ 0x81 ∷ 0x02 ∷ 0x8D ∷ 0x00 ∷ 0x99 ∷ 0x00 ∷ 0x01 ∷ 0x03 ∷ 0x01 ∷ 0x21 ∷ 0x80 ∷ []) ≡ Ok (record { number = 0x01; kind = 0x21; qualifier = 0x80 }, DisplayText (0x48 ∷ []))
unfolding proactive_of list_of command_among template_of value_at length_at tag_at object_at outline_at outline_within
reads_text = refl

reads_no_menu : proactive_of (0xD0 ∷ 0x0D ∷ 0x81 ∷ 0x03 ∷ 0x01 ∷ 0x25 ∷ 0x00 ∷ 0x82 ∷ 0x02 ∷ 0x81 ∷ 0x82 ∷ 0x85 ∷ 0x00 ∷ 0x8F ∷ 0x00 ∷ []) ≡ Ok (record { number = 0x01; kind = 0x25; qualifier = 0x00 }, SetUpMenu [] [])
unfolding proactive_of list_of command_among template_of value_at length_at tag_at object_at outline_at outline_within
reads_no_menu = refl

reads_stopped_timer : proactive_of (0xD0 ∷ 0x0C ∷ 0x81 ∷ 0x03 ∷ 0x01 ∷ 0x27 ∷ 0x01 ∷ 0x82 ∷ 0x02 ∷ 0x81 ∷ 0x82 ∷ 0xA4 ∷ 0x01 ∷ 0x08 ∷ []) ≡ Ok (record { number = 0x01; kind = 0x27; qualifier = 0x01 }, TimerManagement 1 8 record { hours = 0; minutes = 0; seconds = 0 })
unfolding proactive_of list_of command_among template_of value_at length_at tag_at object_at outline_at outline_within
reads_stopped_timer = refl

-- ---- two things are wrong: the earlier fault is told

-- no list of objects, without device identities
no_list : proactive_of (0xD0 ∷ 0x06 ∷ 0x81 ∷ 0x03 ∷ 0x01 ∷ 0x99 ∷ 0x00 ∷ 0x00 ∷ []) ≡ Err Tlv
unfolding proactive_of list_of command_among template_of value_at length_at tag_at object_at outline_at outline_within
no_list = refl

-- all that the command needs, and after it a tag without a length
cut_short : proactive_of (0xD0 ∷ 0x12 ∷ 0x0D ∷ 0x02 ∷ 0x04 ∷ 0x48 ∷ 0x02 ∷ 0x02 ∷ 0x81 ∷ 0x02 ∷ 0x8D ∷ 0x00 ∷ 0x99 ∷ 0x00 ∷ 0x01 ∷ 0x03 ∷ 0x01 ∷ 0x21 ∷ 0x80 ∷ 0x8D ∷ []) ≡ Err Tlv
unfolding proactive_of list_of command_among template_of value_at length_at tag_at object_at outline_at outline_within
cut_short = refl

-- no device identities, and a type that isn't known
no_devices : proactive_of (0xD0 ∷ 0x05 ∷ 0x81 ∷ 0x03 ∷ 0x01 ∷ 0x99 ∷ 0x00 ∷ []) ≡ Err Missing
unfolding proactive_of list_of command_among template_of value_at length_at tag_at object_at outline_at outline_within
no_devices = refl

-- no text, and another destination
no_text : proactive_of (0xD0 ∷ 0x09 ∷ 0x81 ∷ 0x03 ∷ 0x01 ∷ 0x21 ∷ 0x80 ∷ 0x82 ∷ 0x02 ∷ 0x81 ∷ 0x82 ∷ []) ≡ Err Missing
unfolding proactive_of list_of command_among template_of value_at length_at tag_at object_at outline_at outline_within
no_text = refl

-- no value, and a timer 9
no_value : proactive_of (0xD0 ∷ 0x0C ∷ 0x81 ∷ 0x03 ∷ 0x01 ∷ 0x27 ∷ 0x00 ∷ 0x82 ∷ 0x02 ∷ 0x81 ∷ 0x82 ∷ 0xA4 ∷ 0x01 ∷ 0x09 ∷ []) ≡ Err Missing
unfolding proactive_of list_of command_among template_of value_at length_at tag_at object_at outline_at outline_within
no_value = refl

-- a type that isn't known, and another destination
unknown_type : proactive_of (0xD0 ∷ 0x09 ∷ 0x81 ∷ 0x03 ∷ 0x01 ∷ 0x04 ∷ 0x00 ∷ 0x82 ∷ 0x02 ∷ 0x81 ∷ 0x03 ∷ []) ≡ Err (UnknownType 0x04)
unfolding proactive_of list_of command_among template_of value_at length_at tag_at object_at outline_at outline_within
unknown_type = refl

-- details of two bytes, whose type isn't looked at
short_details : proactive_of (0xD0 ∷ 0x08 ∷ 0x81 ∷ 0x02 ∷ 0x01 ∷ 0x99 ∷ 0x82 ∷ 0x02 ∷ 0x81 ∷ 0x82 ∷ []) ≡ Err BadData
unfolding proactive_of list_of command_among template_of value_at length_at tag_at object_at outline_at outline_within
short_details = refl

-- an action that there isn't
unknown_action : proactive_of (0xD0 ∷ 0x0C ∷ 0x81 ∷ 0x03 ∷ 0x01 ∷ 0x27 ∷ 0x03 ∷ 0x82 ∷ 0x02 ∷ 0x81 ∷ 0x82 ∷ 0xA4 ∷ 0x01 ∷ 0x01 ∷ []) ≡ Err BadData
unfolding proactive_of list_of command_among template_of value_at length_at tag_at object_at outline_at outline_within
unknown_action = refl

-- a choice of one item of length 0
no_choice : proactive_of (0xD0 ∷ 0x0D ∷ 0x81 ∷ 0x03 ∷ 0x01 ∷ 0x24 ∷ 0x00 ∷ 0x82 ∷ 0x02 ∷ 0x81 ∷ 0x82 ∷ 0x85 ∷ 0x00 ∷ 0x8F ∷ 0x00 ∷ []) ≡ Err BadData
unfolding proactive_of list_of command_among template_of value_at length_at tag_at object_at outline_at outline_within
no_choice = refl

-- ---- the details of what cannot be read

details_alone : details_found (0xD0 ∷ 0x05 ∷ 0x81 ∷ 0x03 ∷ 0x01 ∷ 0x99 ∷ 0x02 ∷ []) ≡ record { number = 0x01; kind = 0x99; qualifier = 0x02 }
unfolding details_found list_of template_of value_at length_at tag_at object_at outline_at outline_within
details_alone = refl

details_of_two_bytes : details_found (0xD0 ∷ 0x04 ∷ 0x81 ∷ 0x02 ∷ 0x01 ∷ 0x99 ∷ []) ≡ record { number = 0x00; kind = 0x00; qualifier = 0x00 }
unfolding details_found list_of template_of value_at length_at tag_at object_at outline_at outline_within
details_of_two_bytes = refl

details_in_no_list : details_found (0xD0 ∷ 0x06 ∷ 0x81 ∷ 0x03 ∷ 0x01 ∷ 0x99 ∷ 0x02 ∷ 0x00 ∷ []) ≡ record { number = 0x00; kind = 0x00; qualifier = 0x00 }
unfolding details_found list_of template_of value_at length_at tag_at object_at outline_at outline_within
details_in_no_list = refl
