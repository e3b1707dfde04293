-- The numbers of commands, and the events that are asked for, worked out.
use Rattle.std.proofs.Common.{◌≡◌, ℕ, false, List, [], ◌∷◌, Some, None, refl}
use Rattle.card_state.specs.Persistent.{Registration}
use Rattle.toolkit_commands.specs.declared.commands.Proactive.TheVariants.{SetUpEventList}
use Rattle.terminal_profile.specs.Profiles.{allowed, allowed_event}
use Rattle.toolkit_model.specs.Driving.{wanted}
use Rattle.toolkit_model.specs.Sessions.{Announced}
use Rattle.card_laws.specs.SendingLaws.{number_after}

-- ---- numbers

-- the first command after a reset has the number 1, the 254th the number 254, and the next one 1 again
first_number : number_after 1 0 ≡ 1
unfolding number_after
first_number = refl

last_number : number_after 254 0 ≡ 254
unfolding number_after
last_number = refl

again : number_after 255 0 ≡ 1
unfolding number_after
again = refl

-- ---- events

-- two applets are registered for the connection of a call (01), one of them also for the start of the idle screen (05) and for call control
abbrev row : ℕ → List ℕ → Registration
row shelf codes = record { shelf = shelf; kind = 3; priority = 1; sequence = shelf; codes = codes; text = []; kept = [] }

abbrev rows : List Registration
rows = row 1 (0x05 ∷ 0x01 ∷ []) ∷ row 2 (0x01 ∷ []) ∷ []

abbrev told : List ℕ → Announced
told events = record { events = events; menu = []; polls = false }

-- of a handset that takes such a list and reports both
both_events : wanted (Some (0x00 ∷ 0x00 ∷ 0x00 ∷ 0x00 ∷ 0xFF ∷ [])) rows (told []) ≡ Some (SetUpEventList (0x01 ∷ 0x05 ∷ []))
unfolding wanted allowed allowed_event
both_events = refl

-- of one that does not report the idle screen
one_event : wanted (Some (0x00 ∷ 0x00 ∷ 0x00 ∷ 0x00 ∷ 0x05 ∷ [])) rows (told []) ≡ Some (SetUpEventList (0x01 ∷ []))
unfolding wanted allowed allowed_event
one_event = refl

-- it was told so before
told_before : wanted (Some (0x00 ∷ 0x00 ∷ 0x00 ∷ 0x00 ∷ 0x05 ∷ [])) rows (told (0x01 ∷ [])) ≡ None
unfolding wanted allowed allowed_event
told_before = refl
