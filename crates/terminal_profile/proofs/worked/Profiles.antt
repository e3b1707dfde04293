-- The definitions, computed on a profile of eight bytes.
use Rattle.std.proofs.Common.{◌≡◌, ℕ, List, [], ◌∷◌, ◌++◌, true, false, take, refl}
use Rattle.toolkit_commands.specs.declared.commands.Proactive.TheVariants.{Refresh, MoreTime, PollInterval, LocalInformation, TimerManagement, IdleText}
use Rattle.terminal_profile.specs.Profiles.{allowed, allowed_event, consulted}

-- it lacks MORE TIME, PROVIDE LOCAL INFORMATION and the time that a timer has left, and has the events 03 to 05
abbrev profile : List ℕ
profile = 0x29 ∷ 0x00 ∷ 0xB7 ∷ 0x21 ∷ 0x71 ∷ 0x00 ∷ 0x00 ∷ 0x11 ∷ []

refresh : allowed profile (Refresh 4) ≡ true
unfolding allowed
refresh = refl

more_time : allowed profile MoreTime ≡ false
unfolding allowed
more_time = refl

poll_interval : allowed profile (PollInterval 30) ≡ true
unfolding allowed
poll_interval = refl

local_information : allowed profile (LocalInformation 0) ≡ false
unfolding allowed
local_information = refl

timer_started : allowed profile (TimerManagement 0 1 record { hours = 0; minutes = 5; seconds = 0 }) ≡ true
unfolding allowed
timer_started = refl

timer_asked : allowed profile (TimerManagement 2 1 record { hours = 0; minutes = 0; seconds = 0 }) ≡ false
unfolding allowed
timer_asked = refl

idle_text : allowed profile (IdleText []) ≡ true
unfolding allowed
idle_text = refl

idle_text_in_seven_bytes : allowed (take 7 profile) (IdleText []) ≡ false
unfolding allowed
idle_text_in_seven_bytes = refl

call_disconnected : allowed_event profile 0x02 ≡ false
unfolding allowed_event
call_disconnected = refl

location_status : allowed_event profile 0x03 ≡ true
unfolding allowed_event
location_status = refl

idle_screen : allowed_event profile 0x05 ≡ true
unfolding allowed_event
idle_screen = refl

language_selection : allowed_event (0 ∷ 0 ∷ 0 ∷ 0 ∷ 0 ∷ 0x01 ∷ []) 0x07 ≡ true
unfolding allowed_event
language_selection = refl

event_without_a_bit : allowed_event (0xFF ∷ 0xFF ∷ 0xFF ∷ 0xFF ∷ 0xFF ∷ 0xFF ∷ 0xFF ∷ 0xFF ∷ []) 0x40 ≡ false
unfolding allowed_event
event_without_a_bit = refl

three_bytes : consulted (0x29 ∷ 0x00 ∷ 0xBF ∷ []) ≡ 0x29 ∷ 0x00 ∷ 0xBF ∷ 0 ∷ 0 ∷ 0 ∷ 0 ∷ 0 ∷ []
unfolding consulted
three_bytes = refl

nine_bytes : consulted (profile ++ 0xFF ∷ []) ≡ profile
unfolding consulted
nine_bytes = refl
