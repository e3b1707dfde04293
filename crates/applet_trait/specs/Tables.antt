-- The tables of the seven kinds: what an applet does in a phase at a stimulus. Where a table has no row, the applet is
-- done.
use Rattle.std.specs.Prelude.{ℕ, ◌+◌, ◌/◌, ◌%◌, Bool, true, false, ◌&&◌, not, List, [], ◌∷◌, length, map, take, drop, find, Option, Some, None, nat_eq, nat_le, ◌==◌, if◌then◌else◌}
use Rattle.std.specs.List.{flat_map, take_while, starts_with, enumerate_from}
use Rattle.uicc_types.specs.declared.events.TheConstants.{LOCATION_STATUS, USER_ACTIVITY, IDLE_SCREEN, PROFILE_DOWNLOAD, MENU_SELECTION, TIMER_EXPIRATION, CALL_CONTROL}
use Rattle.toolkit_commands.specs.Envelopes.{value_in}
use Rattle.toolkit_commands.specs.declared.commands.Proactive.TheVariants.{Refresh, MoreTime, PlayTone, DisplayText, GetInkey, GetInput, SelectItem, LocalInformation, TimerManagement, IdleText}
use Rattle.applet_trait.specs.declared.stimuli.Stimulus.{Stimulus}
use Rattle.applet_trait.specs.declared.stimuli.Stimulus.TheVariants.{Event, Response, Went, Refused, Timer}
use Rattle.applet_trait.specs.declared.stimuli.Act.{Act}
use Rattle.applet_trait.specs.declared.stimuli.Act.TheVariants.{Send, Register, Deregister, TakeTimer, FreeTimer, Answer}
use Rattle.applet_trait.specs.declared.actions.TheConstants.{SHOW, PLAY_TONE, MORE_TIME, TELL_INFORMATION, REFRESH, GET_KEY, REGISTER, DEREGISTER, SHOW_WHEN_IDLE, TAKE_TIMER}
use Rattle.applet_trait.specs.declared.numbers.TheConstants.{LAST_GOOD, MOST_KEPT, TEXT, TONE, GENERAL_BEEP, LOCATION_INFORMATION, START, MINUTES, MOST_DIGITS, LONGEST_NOTE}
use Rattle.applet_trait.specs.declared.texts.TheConstants.{GREETING, CHOICE_TITLE, TEXT_ITEM, TONE_ITEM, TICK, LOST, MOVED, ACTIVE, IDLE, ASK_FOR_DIGITS, ASK_FOR_NOTE}
use Rattle.applet_trait.specs.Minds.{AppletState, Turn, in_phase, turn, done, keeping}

-- the command was performed, and the user did not end it (a result 0X of TS 102 223, 8.12)
abbrev pub is_good : ℕ → Bool
is_good result = nat_le result LAST_GOOD

-- to send DISPLAY TEXT with this text
abbrev pub show : List ℕ → Act
show text = Send (DisplayText text)

-- Kind 1, the greeter, shows a text when a terminal profile comes.

-- in phase 0 a terminal profile makes it show its text; at anything else it is done
abbrev pub greeter : AppletState → Stimulus → Turn
greeter mind (Event code body) =
    if in_phase 0 mind && (code == PROFILE_DOWNLOAD) then turn mind (show GREETING.now) 1 else done mind
greeter mind _ = done mind

-- Kind 2, the menu, lets the user choose between a text and a tone.

-- to send SELECT ITEM with the two items
abbrev pub text_or_tone : Act
text_or_tone =
    Send (SelectItem CHOICE_TITLE.now (record { id = TEXT; text = TEXT_ITEM.now } ∷ record { id = TONE; text = TONE_ITEM.now } ∷ []))

-- the text is shown, or the tone is played; another item leaves nothing to do
abbrev pub item_chosen : AppletState → ℕ → Turn
item_chosen mind item =
    if item == TEXT then turn mind (show TEXT_ITEM.now) 2
    else (if item == TONE then turn mind (Send (PlayTone GENERAL_BEEP)) 2
    else done mind)

-- in phase 0 the choice of its item in the card's menu makes it offer the two, and in phase 1 what the user chose of them is carried out; at anything
-- else it is done
abbrev pub menu : AppletState → Stimulus → Turn
menu mind (Event code body) =
    if in_phase 0 mind && (code == MENU_SELECTION) then turn mind text_or_tone 1 else done mind
menu mind (Response result item text) =
    if in_phase 1 mind && is_good result then item_chosen mind item else done mind
menu mind _ = done mind

-- Kind 3, the clock, starts a timer when a terminal profile comes, and shows a text when it has run down.

-- to start this timer with five minutes
abbrev pub five_minutes : ℕ → Act
five_minutes timer =
    Send (TimerManagement START timer (record { hours = 0; minutes = MINUTES; seconds = 0 }))

-- the body names the timer that has run down
abbrev pub expired : AppletState → List ℕ → Turn
expired mind (timer ∷ []) = turn (record mind { held = timer }) (show TICK.now) 3
expired mind _ = done mind

-- in phase 3 the timer that has run down is given back; in another the applet is done
abbrev pub freeing : AppletState → Turn
freeing mind = if in_phase 3 mind then turn mind (FreeTimer mind.held) 4 else done mind

-- in phase 0 a terminal profile makes it ask for a timer, and a timer that has run down show a text; in phase 1 the timer that it got is started; in
-- phase 3 it is given back; at anything else it is done
abbrev pub clock : AppletState → Stimulus → Turn
clock mind (Event code body) =
    if in_phase 0 mind && (code == PROFILE_DOWNLOAD) then turn mind TakeTimer 1
    else (if in_phase 0 mind && (code == TIMER_EXPIRATION) then expired mind body
    else done mind)
clock mind (Timer timer) = if in_phase 1 mind then turn mind (five_minutes timer) 2 else done mind
clock mind (Response result item text) = freeing mind
clock mind Refused = freeing mind
clock mind Went = done mind

-- Kind 4, the watcher, keeps the location that the handset tells, and shows what it is told.

-- the value of the first location information (TS 102 223, 8.19) of the body, where there is one that can be kept
abbrev pub located : AppletState → Option (List ℕ) → Turn
located mind (Some location) =
    if nat_le (length location) MOST_KEPT then keeping mind location 1 else turn mind (show LOST.now) 2
located mind None = turn mind (show LOST.now) 2

-- the location is kept (03), a text is shown for the user's activity (04), and one for the idle screen (05); other events leave nothing to do
abbrev pub watched : AppletState → ℕ → List ℕ → Turn
watched mind code body =
    if code == LOCATION_STATUS then located mind (value_in LOCATION_INFORMATION body)
    else (if code == USER_ACTIVITY then turn mind (show ACTIVE.now) 2
    else (if code == IDLE_SCREEN then turn mind (Send (IdleText IDLE.now)) 2
    else done mind))

-- in phase 0 it takes an event; in phase 1 it shows a text once the location went into the card's memory; at anything else it is done
abbrev pub watcher : AppletState → Stimulus → Turn
watcher mind (Event code body) = if in_phase 0 mind then watched mind code body else done mind
watcher mind Went = if in_phase 1 mind then turn mind (show MOVED.now) 2 else done mind
watcher mind _ = done mind

-- Kind 5, the barrier, asks for digits and bars each number that begins with them.

-- a text that was typed is kept, at most 32 bytes of it
abbrev pub typed : AppletState → ℕ → List ℕ → Turn
typed mind result text =
    if in_phase 1 mind && is_good result then keeping mind (take MOST_KEPT text) 2 else done mind

-- the lower half of a byte comes first
abbrev pub halves : ℕ → List ℕ
halves byte = byte % 16 ∷ byte / 16 ∷ []

-- a half of a byte other than F, which fills up
abbrev pub is_digit_half : ℕ → Bool
is_digit_half half = not (half == 0xF)

-- The number of an address (TS 102 223, 8.1): after the byte of its type two digits a byte, up to the first half F.
-- Halves A to E stand for the characters after 9.
unfoldable pub address_digits : List ℕ → List ℕ
address_digits address = map (λ half. 0x30 + half) (take_while is_digit_half (flat_map halves (drop 1 address)))

-- the number begins with the kept digits; without kept digits none is barred
abbrev pub is_barred : List ℕ → List ℕ → Bool
is_barred [] address = false
is_barred (first ∷ others) address = starts_with nat_eq (address_digits address) (first ∷ others)

-- in phase 0 it allows a call whose number is not barred, or asks for digits at the choice of its item in the card's menu; what the user types then
-- is kept; at anything else it is done
abbrev pub barrier : AppletState → Stimulus → Turn
barrier mind (Event code body) =
    if in_phase 0 mind && (code == CALL_CONTROL) then turn mind (Answer (not (is_barred mind.kept body))) 4
    else (if in_phase 0 mind && (code == MENU_SELECTION) then turn mind (Send (GetInput ASK_FOR_DIGITS.now true 0 MOST_DIGITS)) 1
    else done mind)
barrier mind (Response result item text) = typed mind result text
barrier mind _ = done mind

-- Kind 6, the notebook, asks for a note, keeps it, and shows it when a terminal profile comes.

-- to send GET INPUT for a note, of at most 20 characters
abbrev pub ask_for_note : AppletState → Turn
ask_for_note mind = turn mind (Send (GetInput ASK_FOR_NOTE.now false 0 LONGEST_NOTE)) 1

-- the note is shown; where there is none it is asked for
abbrev pub opened : AppletState → List ℕ → Turn
opened mind [] = ask_for_note mind
opened mind (first ∷ others) = turn mind (show (first ∷ others)) 2

-- in phase 0 it asks for a note at the choice of its item in the card's menu, and at a terminal profile shows the note or asks for one; what the user
-- types then is kept; at anything else it is done
abbrev pub notebook : AppletState → Stimulus → Turn
notebook mind (Event code body) =
    if in_phase 0 mind && (code == MENU_SELECTION) then ask_for_note mind
    else (if in_phase 0 mind && (code == PROFILE_DOWNLOAD) then opened mind mind.kept
    else done mind)
notebook mind (Response result item text) = typed mind result text
notebook mind _ = done mind

-- Kind 7, the table, does what its kept bytes say: rows of an event, an action and its argument.

-- a row of three bytes: the code of an event, an action, and its argument
pub record ActionRow : Type 0 where
  pub event : ℕ
  pub action : ℕ
  pub argument : ℕ

-- one or two bytes after the last row are passed over
abbrev pub rows : List ℕ → List ActionRow
rows (event ∷ action ∷ argument ∷ others) =
    record { event = event; action = action; argument = argument } ∷ rows others
rows _ = []

-- the first row of the event at this place or after it, with its place
unfoldable pub row_from : ℕ → ℕ → List ActionRow → Option (ℕ × ActionRow)
row_from from event all =
    find (λ placed. nat_le from placed.0 && (placed.1.event == event)) (enumerate_from 0 all)

-- what an action does with its argument: it shows it as a text (01), plays it as a tone (02), sends MORE TIME (03, without it), PROVIDE LOCAL
-- INFORMATION (04), REFRESH (05) or GET INKEY (06), registers for the event (07) or deregisters (08), shows it when idle (09), or asks for a timer
-- (0A, without it), and goes on in phase 1; at another action the applet is done
abbrev pub acting : AppletState → ℕ → ℕ → Turn
acting mind action argument =
    if action == SHOW then turn mind (show (argument ∷ [])) 1
    else (if action == PLAY_TONE then turn mind (Send (PlayTone argument)) 1
    else (if action == MORE_TIME then turn mind (Send MoreTime) 1
    else (if action == TELL_INFORMATION then turn mind (Send (LocalInformation argument)) 1
    else (if action == REFRESH then turn mind (Send (Refresh argument)) 1
    else (if action == GET_KEY then turn mind (Send (GetInkey (argument ∷ []))) 1
    else (if action == REGISTER then turn mind (Register argument) 1
    else (if action == DEREGISTER then turn mind (Deregister argument) 1
    else (if action == SHOW_WHEN_IDLE then turn mind (Send (IdleText (argument ∷ []))) 1
    else (if action == TAKE_TIMER then turn mind TakeTimer 1
    else done mind)))))))))

-- the row that was found is acted on, and its place is held with the event's code; where none was found, the applet is done
abbrev pub at_row : AppletState → ℕ → Option (ℕ × ActionRow) → Turn
at_row mind code None = done mind
at_row mind code (Some (place, row)) =
    acting (record mind { held = place; code = code }) row.action row.argument

-- what the first row of the event at this place or after it says; the mind holds its place and the event's code
abbrev pub next_row : AppletState → ℕ → ℕ → Turn
next_row mind from code = at_row mind code (row_from from code (rows mind.kept))

-- in phase 1 the next row of the same event is acted on; in another the applet is done
abbrev pub next_or_done : AppletState → Turn
next_or_done mind = if in_phase 1 mind then next_row mind (mind.held + 1) mind.code else done mind

-- an event in phase 0 begins with its first row, and each later stimulus in phase 1 goes on with the next; else the applet is done
abbrev pub table : AppletState → Stimulus → Turn
table mind (Event code body) =
    if in_phase 0 mind then next_row mind 0 code else next_or_done mind
table mind _ = next_or_done mind
