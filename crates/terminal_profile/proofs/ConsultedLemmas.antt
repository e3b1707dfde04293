-- What a profile allows is told by its first eight bytes: each place of the two tables is in one of them.
use Rattle.std.proofs.Common.{◌≡◌, ℕ, zero, suc, ◌-◌, ◌<◌, ◌==◌, cond, Bool, true, false, List, [], ◌∷◌, ◌++◌, length, get_or, replicate, Option, Some, None, option_map, find, refl, sym, ap, ◌∙◌, arith, rules}
use Rattle.std.specs.Int.{bit_at}
use Rattle.std.specs.List.{AllByRecursion}
use Rattle.std.specs.Option.{option_map_or}
use Rattle.std.proofs.lemmas.List.{places, ext_get_or, get_or-take}
use Rattle.std.proofs.lemmas.Nat.Bits.{bit_at-zero}
use Rattle.toolkit_commands.specs.declared.commands.Proactive.{Proactive}
use Rattle.toolkit_commands.specs.declared.commands.Proactive.TheVariants.{Refresh, MoreTime, PollInterval, SetUpEventList, PlayTone, DisplayText, GetInkey, GetInput, SelectItem, SetUpMenu, LocalInformation, TimerManagement, IdleText}
use Rattle.terminal_profile.specs.declared.profile_places.Place.{Place}
use Rattle.terminal_profile.specs.Profiles.{place, has, place_of_command, EventRow, event_table, allowed, allowed_event, consulted}

zeros : (count at : ℕ) → get_or (replicate {A = ℕ} count 0) at 0 ≡ 0
zeros zero at = refl
zeros (suc count) zero = refl
zeros (suc count) (suc at) = zeros count at

-- zeros after a profile change no byte of it
filled : (count : ℕ) (profile : List ℕ) (at : ℕ) → get_or (profile ++ replicate count 0) at 0 ≡ get_or profile at 0
filled count [] at = zeros count at
filled count (byte ∷ rest) zero = refl
filled count (byte ∷ rest) (suc at) = filled count rest at

length-consulted : (profile : List ℕ) → length (consulted profile) ≡ 8
unfolding consulted
length-consulted profile = grind (arith, places)

consulted-at : (profile : List ℕ) (at : ℕ) → at < 8 → get_or (consulted profile) at 0 ≡ get_or profile at 0
unfolding consulted
consulted-at profile at within = get_or-take 8 _ at 0 within ∙ filled 8 profile at

-- eight bytes that are those of the profile are the consulted ones
pub is_consulted : (first profile : List ℕ) → length first ≡ 8 → ((at : ℕ) → at < 8 → get_or first at 0 ≡ get_or profile at 0) → first ≡ consulted profile
is_consulted first profile eight same =
    ext_get_or 0 _ _ (eight ∙ sym (length-consulted profile)) (λ at within.
    let within_eight : at < 8 = omega arith in
    same at within_eight ∙ sym (consulted-at profile at within_eight))

-- the place is in one of the first eight bytes
abbrev IsConsulted : Place → Type 0
IsConsulted wanted = wanted.byte - 1 < 8

has-consulted : (profile : List ℕ) (wanted : Place) → IsConsulted wanted → has (consulted profile) wanted ≡ has profile wanted
has-consulted profile wanted within =
    ap (λ byte. bit_at byte (wanted.bit - 1) == 1) (consulted-at profile (wanted.byte - 1) within)

has-nil : (wanted : Place) → has [] wanted ≡ false
has-nil wanted = ap (λ bit. bit == 1) (bit_at-zero (wanted.bit - 1))

-- by what the timer is asked
timers_within : (is_get : Bool) → IsConsulted (cond is_get (place 8 2) (place 8 1))
timers_within true = omega arith
timers_within false = omega arith

commands_within : (command : Proactive) → IsConsulted (place_of_command command)
commands_within (Refresh mode) = omega arith
commands_within MoreTime = omega arith
commands_within (PollInterval seconds) = omega arith
commands_within (SetUpEventList events) = omega arith
commands_within (PlayTone tone) = omega arith
commands_within (DisplayText text) = omega arith
commands_within (GetInkey text) = omega arith
commands_within (GetInput text digits min max) = omega arith
commands_within (SelectItem title items) = omega arith
commands_within (SetUpMenu title items) = omega arith
commands_within (LocalInformation what) = omega arith
commands_within (TimerManagement action timer value) = timers_within (action == 2)
commands_within (IdleText text) = omega arith

events_within : AllByRecursion (λ row. IsConsulted row.place) event_table
events_within = search rules

-- whether the bit of the first row that passes is set
abbrev row_has : (Place → Bool) → Option EventRow → Bool
row_has is_set row = option_map_or is_set (option_map (λ row. row.place) row) false

one_more_row : (one other : Place → Bool) (passes : Bool) (row : EventRow) (later : Option EventRow) → one row.place ≡ other row.place → row_has one later ≡ row_has other later → row_has one (cond passes (Some row) later) ≡ row_has other (cond passes (Some row) later)
one_more_row one other true row later here rest = here
one_more_row one other false row later here rest = rest

rows-consulted : (profile : List ℕ) (code : ℕ) (table : List EventRow) → AllByRecursion (λ row. IsConsulted row.place) table → row_has (has (consulted profile)) (find (λ row. row.code == code) table) ≡ row_has (has profile) (find (λ row. row.code == code) table)
rows-consulted profile code [] within = refl
rows-consulted profile code (row ∷ rest) within =
    one_more_row _ _ (row.code == code) row _ (has-consulted profile row.place within.0) (rows-consulted profile code rest within.1)

pub allowed-consulted : (profile : List ℕ) (command : Proactive) → allowed (consulted profile) command ≡ allowed profile command
unfolding allowed
allowed-consulted profile command = has-consulted profile (place_of_command command) (commands_within command)

pub allowed_event-consulted : (profile : List ℕ) (code : ℕ) → allowed_event (consulted profile) code ≡ allowed_event profile code
unfolding allowed_event
allowed_event-consulted profile code = rows-consulted profile code event_table events_within

-- a profile of no bytes allows nothing
allowed-nil : (command : Proactive) → allowed [] command ≡ false
unfolding allowed
allowed-nil command = has-nil (place_of_command command)

no_row_has : (row : Option EventRow) → row_has (has []) row ≡ false
no_row_has None = refl
no_row_has (Some row) = has-nil row.place

allowed_event-nil : (code : ℕ) → allowed_event [] code ≡ false
unfolding allowed_event
allowed_event-nil code = no_row_has (find (λ row. row.code == code) event_table)

pub nothing_allowed : (command : Proactive) → allowed (consulted []) command ≡ false
nothing_allowed command = allowed-consulted [] command ∙ allowed-nil command

pub no_event_allowed : (code : ℕ) → allowed_event (consulted []) code ≡ false
no_event_allowed code = allowed_event-consulted [] code ∙ allowed_event-nil code
