-- What the card sends: the numbers of its commands (ETSI TS 102 223, 8.6), and the events that it asks the handset to report (6.4.16, 8.25).
use Rattle.std.specs.Prelude.{◌≡◌, ◌≢◌, ◌↔◌, ℕ, suc, zero, ◌+◌, ◌≤◌, ◌<◌, true, List, [], ◌∷◌, length, AllPairs, Contains, Option, Some, None, option_map}
use Rattle.card_state.specs.Persistent.{Registration}
use Rattle.toolkit_commands.specs.declared.commands.Proactive.{Proactive}
use Rattle.toolkit_commands.specs.declared.commands.Proactive.TheVariants.{SetUpEventList}
use Rattle.terminal_profile.specs.Profiles.{allowed, allowed_event}
use Rattle.toolkit_model.specs.Driving.{wanted}
use Rattle.toolkit_model.specs.Running.{next_number, putting_out}
use Rattle.toolkit_model.specs.Sessions.{Announced, SessionState}

-- ---- numbers

-- a command may have this number
abbrev pub IsCommandNumber : ℕ → Type 0
IsCommandNumber number = (1 ≤ number) × (number ≤ 254)

-- the number that is given so many commands later
unfoldable pub number_after : ℕ → ℕ → ℕ
number_after zero number = number
number_after (suc count) number = number_after count (next_number number)

-- commands become outstanding, each of an applet or of the card itself, one after the other
unfoldable pub put_out : List (Option ℕ × Proactive) → SessionState → SessionState
put_out [] session = session
put_out (sent ∷ others) session = put_out others (putting_out sent.0 sent.1 session)

-- the number of the command that is outstanding, if there is one
abbrev pub number_out : SessionState → Option ℕ
number_out session = option_map (λ out. out.number) session.out

-- the command that is outstanding after others has the number that is given so many later
abbrev pub CommandsAreNumbered : Type 0
CommandsAreNumbered =
    (session : SessionState) (sent : List (Option ℕ × Proactive)) (owner : Option ℕ) (command : Proactive)
    → number_out (putting_out owner command (put_out sent session)) ≡ Some (number_after (length sent + 1) session.last_number)

-- each number that is given is one that a command may have
abbrev pub NumbersAreInRange : Type 0
NumbersAreInRange = (number : ℕ) → IsCommandNumber (next_number number)

-- the same number is given 254 commands later, and no sooner
abbrev pub NumbersComeBack : Type 0
NumbersComeBack = (number : ℕ) → IsCommandNumber number → number_after 254 number ≡ number

-- Fewer than 254 commands later no command has the same number.
abbrev pub NumbersDiffer : Type 0
NumbersDiffer = (number count : ℕ) → IsCommandNumber number → 1 ≤ count → count < 254 → number_after count number ≢ number

-- ---- the list of events

-- an applet is registered for the event
abbrev pub IsRegistered : List Registration → ℕ → Type 0
IsRegistered rows code = (row : Registration) × Contains rows row × Contains row.codes code

-- just the events for which an applet is registered and which the handset can report; they ascend, so that each stands there once
pub record AreEventsWanted (profile : List ℕ) (rows : List Registration) (events : List ℕ) : Type 0 where
  pub ascending : AllPairs (λ a b. a < b) events
  pub just : (code : ℕ) → Contains events code ↔ (IsRegistered rows code × (allowed_event profile code ≡ true))

-- The card asks for a list of events exactly where these are the events, the handset was told others before, and it takes such a list.
abbrev pub EventListsAreAsked : Type 0
EventListsAreAsked =
    (profile : List ℕ) (rows : List Registration) (announced : Announced) (events : List ℕ)
    → (wanted (Some profile) rows announced ≡ Some (SetUpEventList events)) ↔ (AreEventsWanted profile rows events × (events ≢ announced.events) × (allowed profile (SetUpEventList events) ≡ true))

-- a handset that has not told what it can do is asked for nothing
abbrev pub NothingIsAskedBefore : Type 0
NothingIsAskedBefore = (rows : List Registration) (announced : Announced) → wanted None rows announced ≡ None
