-- What a card knows of its toolkit between two commands, and loses at a reset (ETSI TS 102 223, 6 and 7).
use Rattle.std.specs.Prelude.{◌≡◌, ℕ, Bool, false, List, [], replicate, Option, None}
use Rattle.toolkit_commands.specs.declared.commands.Proactive.{Proactive}
use Rattle.toolkit_commands.specs.declared.items.Item.{Item}
use Rattle.timer_table.specs.Timers.{Owners}

-- A command that the handset was told of and has not answered yet. Its owner is the shelf of the applet that sent it, or
-- None where the card itself sent it. It is fetched once the handset took its bytes.
pub record Outstanding : Type 0 where
  pub owner : Option ℕ
  pub command : Proactive
  pub number : ℕ
  pub is_fetched : Bool

-- a command that the applet of a shelf sent
pub record Sent : Type 0 where
  pub shelf : ℕ
  pub command : Proactive

-- an event that came for the applet of a shelf while it waited for an answer
pub record LateTrigger : Type 0 where
  pub shelf : ℕ
  pub code : ℕ
  pub body : List ℕ

-- what the handset was last told for the card itself: the events that it is to report, the items of the menu, and whether
-- it is to ask for commands by itself
pub record Announced : Type 0 where
  pub events : List ℕ
  pub menu : List Item
  pub polls : Bool

-- The profile is the handset's last terminal profile, None before the first. At most one command is outstanding; others
-- wait in the order in which they were sent, and late triggers in the order in which they came. The timers have their
-- owners. The last number is that of the latest command, 0 before the first.
pub record SessionState : Type 0 where
  pub profile : Option (List ℕ)
  pub out : Option Outstanding
  pub waiting : List Sent
  pub late : List LateTrigger
  pub announced : Announced
  pub timers : Owners
  pub last_number : ℕ

-- no events, no menu, no polling
abbrev pub nothing_announced : Announced
nothing_announced = record { events = []; menu = []; polls = false }

-- nobody holds any of the eight timers
abbrev pub free_timers : Owners
free_timers = replicate 8 None

-- as it is after a reset
abbrev pub fresh_session : SessionState
fresh_session = record {
  profile = None;
  out = None;
  waiting = [];
  late = [];
  announced = nothing_announced;
  timers = free_timers;
  last_number = 0;
}

-- nothing is outstanding, waits or is late, nothing was announced, and nobody holds a timer
pub record HasNoParts (session : SessionState) : Type 0 where
  pub nothing_out : session.out ≡ None
  pub nothing_waits : session.waiting ≡ []
  pub nothing_late : session.late ≡ []
  pub nothing_announced : session.announced ≡ nothing_announced
  pub timers_are_free : session.timers ≡ free_timers
