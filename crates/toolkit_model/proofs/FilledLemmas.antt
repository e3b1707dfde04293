-- What becomes outstanding where nothing is.
use Rattle.std.proofs.Common.{◌≡◌, ℕ, ◌≤◌, Bool, true, List, [], ◌∷◌, ◌++◌, length, Option, Some, None, ap, arith, refl, sym, ◌∙◌, subst, lit≤, ◌≢◌, ◌&&◌, All, AllPairs, IfSome, is_some, filter}
use Rattle.std.proofs.lemmas.List.{length-map}
use Rattle.std.specs.List.{list_any}
use Rattle.std.proofs.lemmas.List.Elements.{All-head, All-tail, All-map, All-filter}
use Rattle.std.proofs.lemmas.List.Sums.{length-filter}
use Rattle.std.proofs.lemmas.Bool.{cond_both}
use Rattle.card_state.specs.Persistent.{Registration}
use Rattle.card_state.specs.Sections.{has_text}
use Rattle.toolkit_commands.specs.declared.commands.Proactive.{Proactive}
use Rattle.toolkit_commands.specs.declared.commands.Proactive.TheVariants.{PollInterval, SetUpEventList, SetUpMenu}
use Rattle.toolkit_commands.specs.Table.{spelled}
use Rattle.toolkit_commands.specs.Matching.{IsShort, AreBounded}
use Rattle.terminal_profile.specs.Profiles.{allowed, allowed_event}
use Rattle.toolkit_model.specs.Sessions.{Outstanding, Sent, Announced, SessionState}
use Rattle.toolkit_model.specs.Orderly.{IsRegistered, CanBeSent, owned, asks, IsUnderway}
use Rattle.toolkit_model.specs.Passing.{ToolkitState}
use Rattle.toolkit_model.specs.Order.{is_for}
use Rattle.toolkit_model.specs.Registry.{item_of, menu_of}
use Rattle.toolkit_model.specs.Running.{putting_out}
use Rattle.toolkit_model.specs.Driving.{download_codes, events_for, menu_title, half_a_minute, or_else, if_allowed, event_list_wanted, menu_wanted, polling_wanted, wanted, announcing, front_out, next_out, filled, with_next_command}
use Rattle.toolkit_model.specs.Steps.{AreRows}
use Rattle.toolkit_model.proofs.RunOfRowLemmas.{IsReady}

-- a law of the table of commands: which spellings are short
abbrev pub ShortFits : Type 0
ShortFits = (command : Proactive) (number : ℕ) → IsShort command → length (spelled command number) ≤ 255

-- ---- what the card itself sends can be sent

filter_shorter : {X : Type 0} (p : X → Bool) (xs : List X) → length (filter p xs) ≤ length xs
filter_shorter p [] = omega arith
filter_shorter p (x ∷ xs) = cond_both (p x) (x ∷ filter p xs) (filter p xs) (λ kept. length kept ≤ length (x ∷ xs)) (λ h. omega (arith, filter_shorter p xs)) (λ h. omega (arith, filter_shorter p xs))

event_list_sent : ShortFits → (profile : List ℕ) (rows : List Registration) → CanBeSent (SetUpEventList (events_for profile rows))
event_list_sent short profile rows =
    let few : length (events_for profile rows) ≤ length download_codes = filter_shorter (λ code. list_any (is_for code) rows && allowed_event profile code) download_codes in
    record { proper = tt; short = λ number. short (SetUpEventList (events_for profile rows)) number (omega arith) }

menu_sent : ShortFits → (rows : List Registration) → AreRows rows → CanBeSent (SetUpMenu menu_title (menu_of rows))
menu_sent short rows are =
    let bounded : AreBounded menu_title (menu_of rows) = record {
      title_length = lit≤ tt;
      text_lengths = All-map (λ item. length item.text ≤ 10) item_of (filter has_text rows) (All-filter has_text (λ row. length row.text ≤ 10) rows are.texts);
      count = omega (arith, length-map (filter has_text rows) item_of, length-filter has_text rows, are.few_texts);
    } in
    record { proper = tt; short = λ number. short (SetUpMenu menu_title (menu_of rows)) number bounded }

polling_sent : ShortFits → CanBeSent (PollInterval half_a_minute)
polling_sent short = record { proper = tt; short = λ number. short (PollInterval half_a_minute) number tt }

allowed_sent : (profile : List ℕ) (is_due : Bool) (command : Proactive) → CanBeSent command → IfSome (if_allowed profile is_due command) CanBeSent
allowed_sent profile is_due command can = cond_both (is_due && allowed profile command) (Some command) None (λ found. IfSome found CanBeSent) (λ h. can) (λ h. tt)

one_or_other : (first second : Option Proactive) → IfSome first CanBeSent → IfSome second CanBeSent → IfSome (or_else first second) CanBeSent
one_or_other None second here there = there
one_or_other (Some command) second here there = here

-- what is wanted can be sent, to a handset that sent its profile
abbrev IsWanted : Option (List ℕ) → Proactive → Type 0
IsWanted profile command = CanBeSent command × (is_some profile ≡ true)

with_profile_known : (profile : List ℕ) (found : Option Proactive) → IfSome found CanBeSent → IfSome found (IsWanted (Some profile))
with_profile_known profile None can = tt
with_profile_known profile (Some command) can = (can, refl)

wanted_sent : ShortFits → (profile : Option (List ℕ)) (rows : List Registration) (announced : Announced) → AreRows rows → IfSome (wanted profile rows announced) (IsWanted profile)
unfolding wanted
wanted_sent short None rows announced are = tt
wanted_sent short (Some profile) rows announced are =
    with_profile_known profile _ (one_or_other (event_list_wanted profile rows announced) (or_else (menu_wanted profile rows announced) (polling_wanted profile rows announced))
    (allowed_sent profile _ (SetUpEventList (events_for profile rows)) (event_list_sent short profile rows))
    (one_or_other (menu_wanted profile rows announced) (polling_wanted profile rows announced)
    (allowed_sent profile _ (SetUpMenu menu_title (menu_of rows)) (menu_sent short rows are))
    (allowed_sent profile _ (PollInterval half_a_minute) (polling_sent short))))

-- ---- the session then

asks_waiting : (session : SessionState) → session.out ≡ None → asks session ≡ session.waiting
unfolding asks
asks_waiting session is = ap (λ (out : Option Outstanding). owned out ++ session.waiting) is

asks_system : (session : SessionState) (command : Proactive) → asks (putting_out None command session) ≡ session.waiting
unfolding asks
asks_system session command = refl

asks_front : (session : SessionState) (sent : Sent) (others : List Sent) → asks (putting_out (Some sent.shelf) sent.command (record session { waiting = others })) ≡ sent ∷ others
unfolding asks
asks_front session sent others = refl

system_ready : (rows : List Registration) (session : SessionState) (command : Proactive) → session.out ≡ None → IsWanted session.profile command → IsUnderway rows session
    → IsUnderway rows (putting_out None command (record session { announced = announcing command session.announced }))
system_ready rows session command none wanted underway =
    let announced : SessionState = record session { announced = announcing command session.announced } in
    let same : asks (putting_out None command announced) ≡ asks session = asks_system announced command ∙ sym (asks_waiting session none) in
    record {
      apart = subst (AllPairs (λ a b. a.shelf ≢ b.shelf)) (sym same) underway.apart;
      askers = subst (All (λ sent. IsRegistered rows sent.shelf)) (sym same) underway.askers;
      sendable = underway.sendable;
      out_sendable = wanted.0;
      late_rows = underway.late_rows;
      few_late = underway.few_late;
      timers = underway.timers;
      eight_timers = underway.eight_timers;
      no_profile = λ is. absurd (cc (wanted.1, is));
    }

front_ready : (rows : List Registration) (session : SessionState) (waiting : List Sent) → session.waiting ≡ waiting → session.out ≡ None → IsUnderway rows session
    → IsUnderway rows (front_out waiting session)
front_ready rows session [] is none underway = underway
front_ready rows session (sent ∷ others) is none underway =
    let same : asks (putting_out (Some sent.shelf) sent.command (record session { waiting = others })) ≡ asks session = asks_front session sent others ∙ sym is ∙ sym (asks_waiting session none) in
    let sendable : All (λ sent. CanBeSent sent.command) (sent ∷ others) = subst (All (λ (sent : Sent). CanBeSent sent.command)) is underway.sendable in
    record {
      apart = subst (AllPairs (λ a b. a.shelf ≢ b.shelf)) (sym same) underway.apart;
      askers = subst (All (λ sent. IsRegistered rows sent.shelf)) (sym same) underway.askers;
      sendable = All-tail (λ sent. CanBeSent sent.command) sent others sendable;
      out_sendable = All-head (λ sent. CanBeSent sent.command) sent others sendable;
      late_rows = underway.late_rows;
      few_late = underway.few_late;
      timers = underway.timers;
      eight_timers = underway.eight_timers;
      no_profile = λ no_one. absurd (cc (sym is ∙ (underway.no_profile no_one).1));
    }

next_ready : (rows : List Registration) (session : SessionState) (found : Option Proactive) → session.out ≡ None → IfSome found (IsWanted session.profile) → IsUnderway rows session
    → IsUnderway rows (next_out found session)
next_ready rows session None none wanted underway = front_ready rows session session.waiting refl none underway
next_ready rows session (Some command) none wanted underway = system_ready rows session command none wanted underway

filled_ready : ShortFits → (rows : List Registration) (session : SessionState) (out : Option Outstanding) → session.out ≡ out → AreRows rows → IsUnderway rows session
    → IsUnderway rows (filled out rows session)
filled_ready short rows session (Some out) is are underway = underway
filled_ready short rows session None is are underway =
    next_ready rows session (wanted session.profile rows session.announced) is (wanted_sent short session.profile rows session.announced are) underway

pub settled_ready : ShortFits → (state : ToolkitState) → IsReady state → IsReady (with_next_command state)
unfolding with_next_command
settled_ready short state ready = record { underway = filled_ready short state.rows state.session state.session.out refl ready.rows_are ready.underway; rows_are = ready.rows_are; minds = ready.minds }

-- commands wait only behind an outstanding one
abbrev pub WaitsBehind : SessionState → Type 0
WaitsBehind session = session.out ≡ None → session.waiting ≡ []

front_behind : (session : SessionState) (waiting : List Sent) → session.waiting ≡ waiting → WaitsBehind (front_out waiting session)
front_behind session [] is = λ none. is
front_behind session (sent ∷ others) is = λ none. cc

next_behind : (session : SessionState) (found : Option Proactive) → WaitsBehind (next_out found session)
next_behind session None = front_behind session session.waiting refl
next_behind session (Some command) = λ none. cc

filled_behind : (rows : List Registration) (session : SessionState) (out : Option Outstanding) → session.out ≡ out → WaitsBehind (filled out rows session)
filled_behind rows session (Some out) is = λ none. cc
filled_behind rows session None is = next_behind session (wanted session.profile rows session.announced)

pub settled_behind : (state : ToolkitState) → WaitsBehind (with_next_command state).session
unfolding with_next_command
settled_behind state = filled_behind state.rows state.session state.session.out refl

-- the same applets ask, and the same triggers are late
front_asks : (session : SessionState) (waiting : List Sent) → session.waiting ≡ waiting → session.out ≡ None → asks (front_out waiting session) ≡ asks session
front_asks session [] is none = refl
front_asks session (sent ∷ others) is none = asks_front session sent others ∙ sym is ∙ sym (asks_waiting session none)

next_asks : (session : SessionState) (found : Option Proactive) → session.out ≡ None → asks (next_out found session) ≡ asks session
next_asks session None none = front_asks session session.waiting refl none
next_asks session (Some command) none = asks_system (record session { announced = announcing command session.announced }) command ∙ sym (asks_waiting session none)

filled_asks : (rows : List Registration) (session : SessionState) (out : Option Outstanding) → session.out ≡ out → asks (filled out rows session) ≡ asks session
filled_asks rows session (Some out) is = refl
filled_asks rows session None is = next_asks session (wanted session.profile rows session.announced) is

pub settled_asks : (state : ToolkitState) → asks (with_next_command state).session ≡ asks state.session
unfolding with_next_command
settled_asks state = filled_asks state.rows state.session state.session.out refl

front_late : (session : SessionState) (waiting : List Sent) → (front_out waiting session).late ≡ session.late
front_late session [] = refl
front_late session (sent ∷ others) = refl

next_late : (session : SessionState) (found : Option Proactive) → (next_out found session).late ≡ session.late
next_late session None = front_late session session.waiting
next_late session (Some command) = refl

filled_late : (rows : List Registration) (session : SessionState) (out : Option Outstanding) → (filled out rows session).late ≡ session.late
filled_late rows session (Some out) = refl
filled_late rows session None = next_late session (wanted session.profile rows session.announced)

pub settled_late : (state : ToolkitState) → (with_next_command state).session.late ≡ state.session.late
unfolding with_next_command
settled_late state = filled_late state.rows state.session state.session.out
