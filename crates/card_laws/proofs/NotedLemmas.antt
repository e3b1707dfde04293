-- What is noted of each command of the toolkit.
use Rattle.std.proofs.Common.{◌≡◌, ℕ, zero, suc, Bool, true, false, List, [], ◌∷◌, ◌++◌, map, length, Option, Some, None, refl, ◌∙◌, ap, not, if◌then◌else◌, append-nil}
use Rattle.std.specs.List.{list_any}
use Rattle.std.proofs.lemmas.List.Elements.{filter-append}
use Rattle.uicc_types.specs.declared.events.TheConstants.{PROFILE_DOWNLOAD, STATUS_COMMAND}
use Rattle.card_state.specs.Changes.{Change}
use Rattle.card_state.specs.Persistent.{Registration}
use Rattle.toolkit_commands.specs.declared.commands.Proactive.{Proactive}
use Rattle.toolkit_commands.specs.declared.envelopes.Envelope.{Envelope}
use Rattle.toolkit_commands.specs.declared.responses.Response.{Response as Reply}
use Rattle.applet_trait.specs.declared.stimuli.Stimulus.{Stimulus}
use Rattle.applet_trait.specs.declared.stimuli.Stimulus.TheVariants.{Event, Response}
use Rattle.applet_trait.specs.Minds.{AppletState}
use Rattle.applet_trait.specs.Turns.{act}
use Rattle.toolkit_model.specs.Sessions.{Outstanding, LateTrigger}
use Rattle.toolkit_model.specs.Order.{targets}
use Rattle.toolkit_model.specs.Orderly.{asks}
use Rattle.toolkit_model.specs.Passing.{ToolkitState, Happening, Woke, Fetched, Responded, Given, Turned, Committed, Passed, before, in_turn}
use Rattle.toolkit_model.specs.Changes.{change_by}
use Rattle.toolkit_model.specs.Running.{Setting, Works, Ran, admitted, carried, committed, going_on, run_on, most_acts, mind_on, setting_of, works_of, run_of_mind, run_of_row}
use Rattle.toolkit_model.specs.Driving.{is_idle, with_session, running, told_if, given_if, trigger_for, told_one, given_one, first_idle, catching, caught_up, driven}
use Rattle.toolkit_model.specs.Commands.{registered_told, with_profile, profiled, polled, Trigger, triggered_by, reported, triggered, enveloped, fetched, resumed, with_nothing_out, answered, responded, registering, installed, unregistering, delete_carried}
use Rattle.toolkit_model.specs.Steps.{ToolkitInput, Profile, Status, Report, Fetch, Respond, Install, Delete, Wake, moved}
use Rattle.toolkit_model.specs.Owing.{is_wake}
use Rattle.card_laws.specs.Noted.{brought_by, brought, all_given, is_within, besides, notes_of}

-- ---- logs

-- turns and commits alone
abbrev IsQuiet : List Happening → Type 0
IsQuiet log = besides log ≡ []

pub besides_joined : (first second : List Happening) → besides (first ++ second) ≡ besides first ++ besides second
besides_joined first second = filter-append (λ happening. not (is_within happening)) first second

before_quiet : (first second : List Happening) → IsQuiet second → besides (first ++ second) ≡ besides first
before_quiet first second quiet = besides_joined first second ∙ ap (λ back. besides first ++ back) quiet ∙ append-nil (besides first)

after_quiet : (first second : List Happening) → IsQuiet first → besides (first ++ second) ≡ besides second
after_quiet first second quiet = besides_joined first second ∙ ap (λ front. front ++ besides second) quiet

-- ---- a run of an applet

commit_quiet : (b : Bool) (change : Change) (rows : List Registration) → IsQuiet (if b then Committed change rows ∷ [] else [])
commit_quiet true change rows = refl
commit_quiet false change rows = refl

going_quiet : (works : Works) (sent : Option Proactive) (next : Stimulus → Works → Ran) (tells : Option Stimulus) → ((stimulus : Stimulus) → IsQuiet (next stimulus works).log) → IsQuiet (going_on works sent next tells).log
going_quiet works sent next None more = refl
going_quiet works sent next (Some stimulus) more = more stimulus

run_quiet : (fuel : ℕ) (at : Setting) (stimulus : Stimulus) (works : Works) → IsQuiet (run_on fuel at stimulus works).log
unfolding run_on
run_quiet zero at stimulus works = refl
run_quiet (suc fuel) at stimulus works =
    let made = act works.mind stimulus in
    let turned : Works = record works { mind = made.next } in
    let done = carried at made.does turned in
    let later : Ran = going_on done.works (admitted at turned.timers made.does) (run_on fuel at) done.tells in
    after_quiet (committed at made.does done) later.log (commit_quiet done.is_committed (change_by at.shelf made.does done.works.rows) done.works.rows)
    ∙ going_quiet done.works (admitted at turned.timers made.does) (run_on fuel at) done.tells (λ next. run_quiet fuel at next done.works)

mind_quiet : (shelf : ℕ) (stimulus : Stimulus) (is_resumed : Bool) (state : ToolkitState) (mind : Option AppletState) → IsQuiet (run_of_mind shelf stimulus is_resumed state mind).log
mind_quiet shelf stimulus is_resumed state None = refl
mind_quiet shelf stimulus is_resumed state (Some mind) = run_quiet most_acts (setting_of shelf stimulus state) stimulus (works_of mind state)

row_quiet : (shelf : ℕ) (stimulus : Stimulus) (is_resumed : Bool) (state : ToolkitState) → IsQuiet (run_of_row shelf stimulus is_resumed state).log
unfolding run_of_row
row_quiet shelf stimulus is_resumed state = mind_quiet shelf stimulus is_resumed state (mind_on state.minds shelf)

-- ---- events of the card's own

told_quiet : (b : Bool) (trigger : LateTrigger) (state : ToolkitState) → IsQuiet (told_if b trigger state).log
told_quiet true trigger state = row_quiet trigger.shelf (Event trigger.code trigger.body) false state
told_quiet false trigger state = refl

told_one_quiet : (code : ℕ) (body : List ℕ) (shelf : ℕ) (state : ToolkitState) → IsQuiet (told_one code body shelf state).log
unfolding told_one
told_one_quiet code body shelf state = told_quiet (is_idle (asks state.session) shelf) (trigger_for code body shelf) state

told_all_quiet : (code : ℕ) (body : List ℕ) (shelves : List ℕ) (state : ToolkitState) → IsQuiet (in_turn (told_one code body) shelves state).log
told_all_quiet code body [] state = refl
told_all_quiet code body (shelf ∷ others) state =
    let first : Passed = told_one code body shelf state in
    after_quiet first.log (in_turn (told_one code body) others first.state).log (told_one_quiet code body shelf state) ∙ told_all_quiet code body others first.state

-- ---- events that an envelope brings

given_quiet : (b : Bool) (trigger : LateTrigger) (state : ToolkitState) → IsQuiet (given_if b trigger state).log
given_quiet true trigger state = row_quiet trigger.shelf (Event trigger.code trigger.body) false state
given_quiet false trigger state = refl

abbrev gifts : ℕ → List ℕ → List ℕ → List Happening
gifts code body shelves = map (λ trigger. Given trigger) (map (trigger_for code body) shelves)

given_noted : (code : ℕ) (body : List ℕ) (shelves : List ℕ) (state : ToolkitState) → besides (in_turn (given_one code body) shelves state).log ≡ gifts code body shelves
unfolding given_one
given_noted code body [] state = refl
given_noted code body (shelf ∷ others) state =
    let trigger : LateTrigger = trigger_for code body shelf in
    let first : Passed = given_if (is_idle (asks state.session) shelf) trigger state in
    ap (λ (rest : List Happening). Given trigger ∷ rest)
    (after_quiet first.log (in_turn (given_one code body) others first.state).log (given_quiet (is_idle (asks state.session) shelf) trigger state) ∙ given_noted code body others first.state)

-- ---- driving

catching_quiet : (next : ToolkitState → Passed) (state : ToolkitState) (found : Option (LateTrigger × List LateTrigger)) → ((later : ToolkitState) → IsQuiet (next later).log) → IsQuiet (catching next state found).log
catching_quiet next state None more = refl
catching_quiet next state (Some found) more =
    let first : Passed = running found.0 (with_session state (record state.session { late = found.1 })) in
    after_quiet first.log (next first.state).log (row_quiet found.0.shelf (Event found.0.code found.0.body) false (with_session state (record state.session { late = found.1 }))) ∙ more first.state

caught_quiet : (count : ℕ) (state : ToolkitState) → IsQuiet (caught_up count state).log
unfolding caught_up
caught_quiet zero state = refl
caught_quiet (suc count) state = catching_quiet (caught_up count) state (first_idle (asks state.session) state.session.late) (caught_quiet count)

driven_quiet : (state : ToolkitState) → IsQuiet (driven state).log
unfolding driven
driven_quiet state = before_quiet (caught_up (length state.session.late) state).log [] refl ∙ caught_quiet (length state.session.late) state

and_driven : (first : Passed) → besides (before first driven).log ≡ besides first.log
and_driven first = before_quiet first.log (driven first.state).log (driven_quiet first.state)

-- ---- each command

profiled_noted : (bytes : List ℕ) (state : ToolkitState) → IsQuiet (profiled bytes state).log
unfolding profiled
profiled_noted bytes state =
    let start : ToolkitState = with_profile state bytes in
    and_driven (registered_told PROFILE_DOWNLOAD bytes start) ∙ told_all_quiet PROFILE_DOWNLOAD bytes (targets start.rows PROFILE_DOWNLOAD) start

polled_noted : (state : ToolkitState) → IsQuiet (polled state).log
unfolding polled
polled_noted state = and_driven (registered_told STATUS_COMMAND [] state) ∙ told_all_quiet STATUS_COMMAND [] (targets state.rows STATUS_COMMAND) state

triggered_noted : (envelope : Envelope) (state : ToolkitState) → besides (triggered envelope state).log ≡ notes_of (Report envelope) state
unfolding triggered
triggered_noted envelope state =
    let trigger : Trigger = triggered_by envelope state in
    given_noted trigger.code trigger.body trigger.shelves (reported envelope state)

enveloped_noted : (envelope : Envelope) (state : ToolkitState) → besides (enveloped envelope state).log ≡ notes_of (Report envelope) state
unfolding enveloped
enveloped_noted envelope state = and_driven (triggered envelope state) ∙ triggered_noted envelope state

fetched_noted : (out : Outstanding) (state : ToolkitState) → besides (fetched out state).log ≡ Fetched out ∷ []
unfolding fetched
fetched_noted out state = refl

resumed_quiet : (owner : Option ℕ) (reply : Reply) (state : ToolkitState) → IsQuiet (resumed owner reply state).log
resumed_quiet None reply state = refl
resumed_quiet (Some shelf) reply state = row_quiet shelf (Response reply.result reply.item reply.text) true state

answered_noted : (out : Outstanding) (reply : Reply) (state : ToolkitState) → besides (answered out reply state).log ≡ Responded out reply ∷ []
unfolding answered
answered_noted out reply state = ap (λ (rest : List Happening). Responded out reply ∷ rest) (resumed_quiet out.owner reply (with_nothing_out state))

responded_noted : (out : Outstanding) (reply : Reply) (state : ToolkitState) → besides (responded out reply state).log ≡ Responded out reply ∷ []
unfolding responded
responded_noted out reply state = and_driven (answered out reply state) ∙ answered_noted out reply state

installed_noted : (row : Registration) (state : ToolkitState) → IsQuiet (installed row state).log
unfolding installed
installed_noted row state = and_driven (registering row state)

deleted_noted : (shelf : ℕ) (state : ToolkitState) → IsQuiet (delete_carried shelf state).log
unfolding delete_carried
deleted_noted shelf state = and_driven (unregistering shelf state)

pub command_noted : (command : ToolkitInput) (state : ToolkitState) → besides (moved command state).log ≡ notes_of command state
command_noted (Profile bytes) state = profiled_noted bytes state
command_noted Status state = polled_noted state
command_noted (Report envelope) state = enveloped_noted envelope state
command_noted (Fetch out) state = fetched_noted out state
command_noted (Respond out reply) state = responded_noted out reply state
command_noted (Install row) state = installed_noted row state
command_noted (Delete shelf) state = deleted_noted shelf state
command_noted (Wake rows minds) state = refl

-- ---- what is given

pub given_besides : (log : List Happening) → all_given log ≡ all_given (besides log)
given_besides [] = refl
given_besides (Woke ∷ log) = given_besides log
given_besides (Fetched out ∷ log) = given_besides log
given_besides (Responded out reply ∷ log) = given_besides log
given_besides (Given trigger ∷ log) = ap (λ (rest : List LateTrigger). trigger ∷ rest) (given_besides log)
given_besides (Turned turn ∷ log) = given_besides log
given_besides (Committed change rows ∷ log) = given_besides log

all_gifts : (triggers : List LateTrigger) → all_given (map (λ trigger. Given trigger) triggers) ≡ triggers
all_gifts [] = refl
all_gifts (trigger ∷ others) = ap (λ (rest : List LateTrigger). trigger ∷ rest) (all_gifts others)

pub notes_give : (command : ToolkitInput) (state : ToolkitState) → all_given (notes_of command state) ≡ brought command state
notes_give (Profile bytes) state = refl
notes_give Status state = refl
notes_give (Report envelope) state = all_gifts (brought_by envelope state)
notes_give (Fetch out) state = refl
notes_give (Respond out reply) state = refl
notes_give (Install row) state = refl
notes_give (Delete shelf) state = refl
notes_give (Wake rows minds) state = refl

pub command_gives : (command : ToolkitInput) (state : ToolkitState) → all_given (moved command state).log ≡ brought command state
command_gives command state = given_besides (moved command state).log ∙ ap all_given (command_noted command state) ∙ notes_give command state

pub envelope_gives : (envelope : Envelope) (state : ToolkitState) → all_given (triggered envelope state).log ≡ brought_by envelope state
envelope_gives envelope state = given_besides (triggered envelope state).log ∙ ap all_given (triggered_noted envelope state) ∙ all_gifts (brought_by envelope state)

-- ---- that all wake

pub wakes_besides : (log : List Happening) → list_any is_wake log ≡ list_any is_wake (besides log)
wakes_besides [] = refl
wakes_besides (Woke ∷ log) = refl
wakes_besides (Fetched out ∷ log) = wakes_besides log
wakes_besides (Responded out reply ∷ log) = wakes_besides log
wakes_besides (Given trigger ∷ log) = wakes_besides log
wakes_besides (Turned turn ∷ log) = wakes_besides log
wakes_besides (Committed change rows ∷ log) = wakes_besides log

gifts_wake_none : (triggers : List LateTrigger) → list_any is_wake (map (λ trigger. Given trigger) triggers) ≡ false
gifts_wake_none [] = refl
gifts_wake_none (trigger ∷ others) = gifts_wake_none others

abbrev pub is_waking : ToolkitInput → Bool
is_waking (Wake rows minds) = true
is_waking _ = false

pub notes_wake : (command : ToolkitInput) (state : ToolkitState) → list_any is_wake (notes_of command state) ≡ is_waking command
notes_wake (Profile bytes) state = refl
notes_wake Status state = refl
notes_wake (Report envelope) state = gifts_wake_none (brought_by envelope state)
notes_wake (Fetch out) state = refl
notes_wake (Respond out reply) state = refl
notes_wake (Install row) state = refl
notes_wake (Delete shelf) state = refl
notes_wake (Wake rows minds) state = refl

pub command_wakes : (command : ToolkitInput) (state : ToolkitState) → list_any is_wake (moved command state).log ≡ is_waking command
command_wakes command state = wakes_besides (moved command state).log ∙ ap (list_any is_wake) (command_noted command state) ∙ notes_wake command state
