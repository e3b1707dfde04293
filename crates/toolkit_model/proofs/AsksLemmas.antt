-- Which applets ask before and after a run of one of them.
use Rattle.std.proofs.Common.{◌≡◌, ℕ, Bool, true, false, cond, List, [], ◌∷◌, ◌++◌, Option, Some, None, ap, refl, ◌∙◌, ◌≢◌, ◌==◌, ◌||◌, not, All, filter, ne_eqb}
use Rattle.std.specs.List.{list_any}
use Rattle.std.proofs.lemmas.List.Elements.{All-head, All-tail}
use Rattle.std.proofs.lemmas.List.Folds.{list_any-append}
use Rattle.std.proofs.Math.Bool.{or-false}
use Rattle.toolkit_commands.specs.declared.commands.Proactive.{Proactive}
use Rattle.timer_table.specs.Timers.{Owners}
use Rattle.applet_trait.specs.declared.stimuli.Stimulus.{Stimulus}
use Rattle.toolkit_model.specs.Sessions.{Sent, SessionState}
use Rattle.toolkit_model.specs.Orderly.{asks}
use Rattle.toolkit_model.specs.Passing.{ToolkitState}
use Rattle.toolkit_model.specs.Running.{run_of_row, sending}
use Rattle.toolkit_model.specs.Driving.{is_idle}
use Rattle.toolkit_model.proofs.RunOfRowLemmas.{run_is, asks_more, asks_same}

-- another applet asks as before
pub idle_more : (asked : List Sent) (sent : Sent) (other : ℕ) → sent.shelf ≢ other → is_idle (asked ++ sent ∷ []) other ≡ is_idle asked other
idle_more asked sent other apart =
    let last : list_any (λ (s : Sent). s.shelf == other) (sent ∷ []) ≡ false = ap (λ (b : Bool). b || false) (ne_eqb sent.shelf other apart) in
    ap not (list_any-append (λ s. s.shelf == other) asked (sent ∷ []) ∙ ap (λ (b : Bool). list_any (λ (s : Sent). s.shelf == other) asked || b) last ∙ or-false (list_any (λ s. s.shelf == other) asked))

either_not : (a b : Bool) → not a ≡ false → not (a || b) ≡ false
either_not true b is = refl
either_not false b is = cc

-- an applet that asks goes on asking
busy_more : (asked : List Sent) (sent : Sent) (other : ℕ) → is_idle asked other ≡ false → is_idle (asked ++ sent ∷ []) other ≡ false
busy_more asked sent other busy =
    ap not (list_any-append (λ s. s.shelf == other) asked (sent ∷ [])) ∙ either_not (list_any (λ s. s.shelf == other) asked) (list_any (λ s. s.shelf == other) (sent ∷ [])) busy

-- ---- after a run

pub sending_idle : (session : SessionState) (timers : Owners) (shelf other : ℕ) (sent : Option Proactive) → shelf ≢ other
    → is_idle (asks (sending shelf false sent (record session { timers = timers }))) other ≡ is_idle (asks session) other
sending_idle session timers shelf other None apart = ap (λ (asked : List Sent). is_idle asked other) (asks_same session timers)
sending_idle session timers shelf other (Some command) apart =
    ap (λ (asked : List Sent). is_idle asked other) (asks_more session timers shelf command) ∙ idle_more (asks session) (record { shelf = shelf; command = command }) other apart

sending_busy : (session : SessionState) (timers : Owners) (shelf other : ℕ) (sent : Option Proactive) → is_idle (asks session) other ≡ false
    → is_idle (asks (sending shelf false sent (record session { timers = timers }))) other ≡ false
sending_busy session timers shelf other None busy = ap (λ (asked : List Sent). is_idle asked other) (asks_same session timers) ∙ busy
sending_busy session timers shelf other (Some command) busy =
    ap (λ (asked : List Sent). is_idle asked other) (asks_more session timers shelf command) ∙ busy_more (asks session) (record { shelf = shelf; command = command }) other busy

pub run_idle : (shelf other : ℕ) (stimulus : Stimulus) (state : ToolkitState) → shelf ≢ other
    → is_idle (asks (run_of_row shelf stimulus false state).state.session) other ≡ is_idle (asks state.session) other
run_idle shelf other stimulus state apart =
    let run = run_is shelf stimulus false state in
    ap (λ (session : SessionState). is_idle (asks session) other) run.session_is ∙ sending_idle state.session run.timers shelf other run.sent apart

pub run_busy : (shelf other : ℕ) (stimulus : Stimulus) (state : ToolkitState) → is_idle (asks state.session) other ≡ false
    → is_idle (asks (run_of_row shelf stimulus false state).state.session) other ≡ false
run_busy shelf other stimulus state busy =
    let run = run_is shelf stimulus false state in
    ap (λ (session : SessionState). is_idle (asks session) other) run.session_is ∙ sending_busy state.session run.timers shelf other run.sent busy

sending_late : (shelf : ℕ) (is_resumed : Bool) (sent : Option Proactive) (session : SessionState) → (sending shelf is_resumed sent session).late ≡ session.late
sending_late shelf is_resumed None session = refl
sending_late shelf true (Some command) session = refl
sending_late shelf false (Some command) session = refl

-- a run adds nothing that is late
pub run_late : (shelf : ℕ) (stimulus : Stimulus) (is_resumed : Bool) (state : ToolkitState) → (run_of_row shelf stimulus is_resumed state).state.session.late ≡ state.session.late
run_late shelf stimulus is_resumed state =
    let run = run_is shelf stimulus is_resumed state in
    ap (λ (session : SessionState). session.late) run.session_is ∙ sending_late shelf is_resumed run.sent (record state.session { timers = run.timers })

sending_out : (shelf : ℕ) (sent : Option Proactive) (session : SessionState) → (sending shelf false sent session).out ≡ session.out
sending_out shelf None session = refl
sending_out shelf (Some command) session = refl

-- a run that no answer resumed puts nothing out
pub run_out : (shelf : ℕ) (stimulus : Stimulus) (state : ToolkitState) → (run_of_row shelf stimulus false state).state.session.out ≡ state.session.out
run_out shelf stimulus state =
    let run = run_is shelf stimulus false state in
    ap (λ (session : SessionState). session.out) run.session_is ∙ sending_out shelf run.sent (record state.session { timers = run.timers })

-- ---- several applets

-- those of the shelves that are not idle
abbrev pub suspended : List Sent → List ℕ → List ℕ
suspended asked shelves = filter (λ shelf. not (is_idle asked shelf)) shelves

pub same_suspended : (asked new : List Sent) (shelves : List ℕ) → All (λ other. is_idle new other ≡ is_idle asked other) shelves → suspended new shelves ≡ suspended asked shelves
same_suspended asked new [] same = refl
same_suspended asked new (shelf ∷ others) same =
    let here : is_idle new shelf ≡ is_idle asked shelf = All-head (λ other. is_idle new other ≡ is_idle asked other) shelf others same in
    let rest : suspended new others ≡ suspended asked others = same_suspended asked new others (All-tail (λ other. is_idle new other ≡ is_idle asked other) shelf others same) in
    ap (λ (idle : Bool). cond (not idle) (shelf ∷ suspended new others) (suspended new others)) here
    ∙ ap (λ (left : List ℕ). cond (not (is_idle asked shelf)) (shelf ∷ left) left) rest
