-- What the commands of the toolkit commit: the last commit is what there is then, and a run of an applet changes of the rows only
-- what applets may change.
use Rattle.std.proofs.Common.{◌≡◌, ℕ, zero, suc, Bool, true, false, cond, List, [], ◌∷◌, ◌++◌, map, length, Option, Some, None, Result, Ok, Err, refl, sym, ◌∙◌, ap, subst, All, nat_le, filter, not, ◌==◌}
use Rattle.std.proofs.lemmas.List.Elements.{All-nil, All-cons, All-head, All-tail, filter_map-append}
use Rattle.card_state.specs.Changes.{Change, AddRow, TakeRow}
use Rattle.card_state.specs.Persistent.{Registration}
use Rattle.card_state.specs.Sections.{sorted_codes, with_row}
use Rattle.file_model.specs.Outcomes.{last_of}
use Rattle.toolkit_commands.specs.declared.commands.Proactive.{Proactive}
use Rattle.toolkit_commands.specs.declared.envelopes.Envelope.{Envelope}
use Rattle.toolkit_commands.specs.declared.envelopes.Envelope.TheVariants as Envelopes
use Rattle.toolkit_commands.specs.declared.responses.Response.{Response as Reply}
use Rattle.timer_table.specs.Timers.{smallest_free}
use Rattle.applet_trait.specs.declared.numbers.TheConstants.{MOST_KEPT}
use Rattle.applet_trait.specs.declared.stimuli.Stimulus.{Stimulus}
use Rattle.applet_trait.specs.declared.stimuli.Act.{Act}
use Rattle.applet_trait.specs.declared.stimuli.Act.TheVariants.{Done, Send, Keep, Register, Deregister, TakeTimer, FreeTimer, Answer}
use Rattle.applet_trait.specs.Minds.{AppletState}
use Rattle.applet_trait.specs.Turns.{act}
use Rattle.toolkit_model.specs.declared.faults.RowFault.{RowFault}
use Rattle.toolkit_model.specs.Sessions.{Outstanding, LateTrigger}
use Rattle.toolkit_model.specs.Orderly.{asks}
use Rattle.toolkit_model.specs.Order.{targets}
use Rattle.toolkit_model.specs.Registry.{is_on, with_changed, with_code, without_code, with_kept, registers, deregisters, without_row}
use Rattle.toolkit_model.specs.Passing.{ToolkitState, Happening, Woke, Fetched, Responded, Given, Turned, Committed, Passed, rows_in, passed_rows, unmoved, before, in_turn}
use Rattle.toolkit_model.specs.Changes.{change_by, entry_of}
use Rattle.toolkit_model.specs.Running.{Setting, Works, Carried, Ran, commits, changing, taking, carried, is_admitted, is_held_by, admitted, committed, going_on, run_on, most_acts, mind_on, works_of, setting_of, run_of_mind, run_of_row}
use Rattle.toolkit_model.specs.Driving.{is_idle, told_if, given_if, told_one, given_one, trigger_for, first_idle, catching, caught_up, with_next_command, driven}
use Rattle.toolkit_model.specs.Commands.{registered_told, with_profile, profiled, polled, triggered_by, is_reported_once, reported, triggered, enveloped, fetched, resumed, with_nothing_out, answered, responded, registering, installed, unregistering, delete_carried}
use Rattle.card_model.proofs.IsCountedLemmas.{last_joined}
use Rattle.card_laws.specs.Moving.{fixed, HaveFixed}
use Rattle.card_laws.proofs.MakesLemmas.{Makes, AreRight, right_joined, keep_makes, codes_make}

-- ---- commits, one after the other

-- From rows to rows: the last commit is what there is then, and each has the rows as applets leave them.
pub record CommitsRows (rows : List Registration) (log : List Happening) (now : List Registration) : Type 0 where
  pub ends : last_of rows (passed_rows log) ≡ now
  pub each : All (HaveFixed rows) (passed_rows log)
  pub right : AreRight rows log now

still : (rows : List Registration) → CommitsRows rows [] rows
still rows = record { ends = refl; each = All-nil (HaveFixed rows); right = refl }

last_fixed : (base rows : List Registration) (passed : List (List Registration)) → HaveFixed base rows → All (HaveFixed base) passed → HaveFixed base (last_of rows passed)
last_fixed base rows [] here all = here
last_fixed base rows (next ∷ passed) here all = last_fixed base next passed (All-head (HaveFixed base) next passed all) (All-tail (HaveFixed base) next passed all)

pub now_fixed : (rows now : List Registration) (log : List Happening) → CommitsRows rows log now → HaveFixed rows now
now_fixed rows now log commits = subst (HaveFixed rows) commits.ends (last_fixed rows rows (passed_rows log) refl commits.each)

all_joined : (base middle : List Registration) (first second : List (List Registration)) → HaveFixed base middle → All (HaveFixed base) first → All (HaveFixed middle) second → All (HaveFixed base) (first ++ second)
all_joined base middle [] [] same all then_all = All-nil (HaveFixed base)
all_joined base middle [] (next ∷ second) same all then_all =
    All-cons (HaveFixed base) next second (All-head (HaveFixed middle) next second then_all ∙ same) (all_joined base middle [] second same all (All-tail (HaveFixed middle) next second then_all))
all_joined base middle (next ∷ first) second same all then_all =
    All-cons (HaveFixed base) next (first ++ second) (All-head (HaveFixed base) next first all) (all_joined base middle first second same (All-tail (HaveFixed base) next first all) then_all)

pub joined : (rows middle now : List Registration) (first second : List Happening) → CommitsRows rows first middle → CommitsRows middle second now → CommitsRows rows (first ++ second) now
joined rows middle now first second a b =
    let parts : passed_rows (first ++ second) ≡ passed_rows first ++ passed_rows second = filter_map-append rows_in first second in
    record {
      ends = ap (last_of rows) parts ∙ last_joined rows (passed_rows first) (passed_rows second) ∙ ap (λ (from : List Registration). last_of from (passed_rows second)) a.ends ∙ b.ends;
      each = subst (All (HaveFixed rows)) (sym parts) (all_joined rows middle (passed_rows first) (passed_rows second) (now_fixed rows middle first a) a.each b.each);
      right = right_joined rows middle now first second a.right b.right;
    }

-- what is noted besides a commit
noted_too : (rows now : List Registration) (happening : Happening) (log : List Happening) → rows_in happening ≡ None → CommitsRows rows log now → CommitsRows rows (happening ∷ log) now
noted_too rows now Woke log none commits = record { ends = commits.ends; each = commits.each; right = commits.right }
noted_too rows now (Fetched out) log none commits = record { ends = commits.ends; each = commits.each; right = commits.right }
noted_too rows now (Responded out reply) log none commits = record { ends = commits.ends; each = commits.each; right = commits.right }
noted_too rows now (Given trigger) log none commits = record { ends = commits.ends; each = commits.each; right = commits.right }
noted_too rows now (Turned turn) log none commits = record { ends = commits.ends; each = commits.each; right = commits.right }
noted_too rows now (Committed change next) log none commits = absurd (cc)

-- ---- an act

changed_one : (b : Bool) (row : Registration) (change : Registration → Registration) → fixed (change row) ≡ fixed row → fixed (cond b (change row) row) ≡ fixed row
changed_one true row change same = same
changed_one false row change same = refl

changed_fixed : (rows : List Registration) (shelf : ℕ) (change : Registration → Registration) → ((row : Registration) → fixed (change row) ≡ fixed row) → HaveFixed rows (with_changed rows shelf change)
changed_fixed [] shelf change same = refl
changed_fixed (row ∷ rows) shelf change same =
    ap (λ (first : Registration). first ∷ map fixed (with_changed rows shelf change)) (changed_one (is_on shelf row) row change (same row)) ∙ ap (λ (rest : List Registration). fixed row ∷ rest) (changed_fixed rows shelf change same)

-- what an act that was carried out commits
abbrev Carries : Setting → Act → Works → Carried → Type 0
Carries at does works done = CommitsRows works.rows (committed at does done) done.works.rows

one_commit : {change : Change} (rows next : List Registration) → HaveFixed rows next → Makes rows change next → CommitsRows rows (Committed change next ∷ []) next
one_commit rows next same makes = record { ends = refl; each = All-cons (HaveFixed rows) next [] same (All-nil (HaveFixed rows)); right = (makes, refl) }

changing_carries : (at : Setting) (does : Act) (works : Works) (rows : List Registration) (result : Result Bool RowFault) → HaveFixed works.rows rows → Makes works.rows (change_by at.shelf does rows) rows → Carries at does works (changing works rows result)
changing_carries at does works rows (Ok true) same makes = one_commit works.rows rows same makes
changing_carries at does works rows (Ok false) same makes = still works.rows
changing_carries at does works rows (Err fault) same makes = still works.rows

taking_carries : (at : Setting) (does : Act) (shelf : ℕ) (works : Works) (found : Option ℕ) → Carries at does works (taking shelf works found)
taking_carries at does shelf works (Some timer) = still works.rows
taking_carries at does shelf works None = still works.rows

either_carries : (at : Setting) (does : Act) (b : Bool) (works : Works) (x y : Carried) → Carries at does works x → Carries at does works y → Carries at does works (cond b x y)
either_carries at does true works x y first second = first
either_carries at does false works x y first second = second

carried_carries : (at : Setting) (does : Act) (works : Works) → Carries at does works (carried at does works)
carried_carries at Done works = still works.rows
carried_carries at (Send command) works = either_carries at (Send command) (is_admitted at works.timers command) works _ _ (still works.rows) (still works.rows)
carried_carries at (Keep bytes) works =
    either_carries at (Keep bytes) (nat_le (length bytes) MOST_KEPT) works _ _ (one_commit works.rows (with_kept works.rows at.shelf bytes) (changed_fixed works.rows at.shelf (λ row. record row { kept = bytes }) (λ row. refl)) (keep_makes works.rows at.shelf bytes)) (still works.rows)
carried_carries at (Register code) works =
    changing_carries at (Register code) works (with_code works.rows at.shelf code) (registers works.rows at.shelf code) (changed_fixed works.rows at.shelf (λ row. record row { codes = sorted_codes (code ∷ row.codes) }) (λ row. refl)) (codes_make works.rows at.shelf (λ codes. sorted_codes (code ∷ codes)))
carried_carries at (Deregister code) works =
    changing_carries at (Deregister code) works (without_code works.rows at.shelf code) (deregisters works.rows at.shelf code)
    (changed_fixed works.rows at.shelf (λ row. record row { codes = filter (λ other. not (other == code)) row.codes }) (λ row. refl)) (codes_make works.rows at.shelf (λ codes. filter (λ other. not (other == code)) codes))
carried_carries at TakeTimer works = taking_carries at TakeTimer at.shelf works (smallest_free works.timers)
carried_carries at (FreeTimer timer) works = either_carries at (FreeTimer timer) (is_held_by works.timers at.shelf timer) works _ _ (still works.rows) (still works.rows)
carried_carries at (Answer allows) works = still works.rows

-- ---- a run

goes_on : (done : Carried) (sent : Option Proactive) (next : Stimulus → Works → Ran) (tells : Option Stimulus) → ((stimulus : Stimulus) → CommitsRows done.works.rows (next stimulus done.works).log (next stimulus done.works).works.rows)
    → CommitsRows done.works.rows (going_on done.works sent next tells).log (going_on done.works sent next tells).works.rows
goes_on done sent next None more = still done.works.rows
goes_on done sent next (Some registered_told) more = more registered_told

run_commits : (fuel : ℕ) (at : Setting) (stimulus : Stimulus) (works : Works) → CommitsRows works.rows (run_on fuel at stimulus works).log (run_on fuel at stimulus works).works.rows
unfolding run_on
run_commits zero at stimulus works = still works.rows
run_commits (suc fuel) at stimulus works =
    let made = act works.mind stimulus in
    let turned : Works = record works { mind = made.next } in
    let done : Carried = carried at made.does turned in
    let ran : Ran = going_on done.works (admitted at turned.timers made.does) (run_on fuel at) done.tells in
    noted_too works.rows ran.works.rows _ (committed at made.does done ++ ran.log) refl
    (joined works.rows done.works.rows ran.works.rows (committed at made.does done) ran.log (carried_carries at made.does turned)
    (goes_on done (admitted at turned.timers made.does) (run_on fuel at) done.tells (λ next. run_commits fuel at next done.works)))

-- ---- from state to state

abbrev pub Commits : ToolkitState → Passed → Type 0
Commits state passed = CommitsRows state.rows passed.log passed.state.rows

mind_commits : (shelf : ℕ) (stimulus : Stimulus) (is_resumed : Bool) (state : ToolkitState) (mind : Option AppletState) → Commits state (run_of_mind shelf stimulus is_resumed state mind)
mind_commits shelf stimulus is_resumed state None = still state.rows
mind_commits shelf stimulus is_resumed state (Some mind) = run_commits most_acts (setting_of shelf stimulus state) stimulus (works_of mind state)

row_commits : (shelf : ℕ) (stimulus : Stimulus) (is_resumed : Bool) (state : ToolkitState) → Commits state (run_of_row shelf stimulus is_resumed state)
unfolding run_of_row
row_commits shelf stimulus is_resumed state = mind_commits shelf stimulus is_resumed state (mind_on state.minds shelf)

before_commits : (state : ToolkitState) (first : Passed) (next : ToolkitState → Passed) → Commits state first → ((later : ToolkitState) → Commits later (next later)) → Commits state (before first next)
before_commits state first next a b = joined state.rows first.state.rows (next first.state).state.rows first.log (next first.state).log a (b first.state)

turns_commit : {X : Type 0} (step : X → ToolkitState → Passed) → ((x : X) (state : ToolkitState) → Commits state (step x state)) → (xs : List X) (state : ToolkitState) → Commits state (in_turn step xs state)
turns_commit step each [] state = still state.rows
turns_commit step each (x ∷ others) state = before_commits state (step x state) (in_turn step others) (each x state) (λ later. turns_commit step each others later)

-- ---- triggers

told_commits : (b : Bool) (trigger : LateTrigger) (state : ToolkitState) → Commits state (told_if b trigger state)
told_commits true trigger state = row_commits trigger.shelf _ false state
told_commits false trigger state = still state.rows

told_one_commits : (code : ℕ) (body : List ℕ) (shelf : ℕ) (state : ToolkitState) → Commits state (told_one code body shelf state)
unfolding told_one
told_one_commits code body shelf state = told_commits (is_idle (asks state.session) shelf) (trigger_for code body shelf) state

given_commits : (b : Bool) (trigger : LateTrigger) (state : ToolkitState) → Commits state (given_if b trigger state)
given_commits true trigger state = row_commits trigger.shelf _ false state
given_commits false trigger state = still state.rows

given_one_commits : (code : ℕ) (body : List ℕ) (shelf : ℕ) (state : ToolkitState) → Commits state (given_one code body shelf state)
unfolding given_one
given_one_commits code body shelf state =
    noted_too state.rows _ (Given (trigger_for code body shelf)) _ refl (given_commits (is_idle (asks state.session) shelf) (trigger_for code body shelf) state)

catching_commits : (next : ToolkitState → Passed) → ((later : ToolkitState) → Commits later (next later)) → (state : ToolkitState) (found : Option (LateTrigger × List LateTrigger)) → Commits state (catching next state found)
catching_commits next each state None = still state.rows
catching_commits next each state (Some found) = before_commits state _ next (row_commits found.0.shelf _ false _) each

caught_commits : (count : ℕ) (state : ToolkitState) → Commits state (caught_up count state)
unfolding caught_up
caught_commits zero state = still state.rows
caught_commits (suc count) state = catching_commits (caught_up count) (λ later. caught_commits count later) state (first_idle (asks state.session) state.session.late)

settled_commits : (state : ToolkitState) → Commits state (unmoved (with_next_command state))
unfolding with_next_command
settled_commits state = still state.rows

driven_commits : (state : ToolkitState) → Commits state (driven state)
unfolding driven
driven_commits state = before_commits state (caught_up (length state.session.late) state) (λ later. unmoved (with_next_command later)) (caught_commits (length state.session.late) state) (λ later. settled_commits later)

-- ---- commands

told_all_commit : (code : ℕ) (body : List ℕ) (state : ToolkitState) → Commits state (registered_told code body state)
told_all_commit code body state = turns_commit (told_one code body) (λ shelf later. told_one_commits code body shelf later) (targets state.rows code) state

pub profiled_commits : (bytes : List ℕ) (state : ToolkitState) → Commits state (profiled bytes state)
unfolding profiled
profiled_commits bytes state = before_commits state _ driven (told_all_commit _ bytes (with_profile state bytes)) driven_commits

pub polled_commits : (state : ToolkitState) → Commits state (polled state)
unfolding polled
polled_commits state = before_commits state _ driven (told_all_commit _ [] state) driven_commits

reported_if : (b : Bool) (state other : ToolkitState) → other.rows ≡ state.rows → (cond b other state).rows ≡ state.rows
reported_if true state other same = same
reported_if false state other same = refl

reported_rows : (envelope : Envelope) (state : ToolkitState) → (reported envelope state).rows ≡ state.rows
reported_rows (Envelopes.Event code body) state = reported_if (is_reported_once code) state _ refl
reported_rows (Envelopes.Menu item) state = refl
reported_rows (Envelopes.CallControl address) state = refl
reported_rows (Envelopes.Timer timer) state = refl

triggered_commits : (envelope : Envelope) (state : ToolkitState) → Commits state (triggered envelope state)
unfolding triggered
triggered_commits envelope state =
    let trigger = triggered_by envelope state in
    let all : Commits (reported envelope state) (in_turn (given_one trigger.code trigger.body) trigger.shelves (reported envelope state)) =
    turns_commit (given_one trigger.code trigger.body) (λ shelf later. given_one_commits trigger.code trigger.body shelf later) trigger.shelves (reported envelope state) in
    subst (λ (rows : List Registration). CommitsRows rows (in_turn (given_one trigger.code trigger.body) trigger.shelves (reported envelope state)).log (in_turn (given_one trigger.code trigger.body) trigger.shelves (reported envelope state)).state.rows)
    (reported_rows envelope state) all

pub enveloped_commits : (envelope : Envelope) (state : ToolkitState) → Commits state (enveloped envelope state)
unfolding enveloped
enveloped_commits envelope state = before_commits state (triggered envelope state) driven (triggered_commits envelope state) driven_commits

pub fetched_commits : (out : Outstanding) (state : ToolkitState) → Commits state (fetched out state)
unfolding fetched
fetched_commits out state = noted_too state.rows state.rows (Fetched out) [] refl (still state.rows)

resumed_commits : (owner : Option ℕ) (reply : Reply) (state : ToolkitState) → Commits state (resumed owner reply state)
resumed_commits None reply state = still state.rows
resumed_commits (Some shelf) reply state = row_commits shelf _ true state

answered_commits : (out : Outstanding) (reply : Reply) (state : ToolkitState) → Commits state (answered out reply state)
unfolding answered
answered_commits out reply state = noted_too state.rows _ (Responded out reply) _ refl (resumed_commits out.owner reply (with_nothing_out state))

pub responded_commits : (out : Outstanding) (reply : Reply) (state : ToolkitState) → Commits state (responded out reply state)
unfolding responded
responded_commits out reply state = before_commits state (answered out reply state) driven (answered_commits out reply state) driven_commits

-- INSTALL and DELETE commit their own change first
pub record CommitsFirst (change : Change) (changed : List Registration) (passed : Passed) : Type 0 where
  pub rest : List Happening
  pub first : passed.log ≡ Committed change changed ∷ rest
  pub others : CommitsRows changed rest passed.state.rows

pub installed_commits : (row : Registration) (state : ToolkitState) → CommitsFirst (AddRow row.shelf (entry_of row)) (with_row state.rows row) (installed row state)
unfolding installed
installed_commits row state = record { rest = _; first = refl; others = driven_commits (registering row state).state }

pub deleted_commits : (shelf : ℕ) (state : ToolkitState) → CommitsFirst (TakeRow shelf) (without_row state.rows shelf) (delete_carried shelf state)
unfolding delete_carried
deleted_commits shelf state = record { rest = _; first = refl; others = driven_commits (unregistering shelf state).state }
