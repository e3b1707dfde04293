-- What a run of an applet notes, and what it sends.
use Rattle.std.proofs.Common.{◌≡◌, ℕ, zero, suc, ◌≤◌, ◌<◌, Bool, true, false, cond, List, [], ◌∷◌, ◌++◌, length, Option, Some, None, Result, Ok, Err, arith, refl, sym, subst, ◌&&◌, not, nat_le, IfSome, is_some, position, is_none, Contains}
use Rattle.std.specs.Option.{option_map_or}
use Rattle.std.proofs.lemmas.Bool.Decides.{nat_tests}
use Rattle.std.proofs.lemmas.List.Quantifiers.{position-Some}
use Rattle.std.proofs.lemmas.Bool.{cond_both}
use Rattle.list_laws.proofs.CondLemmas.{mapped_Some}
use Rattle.card_state.specs.Persistent.{Registration}
use Rattle.toolkit_commands.specs.declared.commands.Proactive.{Proactive}
use Rattle.toolkit_commands.specs.Table.{spelled}
use Rattle.timer_table.specs.Timers.{Owners, smallest_free}
use Rattle.terminal_profile.specs.Profiles.{allowed}
use Rattle.applet_trait.specs.declared.stimuli.Stimulus.{Stimulus}
use Rattle.applet_trait.specs.declared.stimuli.Stimulus.TheVariants.{Refused}
use Rattle.applet_trait.specs.declared.stimuli.Act.{Act}
use Rattle.applet_trait.specs.declared.stimuli.Act.TheVariants.{Done, Send, Keep, Register, Deregister, TakeTimer, FreeTimer, Answer}
use Rattle.applet_trait.specs.declared.numbers.TheConstants.{MOST_KEPT}
use Rattle.applet_trait.specs.Laws.{IsTimer, GivesTimer, IsProperAct, IsSendable}
use Rattle.applet_trait.specs.Minds.{AppletState}
use Rattle.applet_trait.specs.Turns.{act}
use Rattle.toolkit_model.specs.declared.faults.RowFault.{RowFault}
use Rattle.toolkit_model.specs.Orderly.{CanBeSent}
use Rattle.toolkit_model.specs.Registry.{registers, deregisters, with_code, without_code, with_kept}
use Rattle.toolkit_model.specs.Passing.{Happening, Committed}
use Rattle.toolkit_model.specs.Changes.{change_by}
use Rattle.toolkit_model.specs.Running.{Setting, Works, Carried, Ran, answers, commits, is_short, is_cards_own, is_within_rights, is_admitted, admitted, is_held_by, carried, changing, taking, committed, going_on, run_on}
use Rattle.toolkit_model.specs.Turns.{IsInner, turn_of, IsCommit}
use Rattle.toolkit_model.proofs.CarriedLemmas.{IsPlaced, carried_placed}

-- ---- what an act leads to

-- the run ends, or it goes on with what the applet is told of its act; only where it ends, something may have been sent
record Leads (done : Carried) (sent : Option Proactive) : Type 0 where
  ends : done.tells ≡ None → done.is_committed ≡ false
  goes : IfSome done.tells (λ next. IsInner next × (sent ≡ None))

changing_leads : (works : Works) (rows : List Registration) (result : Result Bool RowFault) → Leads (changing works rows result) None
changing_leads works rows (Ok true) = record { ends = λ is. cc; goes = (tt, refl) }
changing_leads works rows (Ok false) = record { ends = λ is. refl; goes = (tt, refl) }
changing_leads works rows (Err fault) = record { ends = λ is. refl; goes = (tt, refl) }

taking_leads : (shelf : ℕ) (works : Works) (found : Option ℕ) → Leads (taking shelf works found) None
taking_leads shelf works (Some timer) = record { ends = λ is. refl; goes = (tt, refl) }
taking_leads shelf works None = record { ends = λ is. refl; goes = (tt, refl) }

sending_leads : (b : Bool) (works : Works) (command : Proactive) → Leads (cond b (record { works = works; is_committed = false; tells = None }) (record { works = works; is_committed = false; tells = Some Refused })) (cond b (Some command) None)
sending_leads true works command = record { ends = λ is. refl; goes = tt }
sending_leads false works command = record { ends = λ is. refl; goes = (tt, refl) }

keeping_leads : (b : Bool) (works : Works) (rows : List Registration) → Leads (cond b (commits works rows) (answers Refused works)) None
keeping_leads true works rows = record { ends = λ is. cc; goes = (tt, refl) }
keeping_leads false works rows = record { ends = λ is. refl; goes = (tt, refl) }

carried_leads : (at : Setting) (does : Act) (works : Works) → Leads (carried at does works) (admitted at works.timers does)
carried_leads at Done works = record { ends = λ is. refl; goes = tt }
carried_leads at (Send command) works = sending_leads (is_admitted at works.timers command) works command
carried_leads at (Keep bytes) works = keeping_leads (nat_le (length bytes) MOST_KEPT) works (with_kept works.rows at.shelf bytes)
carried_leads at (Register code) works = changing_leads works (with_code works.rows at.shelf code) (registers works.rows at.shelf code)
carried_leads at (Deregister code) works = changing_leads works (without_code works.rows at.shelf code) (deregisters works.rows at.shelf code)
carried_leads at TakeTimer works = taking_leads at.shelf works (smallest_free works.timers)
carried_leads at (FreeTimer timer) works =
    cond_both (is_held_by works.timers at.shelf timer) _ _ (λ (done : Carried). Leads done None) (λ h. record { ends = λ is. refl; goes = (tt, refl) }) (λ h. record { ends = λ is. refl; goes = (tt, refl) })
carried_leads at (Answer allows) works = record { ends = λ is. refl; goes = (tt, refl) }

-- ---- what a run notes

-- What holds of what is noted of a run from a stimulus on, and of what it sent, if it holds of a run that goes no further, of
-- one that ends with a turn, and of one that goes on after a turn.
pub record IsOfRuns (shelf : ℕ) (Q : Stimulus → Option Proactive → List Happening → Type 0) : Type 0 where
  pub broken : (stimulus : Stimulus) → Q stimulus None []
  pub ended : (stimulus : Stimulus) (does : Act) (sent : Option Proactive) → IfSome sent (λ command. does ≡ Send command) → Q stimulus sent (turn_of shelf stimulus does sent ∷ [])
  pub gone_on : (stimulus next : Stimulus) (does : Act) (sent : Option Proactive) (commit log : List Happening) → IsInner next → IsCommit commit
      → Q next sent log → Q stimulus sent (turn_of shelf stimulus does None ∷ commit ++ log)

commit_is : (at : Setting) (does : Act) (done : Carried) → IsCommit (committed at does done)
commit_is at does done = cond_both done.is_committed (Committed (change_by at.shelf does done.works.rows) done.works.rows ∷ []) [] IsCommit (λ h. tt) (λ h. tt)

no_commit : (at : Setting) (does : Act) (done : Carried) → done.is_committed ≡ false → committed at does done ≡ []
no_commit at does done is = cond_both done.is_committed (Committed (change_by at.shelf does done.works.rows) done.works.rows ∷ []) [] (λ (log : List Happening). log ≡ []) (λ h. cc) (λ h. refl)

going_logs : (at : Setting) (shelf : ℕ) (Q : Stimulus → Option Proactive → List Happening → Type 0) → IsOfRuns shelf Q
    → (stimulus : Stimulus) (does : Act) (sent : Option Proactive) (done : Carried) (next : Stimulus → Works → Ran) (tells : Option Stimulus) → IfSome sent (λ command. does ≡ Send command) → done.tells ≡ tells
    → Leads done sent → ((stimulus : Stimulus) → Q stimulus (next stimulus done.works).sent (next stimulus done.works).log)
    → let ran = going_on done.works sent next tells in
    Q stimulus ran.sent (turn_of shelf stimulus does sent ∷ committed at does done ++ ran.log)
going_logs at shelf Q is stimulus does sent done next None known same leads more =
    subst (λ (commit : List Happening). Q stimulus sent (turn_of shelf stimulus does sent ∷ commit ++ [])) (sym (no_commit at does done (leads.ends same))) (is.ended stimulus does sent known)
going_logs at shelf Q is stimulus does sent done next (Some told) known same leads more =
    let goes : IsInner told × (sent ≡ None) = subst (λ (tells : Option Stimulus). IfSome tells (λ next. IsInner next × (sent ≡ None))) same leads.goes in
    let ran = next told done.works in
    subst (λ (before : Option Proactive). Q stimulus ran.sent (turn_of shelf stimulus does before ∷ committed at does done ++ ran.log)) (sym goes.1)
    (is.gone_on stimulus told does ran.sent (committed at does done) ran.log goes.0 (commit_is at does done) (more told))

admitted_is : (at : Setting) (timers : Owners) (does : Act) → IfSome (admitted at timers does) (λ command. does ≡ Send command)
admitted_is at timers (Send command) = cond_both (is_admitted at timers command) (Some command) None (λ sent. IfSome sent (λ other. Send command ≡ Send other)) (λ h. refl) (λ h. tt)
admitted_is at timers Done = tt
admitted_is at timers (Keep bytes) = tt
admitted_is at timers (Register code) = tt
admitted_is at timers (Deregister code) = tt
admitted_is at timers TakeTimer = tt
admitted_is at timers (FreeTimer timer) = tt
admitted_is at timers (Answer allows) = tt

pub run_logs : (Q : Stimulus → Option Proactive → List Happening → Type 0) (fuel : ℕ) (at : Setting) (stimulus : Stimulus) (works : Works)
    → IsOfRuns at.shelf Q → Q stimulus (run_on fuel at stimulus works).sent (run_on fuel at stimulus works).log
unfolding run_on
run_logs Q zero at stimulus works is = is.broken stimulus
run_logs Q (suc fuel) at stimulus works is =
    let made = act works.mind stimulus in
    let turned : Works = record works { mind = made.next } in
    let done = carried at made.does turned in
    going_logs at at.shelf Q is stimulus made.does (admitted at turned.timers made.does) done (run_on fuel at) done.tells (admitted_is at turned.timers made.does) refl (carried_leads at made.does turned)
    (λ next. run_logs Q fuel at next done.works is)

-- ---- what a run sends

-- a law of the table of commands: how long a spelling is, whatever the number
abbrev pub AnyNumber : Type 0
AnyNumber = (command : Proactive) (number other : ℕ) → length (spelled command number) ≡ length (spelled command other)

-- a law of applets: what is sent is proper
abbrev pub SendsProper : Type 0
SendsProper = (mind : AppletState) (stimulus : Stimulus) → GivesTimer stimulus → IsProperAct (act mind stimulus).does

-- a command that can be sent, to a handset that sent its profile
abbrev pub IsSendableTo : Option (List ℕ) → Proactive → Type 0
IsSendableTo profile command = CanBeSent command × (is_some profile ≡ true)

known_profile : (profile : Option (List ℕ)) (command : Proactive) → option_map_or (λ bytes. allowed bytes command) profile false ≡ true → is_some profile ≡ true
known_profile None command is = cc
known_profile (Some bytes) command is = refl

-- of five conditions the first and the third
two_of_five : (a b c d e : Bool) → (a && b && c && d && e) ≡ true → (a ≡ true) × (c ≡ true)
two_of_five true true true d e is = (refl, refl)
two_of_five true true false d e is = cc
two_of_five true false c d e is = cc
two_of_five false b c d e is = cc

admitted_sendable : AnyNumber → (at : Setting) (timers : Owners) (command : Proactive) → is_admitted at timers command ≡ true → IsSendable command → IsSendableTo at.profile command
admitted_sendable any at timers command is sendable =
    let two = two_of_five (option_map_or (λ bytes. allowed bytes command) at.profile false) (not (is_cards_own command)) (is_short command) (is_within_rights timers at.shelf command) (not at.in_call) is in
    let short : length (spelled command 0) ≤ 255 = grind (arith, nat_tests, two.1) in
    (record { proper = sendable.proper; short = λ number. omega (arith, any command number 0, short) }, known_profile at.profile command two.0)

sent_sendable : AnyNumber → (at : Setting) (timers : Owners) (does : Act) → IsProperAct does → IfSome (admitted at timers does) (IsSendableTo at.profile)
sent_sendable any at timers (Send command) proper =
    cond_both (is_admitted at timers command) (Some command) None (λ sent. IfSome sent (IsSendableTo at.profile)) (λ h. admitted_sendable any at timers command h proper) (λ h. tt)
sent_sendable any at timers Done proper = tt
sent_sendable any at timers (Keep bytes) proper = tt
sent_sendable any at timers (Register code) proper = tt
sent_sendable any at timers (Deregister code) proper = tt
sent_sendable any at timers TakeTimer proper = tt
sent_sendable any at timers (FreeTimer timer) proper = tt
sent_sendable any at timers (Answer allows) proper = tt

free_is_timer : (timers : Owners) (timer : ℕ) → length timers ≡ 8 → smallest_free timers ≡ Some timer → IsTimer timer
free_is_timer timers timer eight is =
    let found = mapped_Some suc (position is_none timers) timer is in
    let place = position-Some is_none timers found.0 None found.1 in
    let low : found.0 < length timers = place.0 in
    let same : suc found.0 ≡ timer = found.2 in
    record { from_1 = omega arith; up_to_8 = omega arith }

taken_gives : (shelf : ℕ) (works : Works) (found : Option ℕ) → smallest_free works.timers ≡ found → length works.timers ≡ 8 → IfSome (taking shelf works found).tells GivesTimer
taken_gives shelf works None is eight = tt
taken_gives shelf works (Some timer) is eight = free_is_timer works.timers timer eight is

changed_gives : (works : Works) (rows : List Registration) (result : Result Bool RowFault) → IfSome (changing works rows result).tells GivesTimer
changed_gives works rows (Ok true) = tt
changed_gives works rows (Ok false) = tt
changed_gives works rows (Err fault) = tt

carried_gives : (at : Setting) (does : Act) (works : Works) → length works.timers ≡ 8 → IfSome (carried at does works).tells GivesTimer
carried_gives at Done works eight = tt
carried_gives at (Send command) works eight = cond_both (is_admitted at works.timers command) _ _ (λ (done : Carried). IfSome done.tells GivesTimer) (λ h. tt) (λ h. tt)
carried_gives at (Keep bytes) works eight = cond_both (nat_le (length bytes) MOST_KEPT) _ _ (λ (done : Carried). IfSome done.tells GivesTimer) (λ h. tt) (λ h. tt)
carried_gives at (Register code) works eight = changed_gives works (with_code works.rows at.shelf code) (registers works.rows at.shelf code)
carried_gives at (Deregister code) works eight = changed_gives works (without_code works.rows at.shelf code) (deregisters works.rows at.shelf code)
carried_gives at TakeTimer works eight = taken_gives at.shelf works (smallest_free works.timers) refl eight
carried_gives at (FreeTimer timer) works eight = cond_both (is_held_by works.timers at.shelf timer) _ _ (λ (done : Carried). IfSome done.tells GivesTimer) (λ h. tt) (λ h. tt)
carried_gives at (Answer allows) works eight = tt

going_sends : (P : Proactive → Type 0) (works : Works) (sent : Option Proactive) (next : Stimulus → Works → Ran) (tells : Option Stimulus)
    → IfSome sent P → IfSome tells (λ stimulus. IfSome (next stimulus works).sent P) → IfSome (going_on works sent next tells).sent P
going_sends P works sent next None now later = now
going_sends P works sent next (Some stimulus) now later = later

pub if_some : {X : Type 0} (P Q : X → Type 0) (found : Option X) → IfSome found P → ((x : X) → P x → Q x) → IfSome found Q
if_some P Q None holds more = tt
if_some P Q (Some x) holds more = more x holds

pub run_sends : AnyNumber → SendsProper → (shelves : List ℕ) (fuel : ℕ) (at : Setting) (stimulus : Stimulus) (works : Works)
    → GivesTimer stimulus → Contains shelves at.shelf → IsPlaced shelves works → IfSome (run_on fuel at stimulus works).sent (IsSendableTo at.profile)
unfolding run_on
run_sends any proper shelves zero at stimulus works gives there placed = tt
run_sends any proper shelves (suc fuel) at stimulus works gives there placed =
    let made = act works.mind stimulus in
    let turned : Works = record works { mind = made.next } in
    let done = carried at made.does turned in
    let now : IsPlaced shelves done.works = carried_placed shelves at made.does turned there placed in
    going_sends (IsSendableTo at.profile) done.works (admitted at turned.timers made.does) (run_on fuel at) done.tells
    (sent_sendable any at turned.timers made.does (proper works.mind stimulus gives))
    (if_some GivesTimer (λ next. IfSome (run_on fuel at next done.works).sent (IsSendableTo at.profile)) done.tells (carried_gives at made.does turned placed.eight)
    (λ next given. run_sends any proper shelves fuel at next done.works given there now))
