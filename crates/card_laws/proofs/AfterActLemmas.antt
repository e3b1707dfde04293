-- What a turn tells of its applet and its run.
use Rattle.std.proofs.Common.{◌≡◌, ◌⊎◌, inl, inr, ℕ, Bool, true, false, List, length, Option, Some, None, Result, Ok, Err, refl, sym, ◌∙◌, ap, subst, ◌==◌, if◌then◌else◌, nat_le, is_some}
use Rattle.std.proofs.lemmas.Bool.{false≢true, eqb-true}
use Rattle.card_state.specs.Persistent.{Registration}
use Rattle.toolkit_commands.specs.declared.commands.Proactive.{Proactive}
use Rattle.timer_table.specs.Timers.{smallest_free, freed}
use Rattle.applet_trait.specs.declared.numbers.TheConstants.{MOST_KEPT}
use Rattle.applet_trait.specs.declared.stimuli.Stimulus.{Stimulus}
use Rattle.applet_trait.specs.declared.stimuli.Stimulus.TheVariants.{Went, Refused}
use Rattle.applet_trait.specs.declared.stimuli.Act.{Act}
use Rattle.applet_trait.specs.declared.stimuli.Act.TheVariants as Acts
use Rattle.applet_trait.specs.Minds.{AppletState, fresh}
use Rattle.applet_trait.specs.Turns.{act}
use Rattle.toolkit_model.specs.declared.faults.RowFault.{RowFault}
use Rattle.toolkit_model.specs.Passing.{ShelfTurn}
use Rattle.toolkit_model.specs.Registry.{registers, deregisters, with_code, without_code, with_kept}
use Rattle.toolkit_model.specs.Running.{Setting, Works, Carried, ends, answers, commits, is_admitted, admitted, is_held_by, carried, changing, taking, kept_on, most_acts, mind_on}
use Rattle.card_laws.specs.Acting.{OpenRun, Point, IsTurnOf, setting_in, works_in, after_act, IsTurn, TellsOfTurn}
use Rattle.card_laws.proofs.ActInTurnLemmas.{there_now}

-- ---- one act

-- an act that is carried out leaves the applet's own state
abbrev Leaves : Works → Carried → Type 0
Leaves works done = done.works.mind ≡ works.mind

either_leaves : (b : Bool) (works : Works) (first second : Carried) → Leaves works first → Leaves works second → Leaves works (if b then first else second)
either_leaves true works first second one other = one
either_leaves false works first second one other = other

changing_leaves : (works : Works) (rows : List Registration) (result : Result Bool RowFault) → Leaves works (changing works rows result)
changing_leaves works rows (Ok true) = refl
changing_leaves works rows (Ok false) = refl
changing_leaves works rows (Err fault) = refl

taking_leaves : (shelf : ℕ) (works : Works) (found : Option ℕ) → Leaves works (taking shelf works found)
taking_leaves shelf works (Some timer) = refl
taking_leaves shelf works None = refl

carried_leaves : (at : Setting) (does : Act) (works : Works) → Leaves works (carried at does works)
carried_leaves at Acts.Done works = refl
carried_leaves at (Acts.Send command) works = either_leaves (is_admitted at works.timers command) works (ends works) (answers Refused works) refl refl
carried_leaves at (Acts.Keep bytes) works = either_leaves (nat_le (length bytes) MOST_KEPT) works (commits works (with_kept works.rows at.shelf bytes)) (answers Refused works) refl refl
carried_leaves at (Acts.Register code) works = changing_leaves works (with_code works.rows at.shelf code) (registers works.rows at.shelf code)
carried_leaves at (Acts.Deregister code) works = changing_leaves works (without_code works.rows at.shelf code) (deregisters works.rows at.shelf code)
carried_leaves at Acts.TakeTimer works = taking_leaves at.shelf works (smallest_free works.timers)
carried_leaves at (Acts.FreeTimer timer) works =
    either_leaves (is_held_by works.timers at.shelf timer) works (answers Went (record works { timers = freed works.timers timer })) (answers Refused works) refl refl
carried_leaves at (Acts.Answer allows) works = refl

-- ---- what is admitted

abbrev Sends : Act → Option Stimulus → Type 0
Sends does tells = (command : Proactive) × (does ≡ Acts.Send command) × (tells ≡ None)

sent_if : (b : Bool) (command : Proactive) (works : Works) → is_some (if b then Some command else None) ≡ true → Sends (Acts.Send command) (if b then ends works else answers Refused works).tells
sent_if true command works is = (command, refl, refl)
sent_if false command works is = absurd (false≢true is)

-- it was sent, and the applet is told nothing then
admitted_sends : (at : Setting) (does : Act) (works : Works) → is_some (admitted at works.timers does) ≡ true → Sends does (carried at does works).tells
admitted_sends at Acts.Done works is = absurd (false≢true is)
admitted_sends at (Acts.Send command) works is = sent_if (is_admitted at works.timers command) command works is
admitted_sends at (Acts.Keep bytes) works is = absurd (false≢true is)
admitted_sends at (Acts.Register code) works is = absurd (false≢true is)
admitted_sends at (Acts.Deregister code) works is = absurd (false≢true is)
admitted_sends at Acts.TakeTimer works is = absurd (false≢true is)
admitted_sends at (Acts.FreeTimer timer) works is = absurd (false≢true is)
admitted_sends at (Acts.Answer allows) works is = absurd (false≢true is)

-- ---- a turn

same_shelf : (before : Option OpenRun) (turn : ShelfTurn) (run : OpenRun) → IsTurnOf before turn run → run.shelf ≡ turn.shelf
same_shelf None turn run is = ap (λ (each : OpenRun). each.shelf) is.1
same_shelf (Some last) turn run is = ap (λ (each : OpenRun). each.shelf) is.2 ∙ sym is.0

-- as its act left it, or anew
abbrev IsAfter : Point → OpenRun → AppletState → Point → Type 0
IsAfter from run mind next =
    (mind_on next.minds run.shelf ≡ Some mind) ⊎ ((run.acts ≡ 32) × (mind_on next.minds run.shelf ≡ Some (fresh mind.kind (kept_on next.rows run.shelf))))

is_after : (from : Point) (run : OpenRun) (was : AppletState) (works : Works) (tells : Option Stimulus) (is_last : Bool) → mind_on from.minds run.shelf ≡ Some was → (run.acts == most_acts) ≡ is_last
    → IsAfter from run works.mind (after_act from run works tells is_last)
is_after from run was works None is_last there last = inl (there_now from.minds run.shelf was (Some works.mind) there)
is_after from run was works (Some told) true there last =
    inr (eqb-true run.acts 32 last, there_now from.minds run.shelf was (Some (fresh works.mind.kind (kept_on works.rows run.shelf))) there)
is_after from run was works (Some told) false there last = inl (there_now from.minds run.shelf was (Some works.mind) there)

over_then : (from : Point) (run : OpenRun) (works : Works) (tells : Option Stimulus) (is_last : Bool) → tells ≡ None → (after_act from run works tells is_last).run ≡ None
over_then from run works tells is_last is = ap (λ (each : Option Stimulus). (after_act from run works each is_last).run) is

pub turn_tells : (turn : ShelfTurn) (point next : Point) (is : IsTurn turn point next) → TellsOfTurn turn point next is
turn_tells turn point next is =
    let left : AppletState = (act is.mind turn.stimulus).next in
    let at : Setting = setting_in point is.run in
    let works : Works = works_in point left in
    let came : Point = after_act point is.run is.done.works is.done.tells (is.run.acts == most_acts) in
    let shelf : is.run.shelf ≡ turn.shelf = same_shelf point.run turn is.run is.goes_on in
    let mind : is.done.works.mind ≡ left = ap (λ (done : Carried). done.works.mind) is.carries ∙ carried_leaves at turn.act works in
    let there : mind_on point.minds is.run.shelf ≡ Some is.mind = ap (mind_on point.minds) shelf ∙ is.there in
    let after : IsAfter point is.run left came = subst (λ (each : AppletState). IsAfter point is.run each came) mind (is_after point is.run is.mind is.done.works is.done.tells (is.run.acts == most_acts) there refl) in
    record {
      applet =
          subst (λ (place : ℕ). (mind_on next.minds place ≡ Some left) ⊎ ((is.run.acts ≡ 32) × (mind_on next.minds place ≡ Some (fresh left.kind (kept_on next.rows place))))) shelf
          (subst (IsAfter point is.run left) (sym is.leaves) after);
      sends = λ noted.
          let sent : Sends turn.act (carried at turn.act works).tells = admitted_sends at turn.act works (sym is.admits ∙ noted) in
          let over : came.run ≡ None = over_then point is.run is.done.works is.done.tells (is.run.acts == most_acts) (ap (λ (done : Carried). done.tells) is.carries ∙ sent.2) in
          (sent.0, sent.1, ap (λ (each : Point). each.run) is.leaves ∙ over);
    }
