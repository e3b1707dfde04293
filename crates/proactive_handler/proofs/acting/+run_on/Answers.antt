-- A step and the run of the acts that are left make one run; its answer is the last one given, its command that of the last act.
use Rattle.std.proofs.Common.{refl, sym, ap, ◌∙◌, subst, ◌-◌, Bool, Option, None, arith, is_some, IfSome}
use Rattle.std.specs.Option.{option_or}
use Rattle.card_state.specs.States.{rows_of}
use Rattle.card_state.specs.Memory.{memory}
use Rattle.toolkit_commands.specs.declared.commands.Proactive.{Proactive}
use Rattle.toolkit_commands.proofs.LengthsOfCommandsLemmas.{same_length}
use Rattle.applet_trait.specs.declared.stimuli.Stimulus.{Stimulus}
use Rattle.applet_trait.specs.Minds.{AppletState}
use Rattle.toolkit_model.specs.Orderly.{CanBeSent}
use Rattle.toolkit_model.specs.Running.{Works}
use Rattle.proactive_handler.specs.Acts.{Told, setting_of, stage, next_of, command_of, after, IsCarriedOut}
use Rattle.proactive_handler.specs.Runs.{ended_by}
use Rattle.proactive_handler.specs.declared.endings.Next.{Next}
use Rattle.proactive_handler.proofs.RunOnLemmas.{told_of, sent_of, as_sent, tells_told, sends_sent, each_sent, stepped, ended, can_be_sent, stopped_at, went_on, cut_later, woke, cut_runs}
use Rattle.proactive_handler.proofs.MovedLemmas.{has_rows}
use Rattle.proactive_handler.proofs.acting.+run_on.Goals as goal

pub returns-then-acts-eq0-clause-runs : goal.returns-then-acts-eq0-clause-runs
returns-then-acts-eq0-clause-runs g t c =
    woke (setting_of c.args.at.now) c.args.stimulus.now c.args.acts (stage (memory g.S.Store c.args.store.now c.args.loaded.now) c.args.timers.now (g.B.Applet.mind c.args.applet.now)) (stage (memory g.S.Store c.args.store.now c.args.loaded.now) c.args.timers.now (g.B.Applet.mind c.wake.new.applet)) _
    (omega (arith, c.if-acts-eq0.true)) (has_rows c.tables_tell_states.ensures _ _ c.args.loaded.now c.requires.may_run.mounted.agrees) refl
    (ap (λ (mind : AppletState). let works : Works = record { rows = rows_of c.args.loaded.now; timers = c.args.timers.now; mind = mind } in works) c.wake.ensures) refl refl

pub returns-in_err-carry_out-clause-runs : goal.returns-in_err-carry_out-clause-runs
returns-in_err-carry_out-clause-runs g t c =
    cut_runs _ _ _ _ c.from_residual.result c.from_residual.ensures.0 (stopped_at (setting_of c.args.at.now) c.args.stimulus.now c.args.acts (c.args.acts - 1) (omega (arith, c.if-acts-eq0.false))
    (stage (memory g.S.Store c.args.store.now c.args.loaded.now) c.args.timers.now (g.B.Applet.mind c.args.applet.now)) c.step_into.new.does (g.B.Applet.mind c.step_into.new.self) c.step_into.ensures.acted c.step_into.ensures.moved
    (stage (memory g.S.Store c.carry_out.new.store c.carry_out.new.loaded) c.carry_out.new.timers (g.B.Applet.mind c.step_into.new.self)) (has_rows c.tables_tell_states.ensures _ _ c.args.loaded.now c.requires.may_run.mounted.agrees) (c.in_err-carry_out.ensures.carries (g.B.Applet.mind c.step_into.new.self)))

pub returns-in_err-rest-in-Told-clause-runs : goal.returns-in_err-rest-in-Told-clause-runs
returns-in_err-rest-in-Told-clause-runs g t c =
    cut_runs _ _ _ _ c.from_residual-in_err-rest-in-Told.result c.from_residual-in_err-rest-in-Told.ensures.0
    (cut_later (setting_of c.args.at.now) c.args.stimulus.now c.args.acts (c.args.acts - 1) (omega (arith, c.if-acts-eq0.false))
    (stage (memory g.S.Store c.args.store.now c.args.loaded.now) c.args.timers.now (g.B.Applet.mind c.args.applet.now)) c.step_into.new.does (g.B.Applet.mind c.step_into.new.self) c.step_into.ensures.acted c.step_into.ensures.moved
    (stage (memory g.S.Store c.carry_out.new.store c.carry_out.new.loaded) c.carry_out.new.timers (g.B.Applet.mind c.step_into.new.self)) (stage (memory g.S.Store c.run_on.new.store c.run_on.new.loaded) c.run_on.new.timers (g.B.Applet.mind c.run_on.new.applet)) c.stimulus-told.result (subst (IsCarriedOut (setting_of c.args.at.now) c.step_into.new.does (stepped (setting_of c.args.at.now) c.args.stimulus.now c.args.acts (c.args.acts - 1) (omega (arith, c.if-acts-eq0.false))
    (stage (memory g.S.Store c.args.store.now c.args.loaded.now) c.args.timers.now (g.B.Applet.mind c.args.applet.now)) c.step_into.new.does (g.B.Applet.mind c.step_into.new.self) c.step_into.ensures.acted c.step_into.ensures.moved) (stage (memory g.S.Store c.carry_out.new.store c.carry_out.new.loaded) c.carry_out.new.timers (g.B.Applet.mind c.step_into.new.self))) (ap (after c.step_into.new.does) c.in-Told.is ∙ ap (λ (s : Stimulus). Told s) (sym c.stimulus-told.ensures)) (c.in_ok-carry_out.ensures.carries (g.B.Applet.mind c.step_into.new.self))) (has_rows c.tables_tell_states.ensures _ _ c.args.loaded.now c.requires.may_run.mounted.agrees) c.in_err-rest-in-Told.ensures.runs)

pub returns-in-Idle-clause-runs : goal.returns-in-Idle-clause-runs
returns-in-Idle-clause-runs g t c =
    ended (setting_of c.args.at.now) c.args.stimulus.now c.args.acts (c.args.acts - 1) (omega (arith, c.if-acts-eq0.false))
    (stage (memory g.S.Store c.args.store.now c.args.loaded.now) c.args.timers.now (g.B.Applet.mind c.args.applet.now)) c.step_into.new.does (g.B.Applet.mind c.step_into.new.self) c.step_into.ensures.acted c.step_into.ensures.moved
    (stage (memory g.S.Store c.carry_out.new.store c.carry_out.new.loaded) c.carry_out.new.timers (g.B.Applet.mind c.step_into.new.self)) (after c.step_into.new.does c.in_ok-carry_out.field-0) (c.in_ok-carry_out.ensures.carries (g.B.Applet.mind c.step_into.new.self)) (ap (λ (n : Next). told_of (after c.step_into.new.does n)) c.in-Idle.is) _ (sym (ap (λ (n : Next). sent_of (after c.step_into.new.does n)) c.in-Idle.is)) c.answer_of-answer.ensures

pub returns-in-Sent-clause-runs : goal.returns-in-Sent-clause-runs
returns-in-Sent-clause-runs g t c =
    ended (setting_of c.args.at.now) c.args.stimulus.now c.args.acts (c.args.acts - 1) (omega (arith, c.if-acts-eq0.false))
    (stage (memory g.S.Store c.args.store.now c.args.loaded.now) c.args.timers.now (g.B.Applet.mind c.args.applet.now)) c.step_into.new.does (g.B.Applet.mind c.step_into.new.self) c.step_into.ensures.acted c.step_into.ensures.moved
    (stage (memory g.S.Store c.carry_out.new.store c.carry_out.new.loaded) c.carry_out.new.timers (g.B.Applet.mind c.step_into.new.self)) (after c.step_into.new.does c.in_ok-carry_out.field-0) (c.in_ok-carry_out.ensures.carries (g.B.Applet.mind c.step_into.new.self)) (ap (λ (n : Next). told_of (after c.step_into.new.does n)) c.in-Sent.is ∙ tells_told None (command_of c.step_into.new.does)) _ (as_sent (command_of c.step_into.new.does) c.sends.result c.sends.ensures ∙ sym (ap (λ (n : Next). sent_of (after c.step_into.new.does n)) c.in-Sent.is ∙ sends_sent None (command_of c.step_into.new.does) refl)) c.answer_of-answer.ensures

pub returns-in-Sent-clause-sendable : goal.returns-in-Sent-clause-sendable
returns-in-Sent-clause-sendable g t c =
    subst (λ (sent : Option Proactive). IfSome sent CanBeSent) (sym (as_sent (command_of c.step_into.new.does) c.sends.result c.sends.ensures))
    (each_sent (command_of c.step_into.new.does) (λ command some. can_be_sent (setting_of c.args.at.now) c.args.stimulus.now c.args.acts (c.args.acts - 1) (omega (arith, c.if-acts-eq0.false))
    (stage (memory g.S.Store c.args.store.now c.args.loaded.now) c.args.timers.now (g.B.Applet.mind c.args.applet.now)) c.step_into.new.does (g.B.Applet.mind c.step_into.new.self) c.step_into.ensures.acted c.step_into.ensures.moved
    (stage (memory g.S.Store c.carry_out.new.store c.carry_out.new.loaded) c.carry_out.new.timers (g.B.Applet.mind c.step_into.new.self)) (after c.step_into.new.does c.in_ok-carry_out.field-0) (c.in_ok-carry_out.ensures.carries (g.B.Applet.mind c.step_into.new.self)) (ap (λ (n : Next). told_of (after c.step_into.new.does n)) c.in-Sent.is ∙ tells_told None (command_of c.step_into.new.does)) command (ap (after c.step_into.new.does) c.in-Sent.is ∙ ap (next_of None) some) same_length (c.step_into.ensures.proper c.requires.one_of_eight)))

pub returns-in-Sent-clause-exact : goal.returns-in-Sent-clause-exact
returns-in-Sent-clause-exact g t c =
    c.sends.ensures ∙ ap (λ (sent : Option Proactive). is_some sent) (sym (as_sent (command_of c.step_into.new.does) c.sends.result c.sends.ensures))

pub returns-in_ok-rest-in-Told-clause-runs : goal.returns-in_ok-rest-in-Told-clause-runs
returns-in_ok-rest-in-Told-clause-runs g t c =
    went_on (setting_of c.args.at.now) c.args.stimulus.now c.args.acts (c.args.acts - 1) (omega (arith, c.if-acts-eq0.false))
    (stage (memory g.S.Store c.args.store.now c.args.loaded.now) c.args.timers.now (g.B.Applet.mind c.args.applet.now)) c.step_into.new.does (g.B.Applet.mind c.step_into.new.self) c.step_into.ensures.acted c.step_into.ensures.moved
    (stage (memory g.S.Store c.carry_out.new.store c.carry_out.new.loaded) c.carry_out.new.timers (g.B.Applet.mind c.step_into.new.self)) (stage (memory g.S.Store c.run_on.new.store c.run_on.new.loaded) c.run_on.new.timers (g.B.Applet.mind c.run_on.new.applet)) c.stimulus-told.result (subst (IsCarriedOut (setting_of c.args.at.now) c.step_into.new.does (stepped (setting_of c.args.at.now) c.args.stimulus.now c.args.acts (c.args.acts - 1) (omega (arith, c.if-acts-eq0.false))
    (stage (memory g.S.Store c.args.store.now c.args.loaded.now) c.args.timers.now (g.B.Applet.mind c.args.applet.now)) c.step_into.new.does (g.B.Applet.mind c.step_into.new.self) c.step_into.ensures.acted c.step_into.ensures.moved) (stage (memory g.S.Store c.carry_out.new.store c.carry_out.new.loaded) c.carry_out.new.timers (g.B.Applet.mind c.step_into.new.self))) (ap (after c.step_into.new.does) c.in-Told.is ∙ ap (λ (s : Stimulus). Told s) (sym c.stimulus-told.ensures)) (c.in_ok-carry_out.ensures.carries (g.B.Applet.mind c.step_into.new.self))) _ (ended_by c.run_on.new.does c.in_ok-rest-in-Told.rest) c.in_ok-rest-in-Told.ensures.runs refl
    (c.or.ensures ∙ ap (λ (answer : Option Bool). option_or c.in_ok-rest-in-Told.rest.answer answer) c.answer_of-answer.ensures)
