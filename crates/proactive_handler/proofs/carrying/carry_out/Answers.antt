-- Each kind of act has its lemma for any mind; that a told timer is one of eight is read from it with a fresh mind put in.
use Rattle.std.proofs.Common.{refl, sym, ap, ◌∙◌, ℕ, List, [], rules, Ok}
use Rattle.std.proofs.lemmas.Result.{on_ok_weaker}
use Rattle.card_state.specs.Memory.{memory}
use Rattle.applet_trait.specs.declared.stimuli.Act.TheVariants.{Done, Send, Keep, Register, Deregister, TakeTimer, FreeTimer, Answer}
use Rattle.applet_trait.specs.Minds.{fresh}
use Rattle.toolkit_model.specs.Running.{is_held_by}
use Rattle.proactive_handler.specs.declared.endings.Reply.TheVariants.{Went}
use Rattle.proactive_handler.specs.declared.endings.Next.TheVariants.{Told, Idle}
use Rattle.proactive_handler.specs.Acts.{setting_of, stimulus_of, stage}
use Rattle.proactive_handler.proofs.CarriesLemmas.{told_by, send_told, keep_told, register_told, deregister_told, free_told, done_so, answer_so, send_so, take_so, free_so, same_act}
use Rattle.proactive_handler.proofs.carrying.carry_out.Goals as goal

pub returns-in-Done-clause-carries : goal.returns-in-Done-clause-carries
returns-in-Done-clause-carries g c = λ mind. same_act (setting_of c.args.at.now) c.args.act.now (Done) (stage (memory g.S.Store c.args.store.now c.args.loaded.now) c.args.timers.now mind) (stage (memory g.S.Store c.args.store.now c.args.loaded.now) c.args.timers.now mind) (Ok Idle) c.in-Done.is
    (done_so c.tables_tell_states.ensures (memory g.S.Store c.args.store.now c.args.loaded.now) c.requires.may_run.mounted.agrees (setting_of c.args.at.now) c.args.timers.now mind)

pub returns-in-Send-clause-carries : goal.returns-in-Send-clause-carries
returns-in-Send-clause-carries g c = λ mind. same_act (setting_of c.args.at.now) c.args.act.now (Send c.in-Send.command) (stage (memory g.S.Store c.args.store.now c.args.loaded.now) c.args.timers.now mind) (stage (memory g.S.Store c.args.store.now c.args.loaded.now) c.args.timers.now mind) (Ok c.send.result) c.in-Send.is
    (send_so c.tables_tell_states.ensures (memory g.S.Store c.args.store.now c.args.loaded.now) c.requires.may_run.mounted.agrees (setting_of c.args.at.now) c.args.timers.now mind c.in-Send.command c.send.result c.send.ensures)

pub returns-in-Send-clause-one_of_eight : goal.returns-in-Send-clause-one_of_eight
returns-in-Send-clause-one_of_eight g c =
    let before = stage (memory g.S.Store c.args.store.now c.args.loaded.now) c.args.timers.now (fresh 0 []) in
    told_by c.args.act.now (Send c.in-Send.command) (Ok c.send.result) c.in-Send.is
    (send_told (setting_of c.args.at.now) before before (Ok c.send.result) c.in-Send.command (send_so c.tables_tell_states.ensures (memory g.S.Store c.args.store.now c.args.loaded.now) c.requires.may_run.mounted.agrees (setting_of c.args.at.now) c.args.timers.now (fresh 0 []) c.in-Send.command c.send.result c.send.ensures))

pub returns-in-Keep-clause-carries : goal.returns-in-Keep-clause-carries
returns-in-Keep-clause-carries g c = λ mind. same_act (setting_of c.args.at.now) c.args.act.now (Keep c.as_slice.result.now) (stage (memory g.S.Store c.args.store.now c.args.loaded.now) c.args.timers.now mind) (stage (memory g.S.Store c.keep.new.store c.keep.new.loaded) c.args.timers.now mind) (c.keep.result) (c.in-Keep.is ∙ ap (λ (bytes : List ℕ). Keep bytes) (sym c.as_slice.ensures.value))
    (c.keep.ensures.carries (setting_of c.args.at.now) c.args.timers.now mind refl)

pub returns-in-Keep-clause-one_of_eight : goal.returns-in-Keep-clause-one_of_eight
returns-in-Keep-clause-one_of_eight g c =
    told_by c.args.act.now (Keep c.as_slice.result.now) c.keep.result (c.in-Keep.is ∙ ap (λ (bytes : List ℕ). Keep bytes) (sym c.as_slice.ensures.value))
    (keep_told (setting_of c.args.at.now) _ _ c.keep.result c.as_slice.result.now (c.keep.ensures.carries (setting_of c.args.at.now) c.args.timers.now (fresh 0 []) refl))

pub returns-in-Register-clause-carries : goal.returns-in-Register-clause-carries
returns-in-Register-clause-carries g c = λ mind. same_act (setting_of c.args.at.now) c.args.act.now (Register c.in-Register.code) (stage (memory g.S.Store c.args.store.now c.args.loaded.now) c.args.timers.now mind) (stage (memory g.S.Store c.register.new.store c.register.new.loaded) c.args.timers.now mind) (c.register.result) c.in-Register.is
    (c.register.ensures.carries (setting_of c.args.at.now) c.args.timers.now mind refl)

pub returns-in-Register-clause-one_of_eight : goal.returns-in-Register-clause-one_of_eight
returns-in-Register-clause-one_of_eight g c =
    told_by c.args.act.now (Register c.in-Register.code) c.register.result c.in-Register.is
    (register_told (setting_of c.args.at.now) _ _ c.register.result c.in-Register.code (c.register.ensures.carries (setting_of c.args.at.now) c.args.timers.now (fresh 0 []) refl))

pub returns-in-Deregister-clause-carries : goal.returns-in-Deregister-clause-carries
returns-in-Deregister-clause-carries g c = λ mind. same_act (setting_of c.args.at.now) c.args.act.now (Deregister c.in-Deregister.code) (stage (memory g.S.Store c.args.store.now c.args.loaded.now) c.args.timers.now mind) (stage (memory g.S.Store c.deregister.new.store c.deregister.new.loaded) c.args.timers.now mind) (c.deregister.result) c.in-Deregister.is
    (c.deregister.ensures.carries (setting_of c.args.at.now) c.args.timers.now mind refl)

pub returns-in-Deregister-clause-one_of_eight : goal.returns-in-Deregister-clause-one_of_eight
returns-in-Deregister-clause-one_of_eight g c =
    told_by c.args.act.now (Deregister c.in-Deregister.code) c.deregister.result c.in-Deregister.is
    (deregister_told (setting_of c.args.at.now) _ _ c.deregister.result c.in-Deregister.code (c.deregister.ensures.carries (setting_of c.args.at.now) c.args.timers.now (fresh 0 []) refl))

pub returns-in-Keep-clause-keeps : goal.returns-in-Keep-clause-keeps
returns-in-Keep-clause-keeps g c = record {
  rows_stay = c.keep.ensures.rows_stay;
  indexed = on_ok_weaker c.keep.result (λ each. each c.args.index.now c.requires.may_run.indexed) c.keep.ensures.indexed;
  table = c.keep.ensures.table;
  kept = search rules;
  keeps = c.keep.ensures.keeps;
}

pub returns-in-TakeTimer-clause-carries : goal.returns-in-TakeTimer-clause-carries
returns-in-TakeTimer-clause-carries g c = λ mind. same_act (setting_of c.args.at.now) c.args.act.now (TakeTimer) (stage (memory g.S.Store c.args.store.now c.args.loaded.now) c.args.timers.now mind) (stage (memory g.S.Store c.args.store.now c.args.loaded.now) c.take_timer.new.timers mind) (Ok (Told c.take_timer.result)) c.in-TakeTimer.is
    (take_so c.tables_tell_states.ensures (memory g.S.Store c.args.store.now c.args.loaded.now) c.requires.may_run.mounted.agrees (setting_of c.args.at.now) c.args.timers.now mind c.take_timer.new.timers (stimulus_of c.take_timer.result) c.take_timer.ensures.told c.take_timer.ensures.given)

pub returns-in-FreeTimer-clause-carries : goal.returns-in-FreeTimer-clause-carries
returns-in-FreeTimer-clause-carries g c = λ mind. same_act (setting_of c.args.at.now) c.args.act.now (FreeTimer c.in-FreeTimer.timer) (stage (memory g.S.Store c.args.store.now c.args.loaded.now) c.args.timers.now mind) (stage (memory g.S.Store c.args.store.now c.args.loaded.now) c.free_timer.new.timers mind) (Ok (Told c.free_timer.result)) c.in-FreeTimer.is
    (free_so c.tables_tell_states.ensures (memory g.S.Store c.args.store.now c.args.loaded.now) c.requires.may_run.mounted.agrees (setting_of c.args.at.now) c.args.timers.now mind c.in-FreeTimer.timer c.free_timer.new.timers (stimulus_of c.free_timer.result) c.free_timer.ensures.told c.free_timer.ensures.freed)

pub returns-in-FreeTimer-clause-one_of_eight : goal.returns-in-FreeTimer-clause-one_of_eight
returns-in-FreeTimer-clause-one_of_eight g c = free_told (is_held_by c.args.timers.now c.args.at.now.shelf.0 c.in-FreeTimer.timer) (stimulus_of c.free_timer.result) c.free_timer.ensures.told

pub returns-in-Answer-clause-carries : goal.returns-in-Answer-clause-carries
returns-in-Answer-clause-carries g c = λ mind. same_act (setting_of c.args.at.now) c.args.act.now (Answer c.in-Answer.field-0) (stage (memory g.S.Store c.args.store.now c.args.loaded.now) c.args.timers.now mind) (stage (memory g.S.Store c.args.store.now c.args.loaded.now) c.args.timers.now mind) (Ok (Told Went)) c.in-Answer.is
    (answer_so c.tables_tell_states.ensures (memory g.S.Store c.args.store.now c.args.loaded.now) c.requires.may_run.mounted.agrees (setting_of c.args.at.now) c.args.timers.now mind c.in-Answer.field-0)
