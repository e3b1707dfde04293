-- The trial read from the table comes to what the command settles; where that passes no state nothing is committed, and no fault stops it.
use Rattle.std.proofs.Common.{◌≡◌, Ok, Result, length, refl, sym, ◌∙◌, ap, subst}
use Rattle.std.proofs.lemmas.Bool.{false≢true}
use Rattle.list_laws.proofs.IfSomeLemmas.{on_err}
use Rattle.uicc_types.specs.declared.answers.StatusWord.{StatusWord}
use Rattle.uicc_types.specs.Counts.{raised_by}
use Rattle.store_form.specs.declared.store.StoreFault.{StoreFault}
use Rattle.card_state.specs.States.{pins_of}
use Rattle.card_state.specs.Memory.{memory}
use Rattle.file_model.specs.Commands.{pin_settled}
use Rattle.file_model.specs.Outcomes.{PinOutcome}
use Rattle.card_commits.proofs.WritesAllLemmas.{stopped_writes}
use Rattle.pin_rules.specs.Outcomes.{IsCarriedOut, IsPinCutShort}
use Rattle.pin_rules.proofs.OutcomesLemmas.{settled, stopped_same, performs, stopped, only_tells, one_less}
use Rattle.pin_rules.proofs.PutsLemmas.{command_writes}
use Rattle.pin_rules.proofs.commands.named_pin_command.Goals as goal

pub returns-in_err-out-clause-performs : goal.returns-in_err-out-clause-performs
returns-in_err-out-clause-performs g c =
    stopped c.from_residual.result (memory g.S.Store c.args.store.now c.args.loaded.now) (memory g.S.Store c.carry_out.new.store c.carry_out.new.loaded) (record { body = c.clear.new.self; status = c.args.out.now.status }) c.carry_out.new.verified (λ state. pin_settled c.args.pin state.pins c.args.verified.now c.args.command.now) c.from_residual.ensures.0
    (stopped_same c.args.pin (pins_of c.args.loaded.now) c.args.verified.now c.args.command.now c.trial_of-tried.result (c.trial_of-tried.ensures.means c.args.verified.now) (memory g.S.Store c.args.store.now c.args.loaded.now) (memory g.S.Store c.carry_out.new.store c.carry_out.new.loaded) (λ state is. (c.tables_tell_states.ensures (g.S.Store.store_mark c.args.store.now) (g.S.Store.stable c.args.store.now) c.args.loaded.now state c.requires.mounted.agrees is).pins) c.args.verified.now c.carry_out.new.verified c.in_err-out.ensures.tried.stops)

pub returns-in_err-out-clause-stops : goal.returns-in_err-out-clause-stops
returns-in_err-out-clause-stops g c =
    on_err c.from_residual.result (subst (λ (o : PinOutcome). IsPinCutShort o (memory g.S.Store c.args.store.now c.args.loaded.now) (memory g.S.Store c.carry_out.new.store c.carry_out.new.loaded) c.args.verified.now c.carry_out.new.verified) (sym (settled c.args.pin (pins_of c.args.loaded.now) c.args.verified.now c.args.command.now c.trial_of-tried.result (c.trial_of-tried.ensures.means c.args.verified.now))) c.in_err-out.ensures.tried.stops)

pub returns-in_err-out-clause-still : goal.returns-in_err-out-clause-still
returns-in_err-out-clause-still g c = λ none.
    absurd (false≢true (c.in_err-out.ensures.still (only_tells (pins_of c.args.loaded.now) c.args.verified.now c.args.command.now c.trial_of-tried.result (sym (ap (λ (o : PinOutcome). o.passed) (settled c.args.pin (pins_of c.args.loaded.now) c.args.verified.now c.args.command.now c.trial_of-tried.result (c.trial_of-tried.ensures.means c.args.verified.now))) ∙ none))).0)

pub returns-clause-comes : goal.returns-clause-comes
returns-clause-comes g c =
    let is = sym (settled c.args.pin (pins_of c.args.loaded.now) c.args.verified.now c.args.command.now c.trial_of-tried.result (c.trial_of-tried.ensures.means c.args.verified.now)) in
    record {
      carried_out = subst (λ (o : PinOutcome). IsCarriedOut o (pins_of c.args.loaded.now) c.in_ok-out.field-0 c.carry_out.new.verified (pins_of c.carry_out.new.loaded)) is c.in_ok-out.ensures.tried.comes;
      commits = subst (λ (o : PinOutcome). g.S.Store.commits c.carry_out.new.store ≡ raised_by (length o.passed) (g.S.Store.commits c.args.store.now)) is c.in_ok-out.ensures.tried.stands.commits;
    }

pub returns-clause-performs : goal.returns-clause-performs
returns-clause-performs g c =
    performs c.args.pin (pins_of c.args.loaded.now) c.args.verified.now c.args.command.now c.trial_of-tried.result (c.trial_of-tried.ensures.means c.args.verified.now) (memory g.S.Store c.args.store.now c.args.loaded.now) (memory g.S.Store c.carry_out.new.store c.carry_out.new.loaded) (λ state is. (c.tables_tell_states.ensures (g.S.Store.store_mark c.args.store.now) (g.S.Store.stable c.args.store.now) c.args.loaded.now state c.requires.mounted.agrees is).pins)
    (record { body = c.clear.new.self; status = c.in_ok-out.field-0 }) c.carry_out.new.verified (pins_of c.carry_out.new.loaded) c.clear.ensures c.in_ok-out.ensures.tried.comes c.in_ok-out.ensures.tried.stands

pub returns-clause-guessed : goal.returns-clause-guessed
returns-clause-guessed g c =
    one_less (pins_of c.args.loaded.now) c.args.verified.now c.args.command.now c.args.pin c.args.loaded.now c.trial_of-tried.result c.in_ok-out.field-0 c.carry_out.new.verified (pins_of c.carry_out.new.loaded)
    (c.trial_of-tried.ensures.means c.args.verified.now) c.trial_of-tried.ensures.lawful c.trial_of-tried.ensures.usual c.in_ok-out.ensures.tried.comes

pub returns-clause-still : goal.returns-clause-still
returns-clause-still g c = λ none.
    let stays = c.in_ok-out.ensures.still (only_tells (pins_of c.args.loaded.now) c.args.verified.now c.args.command.now c.trial_of-tried.result (sym (ap (λ (o : PinOutcome). o.passed) (settled c.args.pin (pins_of c.args.loaded.now) c.args.verified.now c.args.command.now c.trial_of-tried.result (c.trial_of-tried.ensures.means c.args.verified.now))) ∙ none)) in
    (refl, stays.1, stays.2)

pub returns-in_err-out-clause-writes : goal.returns-in_err-out-clause-writes
returns-in_err-out-clause-writes g c =
    command_writes c.args.pin (pins_of c.args.loaded.now) c.args.verified.now c.args.command.now c.trial_of-tried.result (c.trial_of-tried.ensures.means c.args.verified.now) c.trial_of-tried.ensures.sets c.from_residual.result (memory g.S.Store c.args.store.now c.args.loaded.now) (memory g.S.Store c.carry_out.new.store c.carry_out.new.loaded) (λ state is. (c.tables_tell_states.ensures (g.S.Store.store_mark c.args.store.now) (g.S.Store.stable c.args.store.now) c.args.loaded.now state c.requires.mounted.agrees is).pins)
    (stopped_writes c.from_residual.result _ _ _ c.from_residual.ensures.0 c.in_err-out.ensures.writes)

pub returns-clause-writes : goal.returns-clause-writes
returns-clause-writes g c =
    command_writes c.args.pin (pins_of c.args.loaded.now) c.args.verified.now c.args.command.now c.trial_of-tried.result (c.trial_of-tried.ensures.means c.args.verified.now) c.trial_of-tried.ensures.sets (let done : Result StatusWord StoreFault = Ok c.in_ok-out.field-0 in done) (memory g.S.Store c.args.store.now c.args.loaded.now) (memory g.S.Store c.carry_out.new.store c.carry_out.new.loaded) (λ state is. (c.tables_tell_states.ensures (g.S.Store.store_mark c.args.store.now) (g.S.Store.stable c.args.store.now) c.args.loaded.now state c.requires.mounted.agrees is).pins) c.in_ok-out.ensures.writes
