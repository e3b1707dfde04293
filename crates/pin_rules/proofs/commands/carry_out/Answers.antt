-- Where a command is refused, or tells how many tries are left, nothing is written.
use Rattle.std.proofs.Common.{◌≡◌, Ok, Result, refl, sym, subst, rules}
use Rattle.uicc_types.specs.declared.answers.StatusWord.{StatusWord}
use Rattle.store_form.specs.declared.store.StoreFault.{StoreFault}
use Rattle.card_state.specs.Memory.{memory}
use Rattle.card_state.specs.States.{pins_of}
use Rattle.card_commits.specs.Performing.{WritesAll}
use Rattle.card_commits.proofs.WritesAllLemmas.{writes_nothing}
use Rattle.pin_rules.specs.declared.trials.Trial.{Trial}
use Rattle.pin_rules.specs.declared.trials.Trial.TheVariants.{Tell}
use Rattle.pin_rules.specs.Trials.{comes_to, trial_puts}
use Rattle.pin_rules.proofs.commands.carry_out.Goals as goal

pub returns-in-Err-clause-writes : goal.returns-in-Err-clause-writes
returns-in-Err-clause-writes g c =
    subst (λ (tried : Result Trial StatusWord). WritesAll {E = StoreFault} (Ok c.in-Err.status) (memory g.S.Store c.args.store.now c.args.loaded.now) (memory g.S.Store c.args.store.now c.args.loaded.now)
    (λ state. trial_puts tried (comes_to (pins_of c.args.loaded.now) c.args.verified.now c.args.command.now tried).passed))
    (sym c.in-Err.is) (writes_nothing StoreFault c.in-Err.status (memory g.S.Store c.args.store.now c.args.loaded.now) (memory g.S.Store c.args.store.now c.args.loaded.now) refl)

pub returns-in-Ok-Tell-clause-writes : goal.returns-in-Ok-Tell-clause-writes
returns-in-Ok-Tell-clause-writes g c =
    let is : c.args.tried ≡ Ok (Tell c.in-Ok-Tell.tries) = search rules in
    subst (λ (tried : Result Trial StatusWord). WritesAll {E = StoreFault} (Ok c.tries_left.result) (memory g.S.Store c.args.store.now c.args.loaded.now) (memory g.S.Store c.args.store.now c.args.loaded.now)
    (λ state. trial_puts tried (comes_to (pins_of c.args.loaded.now) c.args.verified.now c.args.command.now tried).passed))
    (sym is) (writes_nothing StoreFault c.tries_left.result (memory g.S.Store c.args.store.now c.args.loaded.now) (memory g.S.Store c.args.store.now c.args.loaded.now) refl)
