-- What `named_pin_command` says of the command that is named is said of the one that the instruction byte names.
use Rattle.std.proofs.Common.{OnOk, subst, ap, ◌∙◌}
use Rattle.apdu_form.specs.Model.{Apdu}
use Rattle.card_state.specs.States.{pins_of}
use Rattle.card_state.specs.Memory.{memory}
use Rattle.file_model.specs.declared.commands.PinCommand.{PinCommand}
use Rattle.file_model.specs.Commands.{first_fields, second_fields, pin_settled}
use Rattle.file_model.specs.Pins.{pins_put}
use Rattle.card_commits.specs.Performing.{WritesAll}
use Rattle.pin_rules.specs.Outcomes.{LeavesOneLess, pin_by_byte}
use Rattle.pin_rules.proofs.commands.pin_command.Goals as goal

pub returns-clause-guessed : goal.returns-clause-guessed
returns-clause-guessed g c =
    subst (λ (pin : PinCommand). OnOk c.named_pin_command.result (LeavesOneLess pin c.args.command.now c.named_pin_command.new.out.status (pins_of c.args.loaded.now) (pins_of c.named_pin_command.new.loaded)))
    (c.pin_named-pin.ensures ∙ ap (λ (apdu : Apdu). pin_by_byte apdu.ins) c.command.view_is) c.named_pin_command.ensures.guessed

pub returns-clause-writes : goal.returns-clause-writes
returns-clause-writes g c =
    subst (λ (pin : PinCommand). WritesAll c.named_pin_command.result (memory g.S.Store c.args.store.now c.args.loaded.now) (memory g.S.Store c.named_pin_command.new.store c.named_pin_command.new.loaded)
    (λ state. pins_put (first_fields pin) (second_fields pin) c.args.command.now.p2 (pin_settled pin state.pins c.args.verified.now c.args.command.now).passed))
    (c.pin_named-pin.ensures ∙ ap (λ (apdu : Apdu). pin_by_byte apdu.ins) c.command.view_is) c.named_pin_command.ensures.writes
