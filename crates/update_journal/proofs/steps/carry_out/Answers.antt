use Rattle.std.proofs.lemmas.Result.{on_ok_weaker}
use Rattle.list_laws.proofs.IfSomeLemmas.{whichever}
use Rattle.update_journal.specs.Calls.{calls_of}
use Rattle.update_journal.proofs.CallsLemmas.{then_calls}
use Rattle.update_journal.proofs.IsUnderWayLemmas.{while_pieces, while_closing, once_closed}
use Rattle.update_journal.proofs.steps.carry_out.Goals as goal

pub returns-in_err-write_pieces-clause-stable : goal.returns-in_err-write_pieces-clause-stable
returns-in_err-write_pieces-clause-stable g c =
    while_pieces c.args.writes.now (g.E.Eeprom.byte_count c.args.device.now) (g.E.Eeprom.contents c.args.device.now) (g.E.Eeprom.contents c.write_pieces.new.device)
    (g.met.E.Eeprom.told_length c.args.device.now) c.requires.usable c.requires.under_way c.in_err-write_pieces.ensures.rewritten

pub returns-clause-stable : goal.returns-clause-stable
returns-clause-stable g c =
    whichever c.program.result c.program.ensures.ok c.program.ensures.torn
    (λ closed. (once_closed c.args.writes.now (g.E.Eeprom.byte_count c.args.device.now) (g.E.Eeprom.contents c.args.device.now) (g.E.Eeprom.contents c.write_pieces.new.device) (g.E.Eeprom.contents c.program.new.device)
    c.requires.roomy (g.met.E.Eeprom.told_length c.args.device.now) c.requires.usable c.requires.under_way c.in_ok-write_pieces.ensures.ok closed).0)
    (λ torn. while_closing c.args.writes.now (g.E.Eeprom.byte_count c.args.device.now) (g.E.Eeprom.contents c.args.device.now) (g.E.Eeprom.contents c.write_pieces.new.device) (g.E.Eeprom.contents c.program.new.device)
    (g.met.E.Eeprom.told_length c.args.device.now) c.requires.usable c.requires.under_way c.in_ok-write_pieces.ensures.ok torn)

pub returns-clause-closed : goal.returns-clause-closed
returns-clause-closed g c =
    on_ok_weaker c.program.result
    (λ closed. (once_closed c.args.writes.now (g.E.Eeprom.byte_count c.args.device.now) (g.E.Eeprom.contents c.args.device.now) (g.E.Eeprom.contents c.write_pieces.new.device) (g.E.Eeprom.contents c.program.new.device)
    c.requires.roomy (g.met.E.Eeprom.told_length c.args.device.now) c.requires.usable c.requires.under_way c.in_ok-write_pieces.ensures.ok closed).1)
    c.program.ensures.ok

pub returns-clause-calls : goal.returns-clause-calls
returns-clause-calls g c = then_calls (calls_of c.args.writes.now) 1 (g.E.Eeprom.meter c.args.device.now).programs (g.E.Eeprom.meter c.write_pieces.new.device).programs (g.E.Eeprom.meter c.program.new.device).programs c.program.result c.in_ok-write_pieces.ensures.calls.all c.program.ensures.calls
