use Rattle.std.proofs.Common.{◌+◌, inl, inr, ◌∙◌, arith, rules, length}
use Rattle.list_laws.proofs.IfSomeLemmas.{on_ok, on_err}
use Rattle.update_journal.specs.Calls.{calls_at, calls_of, calls_to_commit}
use Rattle.update_journal.specs.Entries.{entries}
use Rattle.update_journal.proofs.CallsLemmas.{fewer, then_all, then_at_most, then_calls}
use Rattle.update_journal.proofs.EntriesLemmas.{length-entries}
use Rattle.update_journal.proofs.IsUnderWayLemmas.{while_entries, while_opening, once_open}
use Rattle.update_journal.proofs.steps.commit.Goals as goal

pub returns-in_err-write_entries-clause-whole : goal.returns-in_err-write_entries-clause-whole
returns-in_err-write_entries-clause-whole g c =
    on_err c.from_residual.result (inl (while_entries (length (entries c.args.writes.now)) (g.E.Eeprom.contents c.args.device.now) (g.E.Eeprom.contents c.write_entries.new.device)
    (omega (arith, length-entries c.args.writes.now c.write_entries.ensures.bounds)) c.requires.settled c.in_err-write_entries.ensures.torn))

pub returns-in_err-program-clause-whole : goal.returns-in_err-program-clause-whole
returns-in_err-program-clause-whole g c =
    on_err c.from_residual-in_err-program.result (while_opening c.args.writes.now (g.E.Eeprom.byte_count c.args.device.now) (g.E.Eeprom.contents c.args.device.now) (g.E.Eeprom.contents c.write_entries.new.device) (g.E.Eeprom.contents c.program.new.device)
    c.requires.roomy (g.met.E.Eeprom.told_length c.args.device.now) c.requires.settled c.write_entries.ensures.bounds c.requires.some c.requires.usable
    c.in_ok-write_entries.ensures.ok c.in_err-program.ensures.torn)

pub carry_out-requires-clause-under_way : goal.carry_out-requires-clause-under_way
carry_out-requires-clause-under_way g c =
    (once_open c.args.writes.now (g.E.Eeprom.byte_count c.args.device.now) (g.E.Eeprom.contents c.args.device.now) (g.E.Eeprom.contents c.write_entries.new.device) (g.E.Eeprom.contents c.program.new.device)
    c.requires.roomy (g.met.E.Eeprom.told_length c.args.device.now) c.requires.settled c.write_entries.ensures.bounds c.requires.some c.requires.usable
    c.in_ok-write_entries.ensures.ok c.in_ok-program.ensures.ok).0

pub returns-clause-ok : goal.returns-clause-ok
returns-clause-ok g c =
    on_ok c.carry_out.result (c.carry_out.ensures.stable ∙ (once_open c.args.writes.now (g.E.Eeprom.byte_count c.args.device.now) (g.E.Eeprom.contents c.args.device.now) (g.E.Eeprom.contents c.write_entries.new.device) (g.E.Eeprom.contents c.program.new.device)
    c.requires.roomy (g.met.E.Eeprom.told_length c.args.device.now) c.requires.settled c.write_entries.ensures.bounds c.requires.some c.requires.usable
    c.in_ok-write_entries.ensures.ok c.in_ok-program.ensures.ok).1)

pub returns-clause-whole : goal.returns-clause-whole
returns-clause-whole g c =
    on_err c.carry_out.result (inr (c.carry_out.ensures.stable ∙ (once_open c.args.writes.now (g.E.Eeprom.byte_count c.args.device.now) (g.E.Eeprom.contents c.args.device.now) (g.E.Eeprom.contents c.write_entries.new.device) (g.E.Eeprom.contents c.program.new.device)
    c.requires.roomy (g.met.E.Eeprom.told_length c.args.device.now) c.requires.settled c.write_entries.ensures.bounds c.requires.some c.requires.usable
    c.in_ok-write_entries.ensures.ok c.in_ok-program.ensures.ok).1))

pub returns-in_err-program-clause-calls : goal.returns-in_err-program-clause-calls
returns-in_err-program-clause-calls g c =
    let spelled = calls_at 128 (length (entries c.args.writes.now)) in
    record {
      all = search rules;
      no_more =
          on_err c.from_residual-in_err-program.result (fewer (spelled + 1) (calls_to_commit c.args.writes.now) (g.E.Eeprom.meter c.args.device.now).programs (g.E.Eeprom.meter c.program.new.device).programs (omega arith)
          (then_at_most spelled 1 (g.E.Eeprom.meter c.args.device.now).programs (g.E.Eeprom.meter c.write_entries.new.device).programs (g.E.Eeprom.meter c.program.new.device).programs c.in_ok-write_entries.ensures.calls.all c.in_err-program.ensures.calls.no_more));
    }

pub returns-clause-calls : goal.returns-clause-calls
returns-clause-calls g c =
    let spelled = calls_at 128 (length (entries c.args.writes.now)) in
    then_calls (spelled + 1) (calls_of c.args.writes.now + 1) (g.E.Eeprom.meter c.args.device.now).programs (g.E.Eeprom.meter c.program.new.device).programs (g.E.Eeprom.meter c.carry_out.new.device).programs c.carry_out.result
    (then_all spelled 1 (g.E.Eeprom.meter c.args.device.now).programs (g.E.Eeprom.meter c.write_entries.new.device).programs (g.E.Eeprom.meter c.program.new.device).programs c.in_ok-write_entries.ensures.calls.all c.in_ok-program.ensures.calls.all) c.carry_out.ensures.calls
