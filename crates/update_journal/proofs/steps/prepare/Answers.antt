use Rattle.std.proofs.Common.{◌≡◌, ◌<◌, ◌∙◌, sym, ap, arith, length, option_map}
use Rattle.std.proofs.lemmas.Bool.Decides.{nat_tests}
use Rattle.std.proofs.lemmas.Result.{on_ok_weaker, on_err_weaker}
use Rattle.list_laws.proofs.IfSomeLemmas.{on_ok, on_err}
use Rattle.uicc_types.specs.Counts.{raised_by}
use Rattle.update_journal.specs.Calls.{calls_at}
use Rattle.update_journal.specs.Journal.{stable_of}
use Rattle.update_journal.proofs.CallsLemmas.{no_calls, none_made}
use Rattle.update_journal.proofs.IsUnderWayLemmas.{nothing_put, once_prepared, while_preparing}
use Rattle.update_journal.proofs.steps.prepare.Goals as goal

pub returns-then-is_empty-clause-ok : goal.returns-then-is_empty-clause-ok
returns-then-is_empty-clause-ok g c =
    let none : length c.args.bytes.now ≡ 0 = grind (arith, nat_tests, c.if-is_empty.ensures) in
    on_ok c.read.result (ap (λ (o : _). option_map stable_of o) c.read.ensures.contents ∙ nothing_put (option_map stable_of (g.E.Eeprom.contents c.args.device.now)) c.args.at c.args.bytes.now none)

pub returns-else-is_empty-clause-ok : goal.returns-else-is_empty-clause-ok
returns-else-is_empty-clause-ok g c =
    let some : 0 < length c.args.bytes.now = grind (arith, nat_tests, c.if-is_empty.ensures) in
    on_ok_weaker c.write.result (λ put. (once_prepared c.args.at (g.E.Eeprom.byte_count c.args.device.now) c.args.bytes.now (g.E.Eeprom.contents c.args.device.now) (g.E.Eeprom.contents c.write.new.device)
    (g.met.E.Eeprom.told_length c.args.device.now) c.requires.settled some c.requires.usable put).0) c.write.ensures.ok

pub returns-else-is_empty-clause-closed : goal.returns-else-is_empty-clause-closed
returns-else-is_empty-clause-closed g c =
    let some : 0 < length c.args.bytes.now = grind (arith, nat_tests, c.if-is_empty.ensures) in
    on_ok_weaker c.write.result (λ put. (once_prepared c.args.at (g.E.Eeprom.byte_count c.args.device.now) c.args.bytes.now (g.E.Eeprom.contents c.args.device.now) (g.E.Eeprom.contents c.write.new.device)
    (g.met.E.Eeprom.told_length c.args.device.now) c.requires.settled some c.requires.usable put).1) c.write.ensures.ok

pub returns-else-is_empty-clause-torn : goal.returns-else-is_empty-clause-torn
returns-else-is_empty-clause-torn g c =
    let some : 0 < length c.args.bytes.now = grind (arith, nat_tests, c.if-is_empty.ensures) in
    on_err_weaker c.write.result (λ torn. while_preparing c.args.at (length c.args.bytes.now) (g.E.Eeprom.byte_count c.args.device.now) (g.E.Eeprom.contents c.args.device.now) (g.E.Eeprom.contents c.write.new.device)
    (g.met.E.Eeprom.told_length c.args.device.now) c.requires.settled some c.requires.usable torn) c.write.ensures.torn

pub returns-then-is_empty-clause-left : goal.returns-then-is_empty-clause-left
returns-then-is_empty-clause-left g c =
    let none : length c.args.bytes.now ≡ 0 = grind (arith, nat_tests, c.if-is_empty.ensures) in
    on_ok c.read.result (c.read.ensures.contents ∙ nothing_put (g.E.Eeprom.contents c.args.device.now) c.args.at c.args.bytes.now none)

pub returns-then-is_empty-clause-calls : goal.returns-then-is_empty-clause-calls
returns-then-is_empty-clause-calls g c =
    let none : length c.args.bytes.now ≡ 0 = grind (arith, nat_tests, c.if-is_empty.ensures) in
    record {
      all = on_ok c.read.result (c.read.ensures.calls ∙ ap (λ n. raised_by n (g.E.Eeprom.meter c.args.device.now).programs) (sym (ap (λ n. calls_at c.args.at n) none ∙ no_calls c.args.at)));
      no_more = on_err c.read.result (none_made (calls_at c.args.at (length c.args.bytes.now)) (g.E.Eeprom.meter c.args.device.now).programs (g.E.Eeprom.meter c.read.new.device).programs c.read.ensures.calls);
    }
