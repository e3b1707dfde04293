use Rattle.std.proofs.Common.{◌≡◌, ◌+◌, length, sym, ◌∙◌, subst, refl, ap, arith, rules, take-append-drop, false}
use Rattle.std.proofs.lemmas.Bool.Decides.{nat_tests}
use Rattle.list_laws.proofs.IfSomeLemmas.{on_err}
use Rattle.uicc_types.proofs.IsCalmLemmas.{calm_same, caused_then, calm_ok}
use Rattle.update_journal.specs.Calls.{calls_at}
use Rattle.update_journal.proofs.CallsLemmas.{all_left, after_some, none_left, fault_in, next_part, no_calls, some_call}
use Rattle.update_journal.proofs.PatchedLemmas.{begun, goes_on, torn_short}
use Rattle.update_journal.proofs.device.write.Goals as goal

pub loop-rest-init : goal.loop-rest-init
loop-rest-init g c = record {
  ahead = refl;
  so_far = begun c.args.at c.args.bytes.now (g.E.Eeprom.contents c.args.device.now);
  size = refl;
  calm = calm_same (g.E.Eeprom.meter c.args.device.now);
  calls = all_left (calls_at c.args.at (length c.args.bytes.now)) (g.E.Eeprom.meter c.args.device.now).programs;
  off = λ off. (refl, refl);
}

pub overflow_add-place : goal.overflow_add-place
overflow_add-place g c = omega (arith, c.loop-rest.invariant.ahead, c.requires, c.size-size.ensures.size, c.size-size.type_inv, c.split_at.ensures.front_len, c.split_at.ensures.back_len)

pub returns-in_err-program-clause-torn : goal.returns-in_err-program-clause-torn
returns-in_err-program-clause-torn g c =
    on_err c.from_residual.result (torn_short c.args.at c.loop-rest.place (g.E.Eeprom.byte_count c.args.device.now) c.args.bytes.now c.loop-rest.rest.now c.split_at.result.0.now c.split_at.result.1.now
    (g.E.Eeprom.contents c.args.device.now) (g.E.Eeprom.contents c.loop-rest.device) (g.E.Eeprom.contents c.program.new.device) (g.met.E.Eeprom.told_length c.args.device.now) c.requires c.loop-rest.invariant.so_far
    (rw (c.split_at.ensures.front, c.split_at.ensures.back) (sym (take-append-drop c.min.result c.loop-rest.rest.now))) c.in_err-program.ensures.torn)

pub loop-rest-preserved : goal.loop-rest-preserved
loop-rest-preserved g c = record {
  ahead = omega (arith, c.loop-rest.invariant.ahead, c.split_at.ensures.front_len, c.split_at.ensures.back_len);
  so_far = goes_on c.args.at c.loop-rest.place (c.loop-rest.place + length c.split_at.result.0.now) (g.E.Eeprom.byte_count c.args.device.now) c.args.bytes.now c.loop-rest.rest.now c.split_at.result.0.now c.split_at.result.1.now
      (g.E.Eeprom.contents c.args.device.now) (g.E.Eeprom.contents c.loop-rest.device) (g.E.Eeprom.contents c.program.new.device) (g.met.E.Eeprom.told_length c.args.device.now) c.requires c.loop-rest.invariant.so_far
      (rw (c.split_at.ensures.front, c.split_at.ensures.back) (sym (take-append-drop c.min.result c.loop-rest.rest.now))) refl c.in_ok-program.ensures.ok;
  size = c.in_ok-program.ensures.size ∙ c.loop-rest.invariant.size;
  calm = caused_then _ (g.E.Eeprom.meter c.loop-rest.device) _ c.loop-rest.invariant.calm (calm_ok _ _ (λ e. cc) (λ e. cc) c.in_ok-program.ensures.cause);
  calls = after_some 1 (calls_at c.loop-rest.place (length c.loop-rest.rest.now)) (calls_at (c.loop-rest.place + length c.split_at.result.0.now) (length c.split_at.result.1.now)) (calls_at c.args.at (length c.args.bytes.now))
      (g.E.Eeprom.meter c.args.device.now).programs (g.E.Eeprom.meter c.loop-rest.device).programs (g.E.Eeprom.meter c.program.new.device).programs c.loop-rest.invariant.calls
      (next_part c.loop-rest.place (length c.loop-rest.rest.now) (length c.split_at.result.0.now) (length c.split_at.result.1.now) (grind (arith, nat_tests, c.is_empty.ensures, c.loop-rest-test.true))
      (omega (arith, c.split_at.ensures.front_len, c.min.ensures)) (omega (arith, c.split_at.ensures.front_len, c.split_at.ensures.back_len))) c.in_ok-program.ensures.calls.all;
  off = λ off. absurd (
      let same = c.loop-rest.invariant.off off in
      let P : _ → Type 0 = λ device. (g.E.Eeprom.meter device).powered ≡ false in
      let answer = (c.in_ok-program.ensures.off (subst P (sym same.0) off)).0 in cc answer
      );
}

pub returns-in_err-program-clause-calls : goal.returns-in_err-program-clause-calls
returns-in_err-program-clause-calls g c = record {
  all = search rules;
  no_more =
      on_err c.from_residual.result (fault_in 1 (calls_at c.loop-rest.place (length c.loop-rest.rest.now)) (calls_at c.args.at (length c.args.bytes.now)) (g.E.Eeprom.meter c.args.device.now).programs (g.E.Eeprom.meter c.loop-rest.device).programs (g.E.Eeprom.meter c.program.new.device).programs
      c.loop-rest.invariant.calls (some_call c.loop-rest.place (length c.loop-rest.rest.now) (grind (arith, nat_tests, c.is_empty.ensures, c.loop-rest-test.true))) c.in_err-program.ensures.calls.no_more);
}

pub returns-clause-calls : goal.returns-clause-calls
returns-clause-calls g c =
    let none : length c.loop-rest.rest.now ≡ 0 = grind (arith, nat_tests, c.is_empty.ensures, c.loop-rest-test.false) in
    record {
      all = none_left (calls_at c.loop-rest.place (length c.loop-rest.rest.now)) (calls_at c.args.at (length c.args.bytes.now)) (g.E.Eeprom.meter c.args.device.now).programs (g.E.Eeprom.meter c.loop-rest.device).programs c.loop-rest.invariant.calls
          (ap (λ n. calls_at c.loop-rest.place n) none ∙ no_calls c.loop-rest.place);
      no_more = search rules;
    }
