use Rattle.std.proofs.Common.{◌≡◌, ℕ, ◌+◌, refl, subst, ◌∙◌, arith, drop, length, option_map, rules}
use Rattle.list_laws.proofs.IfSomeLemmas.{on_err}
use Rattle.list_laws.specs.Patches.{patched, Torn}
use Rattle.uicc_types.specs.Told.{Becomes}
use Rattle.uicc_types.proofs.IsCalmLemmas.{calm_same, caused_then, calm_ok}
use Rattle.uicc_types.specs.Counts.{raised_by}
use Rattle.update_journal.specs.Calls.{calls_at, calls_of, MadeAtMost}
use Rattle.update_journal.proofs.CallsLemmas.{all_left, after_some, none_left, fault_in, calls_from, calls_behind}
use Rattle.update_journal.proofs.IsUnderWayLemmas.{none_written, piece_written, all_written, piece_torn, piece_inside}
use Rattle.update_journal.proofs.steps.write_pieces.Goals as goal

pub loop-at-init : goal.loop-at-init
loop-at-init g c = record { so_far = none_written (g.E.Eeprom.contents c.args.device.now); size = refl; calls = all_left (calls_of c.args.writes.now) (g.E.Eeprom.meter c.args.device.now).programs; calm = calm_same (g.E.Eeprom.meter c.args.device.now) }

pub write-requires : goal.write-requires
write-requires g c =
    let inside = piece_inside c.args.writes.now c.loop-at.at _ (g.E.Eeprom.byte_count c.args.device.now) c.requires c.piece-place.ensures in omega (arith, inside, c.from.ensures, c.loop-at.invariant.size)

pub returns-in_err-write-clause-rewritten : goal.returns-in_err-write-clause-rewritten
returns-in_err-write-clause-rewritten g c =
    let place : ℕ → Type 0 = λ place. Becomes (Torn place (length c.piece-place.result.1.now)) (g.E.Eeprom.contents c.loop-at.device) (g.E.Eeprom.contents c.write.new.device) in
    on_err c.from_residual.result (piece_torn c.args.writes.now c.loop-at.at (record { place = c.piece-place.result.0; bytes = c.piece-place.result.1.now }) (g.E.Eeprom.byte_count c.args.device.now)
    (g.E.Eeprom.contents c.args.device.now) (g.E.Eeprom.contents c.loop-at.device) (g.E.Eeprom.contents c.write.new.device) (g.met.E.Eeprom.told_length c.args.device.now) c.requires c.piece-place.ensures c.loop-at.invariant.so_far
    (subst place c.from.ensures c.in_err-write.ensures.torn))

pub loop-at-preserved : goal.loop-at-preserved
loop-at-preserved g c =
    let put : ℕ → Type 0 = λ place. g.E.Eeprom.contents c.write.new.device ≡ option_map (patched place c.piece-place.result.1.now) (g.E.Eeprom.contents c.loop-at.device) in
    record {
      so_far = piece_written c.args.writes.now c.loop-at.at (record { place = c.piece-place.result.0; bytes = c.piece-place.result.1.now })
          (g.E.Eeprom.contents c.args.device.now) (g.E.Eeprom.contents c.loop-at.device) (g.E.Eeprom.contents c.write.new.device) c.piece-place.ensures c.loop-at.invariant.so_far (subst put c.from.ensures c.in_ok-write.ensures.ok);
      size = c.in_ok-write.ensures.size ∙ c.loop-at.invariant.size;
      calls =
          let place : ℕ → Type 0 = λ place. (g.E.Eeprom.meter c.write.new.device).programs ≡ raised_by (calls_at place (length c.piece-place.result.1.now)) (g.E.Eeprom.meter c.loop-at.device).programs in
          after_some (calls_at c.piece-place.result.0 (length c.piece-place.result.1.now)) _ (calls_of (drop (c.loop-at.at + 1) c.args.writes.now)) _ _ _ _ c.loop-at.invariant.calls
          (calls_from c.args.writes.now c.loop-at.at (record { place = c.piece-place.result.0; bytes = c.piece-place.result.1.now }) c.piece-place.ensures) (subst place c.from.ensures c.in_ok-write.ensures.calls.all);
      calm = caused_then _ (g.E.Eeprom.meter c.loop-at.device) _ c.loop-at.invariant.calm (calm_ok _ _ (λ e. cc) (λ e. cc) c.in_ok-write.ensures.cause);
    }

pub returns-clause-ok : goal.returns-clause-ok
returns-clause-ok g c = all_written c.args.writes.now c.loop-at.at (g.E.Eeprom.contents c.args.device.now) (g.E.Eeprom.contents c.loop-at.device) (omega (arith, c.len-at-end.ensures.value)) c.loop-at.invariant.so_far

pub returns-in_err-write-clause-calls : goal.returns-in_err-write-clause-calls
returns-in_err-write-clause-calls g c =
    let place : ℕ → Type 0 = λ place. MadeAtMost (calls_at place (length c.piece-place.result.1.now)) (g.E.Eeprom.meter c.loop-at.device).programs (g.E.Eeprom.meter c.write.new.device).programs in
    let piece = calls_from c.args.writes.now c.loop-at.at (record { place = c.piece-place.result.0; bytes = c.piece-place.result.1.now }) c.piece-place.ensures in
    record {
      all = search rules;
      no_more =
          on_err c.from_residual.result (fault_in (calls_at c.piece-place.result.0 (length c.piece-place.result.1.now)) (calls_of (drop c.loop-at.at c.args.writes.now)) (calls_of c.args.writes.now) (g.E.Eeprom.meter c.args.device.now).programs (g.E.Eeprom.meter c.loop-at.device).programs (g.E.Eeprom.meter c.write.new.device).programs
          c.loop-at.invariant.calls (omega (arith, piece)) (subst place c.from.ensures c.in_err-write.ensures.calls.no_more));
    }

pub returns-clause-calls : goal.returns-clause-calls
returns-clause-calls g c = record {
  all = none_left _ _ _ _ c.loop-at.invariant.calls (calls_behind c.args.writes.now c.loop-at.at (omega (arith, c.len-at-end.ensures.value)));
  no_more = search rules;
}
