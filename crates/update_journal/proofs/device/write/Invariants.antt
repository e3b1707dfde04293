use Rattle.std.proofs.Common.{◌≡◌, ◌+◌, length, false}
use Rattle.uicc_types.specs.Calls.{IsCalm}
use Rattle.update_journal.specs.Calls.{calls_at}
use Rattle.update_journal.proofs.CallsLemmas.{CallsLeft}
use Rattle.update_journal.proofs.PatchedLemmas.{PartWritten}
use Rattle.update_journal.proofs.device.write.Given as goal

abbrev pub decreases-loop-rest : goal.decreases-loop-rest
decreases-loop-rest g l = length l.rest

abbrev pub invariant-loop-rest : goal.invariant-loop-rest
invariant-loop-rest g l = record {
  ahead : l.place + length l.rest ≡ l.fn.at + length l.fn.bytes;
  so_far : PartWritten l.fn.at l.place l.fn.bytes l.rest (g.E.Eeprom.contents l.initial.device) (g.E.Eeprom.contents l.device);
  size : g.E.Eeprom.byte_count l.device ≡ g.E.Eeprom.byte_count l.initial.device;
  calm : IsCalm (g.E.Eeprom.meter l.initial.device) (g.E.Eeprom.meter l.device);
  calls : CallsLeft (calls_at l.place (length l.rest)) (calls_at l.fn.at (length l.fn.bytes)) (g.E.Eeprom.meter l.initial.device).programs (g.E.Eeprom.meter l.device).programs;
  off : (g.E.Eeprom.meter l.initial.device).powered ≡ false → (l.device ≡ l.initial.device) × (l.rest ≡ l.fn.bytes);
}
