use Rattle.std.proofs.Common.{◌≡◌, take, drop, option_map}
use Rattle.uicc_types.specs.Calls.{IsCalm}
use Rattle.store_form.specs.Pieces.{applied}
use Rattle.update_journal.specs.Calls.{calls_of}
use Rattle.update_journal.proofs.CallsLemmas.{CallsLeft}
use Rattle.update_journal.proofs.steps.write_pieces.Given as goal

abbrev pub invariant-loop-at : goal.invariant-loop-at
invariant-loop-at g l = record {
  so_far : g.E.Eeprom.contents l.device ≡ option_map (applied (take l.at l.writes)) (g.E.Eeprom.contents l.initial.device);
  size : g.E.Eeprom.byte_count l.device ≡ g.E.Eeprom.byte_count l.initial.device;
  calls : CallsLeft (calls_of (drop l.at l.writes)) (calls_of l.writes) (g.E.Eeprom.meter l.initial.device).programs (g.E.Eeprom.meter l.device).programs;
  calm : IsCalm (g.E.Eeprom.meter l.initial.device) (g.E.Eeprom.meter l.device);
}
