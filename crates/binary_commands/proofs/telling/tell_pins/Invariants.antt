use Rattle.binary_commands.proofs.PinToldLemmas.{AreTold}
use Rattle.binary_commands.proofs.telling.tell_pins.Given as goal

abbrev pub invariant-loop-pin : goal.invariant-loop-pin
invariant-loop-pin l = AreTold l.pin-items l.pin-index l.told
