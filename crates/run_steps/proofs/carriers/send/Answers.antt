use Rattle.run_steps.proofs.ComesLemmas.{came}
use Rattle.run_steps.proofs.carriers.send.Goals as goal

pub returns : goal.returns
returns g c = came c.transmit.result c.args.end.now c.transmit.new.self c.args.apdu.now c.transmit.new.out c.transmit.ensures.moves
