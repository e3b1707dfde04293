use Rattle.applet_trait.proofs.IsProperActLemmas.{act_proper}
use Rattle.applet_trait.proofs.laws.commands_are_proper.Goals as goal

pub returns : goal.returns
returns c = act_proper
