use Rattle.applet_trait.proofs.IsLawfulLemmas.{act_lawful}
use Rattle.applet_trait.proofs.laws.turns_are_lawful.Goals as goal

pub returns : goal.returns
returns c = act_lawful
