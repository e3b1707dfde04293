use Rattle.card_laws.proofs.FittingLemmas.{stands_fits}
use Rattle.card_laws.proofs.rereading.what_stands_fits.Goals as goal

pub returns : goal.returns
returns c = stands_fits
