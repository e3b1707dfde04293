use Rattle.phone_runs.proofs.DetailsAreReadLemmas.{responses_read}
use Rattle.phone_runs.proofs.fetching.responses_are_read.Goals as goal

pub returns : goal.returns
returns c = responses_read c.exact_reading.ensures.objects
