use Rattle.phone_runs.proofs.DetailsAreReadLemmas.{details_read}
use Rattle.phone_runs.proofs.fetching.details_are_read.Goals as goal

pub returns : goal.returns
returns c = details_read c.exact_reading.ensures.objects c.exact_reading.ensures.template c.spelled_is_read.ensures.has_its_objects
