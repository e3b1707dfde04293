use Rattle.std.proofs.Common.{◌≡◌, sym}
use Rattle.uicc_run.proofs.running.make.Goals as goal

pub returns-in-Some-clause-half_made : goal.returns-in-Some-clause-half_made
returns-in-Some-clause-half_made g c = λ described is.
    let same : c.in-Some.section ≡ described = cc in
    rw (sym same) c.format.ensures.first_last
