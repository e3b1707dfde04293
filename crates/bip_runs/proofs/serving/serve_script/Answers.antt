use Rattle.std.proofs.Common.{refl}
use Rattle.byte_streams.proofs.ReadingLemmas.{IsTaken-within, IsWithin-start}
use Rattle.bip_runs.proofs.IsServingLemmas.{serves_first}
use Rattle.bip_runs.proofs.serving.serve_script.Goals as goal

pub returns-clause-comes : goal.returns-clause-comes
returns-clause-comes g c = λ text told.
    c.serve_lines.ensures.comes text _ (serves_first text _ _ _ c.new-script.result c.args.bip.now c.new-script.ensures.reader c.new-script.ensures.number told refl c.requires.new)

pub returns-clause-taken : goal.returns-clause-taken
returns-clause-taken g c = λ text told.
    IsTaken-within text _ _ (c.serve_lines.ensures.within text (IsWithin-start text _ _ c.new-script.ensures.reader told))
