use Rattle.std.proofs.Common.{sym, ◌∙◌}
use Rattle.file_model.specs.Files.{descriptors_of}
use Rattle.record_commands.proofs.IsTargetLemmas.{target_of}
use Rattle.record_commands.proofs.targets.record_file.Goals as goal

pub returns-clause-target : goal.returns-clause-target
returns-clause-target c =
    target_of (descriptors_of c.args.loaded.now) c.args.selection.now c.args.demand.short c.args.demand.structure c.in_ok-file.file c.records_are_there.ensures c.in_ok-file.ensures.numbered c.in_ok-file.ensures.lawful
    (sym c.fits.ensures ∙ c.if-not-fits.false)
