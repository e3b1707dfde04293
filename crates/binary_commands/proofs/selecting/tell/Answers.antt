use Rattle.file_model.specs.Files.{descriptors_of}
use Rattle.binary_commands.proofs.SelectingLemmas.{short_fits}
use Rattle.binary_commands.proofs.selecting.tell.Goals as goal

pub put_parameters-requires-clause-short : goal.put_parameters-requires-clause-short
put_parameters-requires-clause-short c = short_fits (descriptors_of c.args.loaded.now) c.args.file.now c.short_identifiers_fit.ensures c.requires.numbered
