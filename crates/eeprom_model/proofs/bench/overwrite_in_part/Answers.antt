use Rattle.std.proofs.Common.{arith}
use Rattle.std.proofs.lemmas.Grind.{common_steps}
use Rattle.eeprom_model.proofs.CutBytesLemmas.{cut_in_two}
use Rattle.eeprom_model.proofs.bench.overwrite_in_part.Goals as goal

pub returns : goal.returns
returns c = let e = cut_in_two c.args.at c.min-kept.result c.args.cut c.args.bytes.now c.args.memory.now (search (arith, c.min-kept.ensures)) c.requires in grind (arith, common_steps, e)
