use Rattle.std.proofs.Common.{rules, arith, replicate, length}
use Rattle.std.proofs.lemmas.List.{length-replicate}
use Rattle.std.proofs.lemmas.Grind.{common_steps}
use Rattle.eeprom_model.specs.Bench.{cut_bytes}
use Rattle.eeprom_model.proofs.CutBytesLemmas.{Torn_by, length-cut_bytes}
use Rattle.eeprom_model.proofs.bench.BenchEepromEeprom.program.Goals as goal

pub returns-in-Some-clause-torn : goal.returns-in-Some-clause-torn
returns-in-Some-clause-torn c =
    Torn_by _ _ (cut_bytes c.in-Some.cut c.args.bytes.now) _ _ (length-cut_bytes c.in-Some.cut c.args.bytes.now) (search rules) (grind (arith, common_steps))

pub returns-in-Some-planned_failure-clause-torn : goal.returns-in-Some-planned_failure-clause-torn
returns-in-Some-planned_failure-clause-torn c =
    Torn_by _ _ (replicate (length c.args.bytes.now) c.in-Some-planned_failure.fail.rest) _ _ (length-replicate _ _) (search rules) (grind (arith, common_steps))
