-- The tags 80 (128), of an access mode byte, and 84 (132), of an instruction byte.
use Rattle.std.proofs.Common.{get_or, refl, arith}
use Rattle.access_rules.specs.Rules.{by_bits, by_instruction}
use Rattle.access_rules.proofs.PairLemmas.{one_byte}
use Rattle.access_rules.proofs.rule_records.is_named.Goals as goal

pub returns-in-128-len1-clause-found : goal.returns-in-128-len1-clause-found
returns-in-128-len1-clause-found c =
    (by_bits (get_or c.args.value.now 0 0), c.in-128-len1.is-0, one_byte _ (omega arith) (omega arith), rw c.mode_bit.ensures refl)

pub returns-in-132-len1-clause-found : goal.returns-in-132-len1-clause-found
returns-in-132-len1-clause-found c =
    (by_instruction (get_or c.args.value.now 0 0), c.in-132-len1.is-0, one_byte _ (omega arith) (omega arith), rw c.instruction.ensures refl)
