-- Where a journal stands in the memory.
use Rattle.std.proofs.Common.{◌≡◌, refl}
use Rattle.update_journal.specs.declared.steps.TheConstants.{ENTRIES, GATE, OPEN}

-- its gate is byte 64, which stands open where it is 5A, and its entries begin at byte 128
gate_place : GATE ≡ 64
gate_place = refl

gate_open : OPEN ≡ 0x5A
gate_open = refl

entries_place : ENTRIES ≡ 128
entries_place = refl
