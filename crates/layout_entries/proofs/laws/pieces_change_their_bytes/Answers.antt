use Rattle.list_laws.proofs.PatchesLemmas.{range-patched_apart, range-patched_inside}
use Rattle.layout_entries.proofs.laws.pieces_change_their_bytes.Goals as goal

pub returns-clause-beside : goal.returns-clause-beside
returns-clause-beside c = λ content bytes place at count fits inside apart. range-patched_apart place bytes content fits at count inside apart

pub returns-clause-around : goal.returns-clause-around
returns-clause-around c = λ content bytes at offset count inside fits. range-patched_inside at offset count bytes content inside fits
