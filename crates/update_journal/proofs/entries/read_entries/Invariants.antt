use Rattle.std.proofs.Common.{◌≡◌, ◌≤◌, ◌-◌, length, All}
use Rattle.store_form.specs.Pieces.{byte_total, IsUsablePiece}
use Rattle.update_journal.proofs.PiecesInLemmas.{Reads}
use Rattle.update_journal.proofs.entries.read_entries.Given as goal

abbrev pub invariant-loop : goal.invariant-loop
invariant-loop l = record {
  reads : Reads l.fn.size l.fn.area l.writes (l.end - l.counter) l.rest;
  usable : All (IsUsablePiece l.fn.size) l.writes;
  counted : length l.writes ≡ l.counter;
  few : byte_total l.writes ≤ 640;
}
