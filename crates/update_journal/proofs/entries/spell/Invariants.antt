use Rattle.std.proofs.Common.{◌≡◌, ◌∷◌, length, take, flat_map}
use Rattle.update_journal.specs.Entries.{entry}
use Rattle.update_journal.proofs.entries.spell.Given as goal

abbrev pub invariant-loop-at : goal.invariant-loop-at
invariant-loop-at g l = l.spelled ≡ length l.writes ∷ flat_map entry (take l.at l.writes)
