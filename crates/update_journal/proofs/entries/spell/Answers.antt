-- The count and the entries up to each piece are the front of all entries, so where one of them doesn't fit, all are too long.
use Rattle.std.proofs.Common.{◌∷◌, ◌++◌, ℕ, List, length, sym, ap, ◌∙◌, arith, flat_map, take_all}
use Rattle.list_laws.proofs.IfSomeLemmas.{on_err}
use Rattle.update_journal.specs.Entries.{entry, entries}
use Rattle.update_journal.proofs.EntriesLemmas.{next_entry, length-entries}
use Rattle.update_journal.proofs.entries.spell.Goals as goal

pub returns-in_err-append-clause-full : goal.returns-in_err-append-clause-full
unfolding entries
returns-in_err-append-clause-full g c = on_err c.from_residual.result (grind (arith, c.in_err-append.ensures.room, c.requires.empty))

pub returns-in_err-append-clause-fits : goal.returns-in_err-append-clause-fits
returns-in_err-append-clause-fits g c = length-entries c.args.writes.now c.len-count.ensures.bounds

pub add_entry-requires : goal.add_entry-requires
add_entry-requires g c =
    let next = next_entry c.args.writes.now c.loop-at.at _ c.piece-place.ensures in (grind arith, omega (arith, next.2, c.len-count.ensures.bounds.total))

pub returns-in_err-add_entry-clause-full : goal.returns-in_err-add_entry-clause-full
unfolding entries
returns-in_err-add_entry-clause-full g c =
    let next = next_entry c.args.writes.now c.loop-at.at _ c.piece-place.ensures in
    on_err c.from_residual-in_err-add_entry.result (omega (arith, next.1, ap length c.loop-at.invariant, c.in_err-add_entry.ensures.full))

pub returns-in_err-add_entry-clause-fits : goal.returns-in_err-add_entry-clause-fits
returns-in_err-add_entry-clause-fits g c = length-entries c.args.writes.now c.len-count.ensures.bounds

pub loop-at-preserved : goal.loop-at-preserved
loop-at-preserved g c =
    let next = next_entry c.args.writes.now c.loop-at.at _ c.piece-place.ensures in
    c.in_ok-add_entry.ensures.ok ∙ ap (λ (l : List ℕ). l ++ entry (record { place = c.piece-place.result.0; bytes = c.piece-place.result.1.now })) c.loop-at.invariant
    ∙ ap (λ (l : List ℕ). length c.args.writes.now ∷ l) (sym next.0)

pub returns-clause-ok : goal.returns-clause-ok
unfolding entries
returns-clause-ok g c =
    c.loop-at.invariant ∙ ap (λ (l : _). length c.args.writes.now ∷ flat_map entry l) (take_all c.loop-at.at c.args.writes.now (omega (arith, c.len-count.ensures.value)))

pub returns-clause-fits : goal.returns-clause-fits
returns-clause-fits g c = length-entries c.args.writes.now c.len-count.ensures.bounds
