use Rattle.std.proofs.Common.{List, ℕ, Option, sym, ap, ◌∙◌, inl, inr, IsTrue}
use Rattle.list_laws.proofs.IfSomeLemmas.{if_some, if_some_at}
use Rattle.card_state.specs.Kinds.{has_records}
use Rattle.card_state.specs.Memory.{held_by}
use Rattle.access_rules.specs.Reading.{grants}
use Rattle.file_model.specs.Holdings.{records_in}
use Rattle.file_model.specs.Access.{granted_by}
use Rattle.binary_commands.proofs.RulingRecordLemmas.{no_record, record_there}
use Rattle.binary_commands.proofs.access.is_granted_by.Goals as goal
use Rattle.binary_commands.proofs.access.is_granted_by.Goals.{then-number-eq0-via-then-number-eq0, then-number-eq0-via-else-number-eq0+then-arr-number}

pub returns-then-number-eq0-clause-value : goal.returns-then-number-eq0-clause-value
returns-then-number-eq0-clause-value g c =
    let has : IsTrue (has_records c.args.arr.now.kind) = ap has_records c.requires.linear in
    if_some (held_by g.S.Store c.args.store.now) _ (λ state is.
    let whole = c.contents_are_whole.ensures.records (g.S.Store.store_mark c.args.store.now) (g.S.Store.stable c.args.store.now) c.args.loaded.now state c.args.arr.now.number c.args.arr.now c.requires.mounted.agrees is c.requires.numbered has in
    sym (ap (λ (r : Option (List ℕ)). granted_by r c.args.op c.args.seen.now) (no_record (records_in state c.args.arr.now.number) c.args.arr.now.count c.args.number whole.0
    (elim c.then-number-eq0.branch [ then-number-eq0-via-then-number-eq0 w ↦ inl w.if-number-eq0.true | then-number-eq0-via-else-number-eq0+then-arr-number w ↦ inr w.if-arr-number.true ]))))

pub returns-clause-value : goal.returns-clause-value
returns-clause-value g c =
    let has : IsTrue (has_records c.args.arr.now.kind) = ap has_records c.requires.linear in
    if_some (held_by g.S.Store c.args.store.now) _ (λ state is.
    let whole = c.contents_are_whole.ensures.records (g.S.Store.store_mark c.args.store.now) (g.S.Store.stable c.args.store.now) c.args.loaded.now state c.args.arr.now.number c.args.arr.now c.requires.mounted.agrees is c.requires.numbered has in
    let read = if_some_at (held_by g.S.Store c.args.store.now) _ state c.in_ok-read_record.ensures.read is in
    c.allowed.ensures.value
    ∙ ap (λ (r : List ℕ). grants r c.args.op c.args.seen.now) read
    ∙ sym (ap (λ (r : Option (List ℕ)). granted_by r c.args.op c.args.seen.now)
    (record_there (records_in state c.args.arr.now.number) c.args.arr.now.count c.args.number whole.0 c.if-number-eq0.false c.if-arr-number.false)))
