use Rattle.std.proofs.Common.{List, ℕ, Option, sym, ap, ◌∙◌}
use Rattle.list_laws.proofs.IfSomeLemmas.{if_some, if_some_at, if_ok_from}
use Rattle.card_state.specs.Memory.{held_by}
use Rattle.file_model.specs.declared.descriptors.Descriptor.{Descriptor}
use Rattle.file_model.specs.Access.{arr_found, granted_by}
use Rattle.binary_commands.proofs.RulingRecordLemmas.{by_record, by_no_linear, by_none}
use Rattle.binary_commands.proofs.access.is_granted.Goals as goal

pub returns-in-Some-clause-value : goal.returns-in-Some-clause-value
returns-in-Some-clause-value g c =
    if_ok_from c.is_granted_by.result _ _ c.is_granted_by.ensures.value (λ truth known.
    if_some (held_by g.S.Store c.args.store.now) _ (λ state is.
    let told = c.tables_tell_states.ensures (g.S.Store.store_mark c.args.store.now) (g.S.Store.stable c.args.store.now) c.args.loaded.now state c.requires.mounted.agrees is in
    if_some_at (held_by g.S.Store c.args.store.now) _ state known is
    ∙ sym (ap (λ (r : Option (List ℕ)). granted_by r c.args.op c.args.seen.now)
    (by_record state c.args.file.now c.args.rule c.in-Some.arr
    (ap (λ (files : List Descriptor). arr_found files c.args.file.now.parent c.args.rule.arr) told.files ∙ sym c.nearest_ef.ensures.value ∙ c.in-Some.is) c.if-arr-eq-LINEAR.true))))

pub returns-in_default-clause-value : goal.returns-in_default-clause-value
returns-in_default-clause-value g c =
    if_some (held_by g.S.Store c.args.store.now) _ (λ state is.
    let told = c.tables_tell_states.ensures (g.S.Store.store_mark c.args.store.now) (g.S.Store.stable c.args.store.now) c.args.loaded.now state c.requires.mounted.agrees is in
    sym (ap (λ (r : Option (List ℕ)). granted_by r c.args.op c.args.seen.now)
    (by_no_linear state c.args.file.now c.args.rule c.in-Some.arr
    (ap (λ (files : List Descriptor). arr_found files c.args.file.now.parent c.args.rule.arr) told.files ∙ sym c.nearest_ef.ensures.value ∙ c.in-Some.is) c.if-arr-eq-LINEAR.false)))

pub returns-in_default-2-clause-value : goal.returns-in_default-2-clause-value
returns-in_default-2-clause-value g c =
    if_some (held_by g.S.Store c.args.store.now) _ (λ state is.
    let told = c.tables_tell_states.ensures (g.S.Store.store_mark c.args.store.now) (g.S.Store.stable c.args.store.now) c.args.loaded.now state c.requires.mounted.agrees is in
    sym (ap (λ (r : Option (List ℕ)). granted_by r c.args.op c.args.seen.now)
    (by_none state c.args.file.now c.args.rule
    (ap (λ (files : List Descriptor). arr_found files c.args.file.now.parent c.args.rule.arr) told.files ∙ sym c.nearest_ef.ensures.value ∙ c.in_default.is))))
