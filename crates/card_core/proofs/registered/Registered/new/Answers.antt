use Rattle.std.proofs.Common.{◌≡◌, List, replicate, rules, sym, subst, refl, All}
use Rattle.std.proofs.lemmas.List.Elements.{All-replicate}
use Rattle.list_laws.proofs.MapLemmas.{all_alike}
use Rattle.card_state.specs.Blank.{unused_row}
use Rattle.card_state.specs.declared.entries.Row.{Row}
use Rattle.card_core.specs.Registered.{IsUsedOrBlank}
use Rattle.card_core.proofs.registered.Registered.new.Goals as goal

pub returns-clause-rows : goal.returns-clause-rows
returns-clause-rows c = all_alike c.from_fn.result 32 _ c.from_fn.ensures.items.long (λ k d below. let h = (c.from_fn.ensures.items.at k d below).2 in search (rules, h))

pub invariant_of-result : goal.invariant_of-result
invariant_of-result c =
    let rows : List Row = c.from_fn.result in
    let unused : rows ≡ replicate 32 unused_row = all_alike c.from_fn.result 32 unused_row c.from_fn.ensures.items.long (λ k d below. let h = (c.from_fn.ensures.items.at k d below).2 in search (rules, h)) in
    record { blank = subst (All IsUsedOrBlank) (sym unused) (All-replicate IsUsedOrBlank 32 unused_row (λ not_used. refl)) }
