use Rattle.std.proofs.Common.{rules}
use Rattle.list_laws.proofs.MapLemmas.{all_alike}
use Rattle.card_state.proofs.entries.Loaded.new.Goals as goal

pub returns-clause-rows : goal.returns-clause-rows
returns-clause-rows c = all_alike c.from_fn.result 32 _ c.from_fn.ensures.items.long (λ k d below. let h = (c.from_fn.ensures.items.at k d below).2 in search (rules, h))
