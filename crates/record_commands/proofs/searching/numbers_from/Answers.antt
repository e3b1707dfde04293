use Rattle.std.proofs.Common.{ℕ, ◌∙◌, ap, ◌==◌, filter}
use Rattle.list_laws.proofs.IfSomeLemmas.{if_some, if_some_at, if_ok_from}
use Rattle.card_state.specs.Memory.{held_by}
use Rattle.record_commands.specs.Searching.{is_match, left_from, numbers_left}
use Rattle.record_commands.proofs.NumbersLeftLemmas.{matched_left}
use Rattle.record_commands.proofs.searching.numbers_from.Goals as goal

pub returns-clause-found : goal.returns-clause-found
returns-clause-found g c =
    if_ok_from c.matches_of.result _ _ c.matches_of.ensures.found (λ found known.
    if_some (held_by g.S.Store c.args.store.now) _ (λ state is.
    if_some_at (held_by g.S.Store c.args.store.now) _ state known is
    ∙ ap (λ (n : ℕ). filter (is_match state c.args.file.now c.command.inside.body.now) (numbers_left (c.mode_in-is_forward.result == 4) 1 c.args.file.now.count n)) c.left_from-count.ensures.value
    ∙ (λ i. filter (is_match state c.args.file.now (c.command.view_is i).body) (numbers_left (c.mode_in-is_forward.ensures i == 4) 1 c.args.file.now.count (left_from (c.mode_in-is_forward.ensures i == 4) c.args.file.now.count c.args.from)))
    ∙ matched_left state c.args.file.now c.args.command.now c.args.from c.requires.from))
