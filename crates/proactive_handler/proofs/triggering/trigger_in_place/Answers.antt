use Rattle.std.proofs.Common.{sym, subst, ℕ, ◌≢◌, All, AllPairs}
use Rattle.list_laws.proofs.MapLemmas.{all_unmapped}
use Rattle.list_laws.proofs.AllPairsLemmas.{pairs_unmap}
use Rattle.uicc_types.specs.declared.identifiers.Shelf.{Shelf}
use Rattle.card_commits.specs.Entries.{HasRowOn}
use Rattle.proactive_handler.proofs.triggering.trigger_in_place.Goals as goal

pub trigger_each-requires-clause-rows : goal.trigger_each-requires-clause-rows
trigger_each-requires-clause-rows g c =
    all_unmapped (HasRowOn c.args.loaded.now) (λ (s : Shelf). s.0) _ (subst (All (HasRowOn c.args.loaded.now)) (sym c.as_slice.ensures.value) c.requires.rows)

pub trigger_each-requires-clause-apart : goal.trigger_each-requires-clause-apart
trigger_each-requires-clause-apart g c =
    pairs_unmap (λ (a b : ℕ). a ≢ b) (λ (s : Shelf). s.0) _ (subst (AllPairs (λ (a b : ℕ). a ≢ b)) (sym c.as_slice.ensures.value) c.requires.apart)

pub returns-clause-untold : goal.returns-clause-untold
returns-clause-untold g c = λ other apart.
    c.trigger_each.ensures.untold other (all_unmapped (λ (shelf : ℕ). shelf ≢ other) (λ (s : Shelf). s.0) _ (subst (All (λ (shelf : ℕ). shelf ≢ other)) (sym c.as_slice.ensures.value) apart))
