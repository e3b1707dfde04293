-- The codes of a row's events in the order of the table.
use Rattle.std.proofs.Common.{get_or, ℕ, Bool, List, filter, ◌==◌, Contains}
use Rattle.std.specs.List.{list_any}
use Rattle.std.proofs.lemmas.List.Elements.{All-contains, All-map, filter_passes}
use Rattle.list_laws.proofs.ContainsLemmas.{number_there}
use Rattle.card_state.specs.Kinds.{event_codes}
use Rattle.card_state.specs.Sections.{sorted_codes}

-- each is one that was given
pub of_sorted : (codes : List ℕ) (code : ℕ) → Contains (sorted_codes codes) code → Contains codes code
of_sorted codes code there =
    let is_there : ℕ × ℕ → Bool = λ event. list_any (λ other. other == event.0) codes in
    All-contains (Contains codes) (sorted_codes codes) code
    (All-map (Contains codes) (λ event. event.0) (filter is_there event_codes) (λ k d low. number_there codes (get_or (filter is_there event_codes) k d).0 (filter_passes is_there event_codes k d low))) there
