-- An index that stands for the rows of a table, after each change of one of them.
use Rattle.std.proofs.Common.{◌≡◌, refl, sym, ap, ◌∙◌, subst, ℕ, true, List, [], ◌∷◌, ◌≢◌, Ok}
use Rattle.card_state.specs.declared.entries.Row.{Row}
use Rattle.card_state.specs.declared.entries.Loaded.{Loaded}
use Rattle.card_state.specs.Persistent.{Registration}
use Rattle.toolkit_model.specs.Order.{targets}
use Rattle.toolkit_model.specs.Orderly.{IsRegistered}
use Rattle.toolkit_model.specs.Registry.{is_registered, registers, with_code, without_code, with_kept, without_row}
use Rattle.toolkit_model.specs.Steps.{AreRows}
use Rattle.event_dispatch.specs.Changes.{AreListed, Keeps}
use Rattle.event_dispatch.specs.Indexes.{targets_in, StandsFor}
use Rattle.event_dispatch.proofs.ChangesAreFollowedLemmas.{registrations_followed, changes_followed}

module _ (rows rows' : List Registration) (shelf : ℕ) (listed : AreListed rows) where
  pub kept_follows : (bytes : List ℕ) → rows' ≡ with_kept rows shelf bytes → (lists : List (List ℕ)) → StandsFor lists rows → StandsFor lists rows'
  kept_follows bytes is lists stands = subst (StandsFor lists) (sym is) (changes_followed (Keeps shelf bytes ∷ []) rows lists lists listed (tt, tt) stands (lists, refl, refl)).1

  module _ (code : ℕ) (old new : List (List ℕ)) (stands : StandsFor old rows) where
    pub added_follows : rows' ≡ with_code rows shelf code → IsRegistered rows shelf → registers rows shelf code ≡ Ok true
        → (AreRows rows' → is_registered rows' shelf code ≡ true → targets_in old code ≡ targets (without_row rows' shelf) code → targets_in new code ≡ targets rows' code)
        → ((other : ℕ) → other ≢ code → targets_in new other ≡ targets_in old other) → StandsFor new rows'
    added_follows is there may here others =
        let follows = registrations_followed rows shelf code old listed (there, may) stands in
        let here_then =
        subst (λ (all : List Registration). AreRows all → is_registered all shelf code ≡ true → targets_in old code ≡ targets (without_row all shelf) code → targets_in new code ≡ targets all code) is here in
        subst (StandsFor new) (sym is) (follows.stands new (record { here = here_then follows.rows_are follows.registered follows.lacks; others = others }))

    pub removed_follows : rows' ≡ without_code rows shelf code → ((all : List Registration) → AreRows all → StandsFor old all → StandsFor new (without_code all shelf code)) → StandsFor new rows'
    removed_follows is follows = subst (StandsFor new) (sym is) (follows rows listed.rows_are stands)

-- a table that differs in its rows alone
pub rows_alone_differ : (old new : Loaded) (rows : List Row) → new ≡ record old { rows = rows } → new ≡ record old { rows = new.rows }
rows_alone_differ old new rows is = is ∙ ap (λ (r : List Row). record old { rows = r }) (sym (ap (λ (t : Loaded). t.rows) is))
