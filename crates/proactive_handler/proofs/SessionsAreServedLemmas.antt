-- A registration of a table has a row on its shelf.
use Rattle.std.proofs.Common.{◌≡◌, sym, subst, ℕ, true, List, [], map, get_or, Option, IsSomeAnd, Contains, All}
use Rattle.std.proofs.lemmas.List.Elements.{All-map, All-weaker, Contains-get_or}
use Rattle.card_state.specs.declared.entries.Row.{Row}
use Rattle.card_state.specs.declared.entries.Loaded.{Loaded}
use Rattle.card_state.specs.Persistent.{Registration}
use Rattle.card_state.specs.StateLaws.{RowsComeFromEntries, StatesAreOfTables, IsOfRow}
use Rattle.card_state.specs.States.{rows_of}
use Rattle.card_commits.specs.Entries.{HasRowOn}
use Rattle.toolkit_model.specs.Orderly.{IsRegistered, asks}
use Rattle.proactive_handler.specs.Serving.{SessionsAreServed}

pub row_has : (table : Loaded) (row : Registration) → IsOfRow table row → HasRowOn table row.shelf
row_has table row of = subst (λ (o : Option Row). IsSomeAnd o (λ r. r.used ≡ true)) (sym of.has.there) of.has.used

module _ (come : RowsComeFromEntries) (tables : StatesAreOfTables) (table : Loaded) where
  each_has : All (λ row. HasRowOn table row.shelf) (rows_of table)
  each_has = λ k d low.
      let row : Registration = get_or (rows_of table) k d in
      row_has table row (come table [] row (subst (λ (rows : List Registration). Contains rows row) (sym (tables table []).rows) (Contains-get_or (rows_of table) k d low)))

  pub registered_has : (shelf : ℕ) → IsRegistered (rows_of table) shelf → HasRowOn table shelf
  registered_has shelf there =
      let all : All (HasRowOn table) (map (λ row. row.shelf) (rows_of table)) = All-map (HasRowOn table) (λ row. row.shelf) (rows_of table) each_has in
      subst (HasRowOn table) there.2 (all there.0 shelf there.1)

pub sessions_served : RowsComeFromEntries → StatesAreOfTables → SessionsAreServed
sessions_served come tables = λ table session underway. record {
  apart = underway.apart;
  askers = All-weaker (λ sent. IsRegistered (rows_of table) sent.shelf) (λ sent. HasRowOn table sent.shelf) (λ sent. registered_has come tables table sent.shelf) (asks session) underway.askers;
  late = All-weaker (λ trigger. IsRegistered (rows_of table) trigger.shelf) (λ trigger. HasRowOn table trigger.shelf) (λ trigger. registered_has come tables table trigger.shelf) session.late underway.late_rows;
}
